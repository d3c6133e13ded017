-- Of things that stand apart, two that overlap are one.
use Rattle.std.proofs.Common.{◌≡◌, ◌⊎◌, ℕ, inl, inr, List, [], ◌∷◌, get_or, Contains, sym, ◌∙◌, arith, subst}
use Rattle.std.specs.List.{AllPairs}
use Rattle.std.proofs.lemmas.Bool.{cases_eq, cases_lt}
use Rattle.list_lemmas.proofs.Members.{In}
use Rattle.patch.proofs.ChosenLemmas.{Pairs}
use Rattle.patch.proofs.LeastLemmas.{element_at}

pub alone : {X : Type 0} (R : X → X → Type 0) (xs : List X) (x y : X) → AllPairs R xs → Contains xs x → Contains xs y → (R x y → ⊥) → (R y x → ⊥) → x ≡ y
alone {X = X} R xs x y apart (i, low, is_x) (j, high, is_y) not_first not_second = elim (cases_lt i j) [
  | inl less ↦
      let pair = apart i j x less high in
      let there : get_or xs j x ≡ y = element_at xs j x y high ∙ is_y in
      absurd (not_first (subst (λ (z : X). R x z) there (subst (λ (z : X). R z (get_or xs j x)) is_x pair)))
  | inr more ↦ elim (cases_eq i j) [
    | inl e ↦ sym is_x ∙ subst (λ (n : ℕ). get_or xs n x ≡ y) (sym e) (element_at xs j x y high ∙ is_y)
    | inr differ ↦
        let pair = apart j i y (omega (arith, more, differ)) low in
        let there : get_or xs i y ≡ x = element_at xs i y x low ∙ is_x in
        absurd (not_second (subst (λ (z : X). R y z) there (subst (λ (z : X). R z (get_or xs i y)) is_y pair)))
  ]
]

-- two of some are one, or stand in one of the two orders
pub either : {X : Type 0} (R : X → X → Type 0) (xs : List X) (x y : X) → Pairs R xs → In x xs → In y xs → (x ≡ y) ⊎ (R x y ⊎ R y x)
either R [] x y pairs h k = absurd h
either R (z ∷ xs) x y pairs (inl e) (inl f) = inl (sym e ∙ f)
either {X = X} R (z ∷ xs) x y pairs (inl e) (inr k) = inr (inl (subst (λ (w : X). R w y) e (pairs.0 y k)))
either {X = X} R (z ∷ xs) x y pairs (inr h) (inl f) = inr (inr (subst (λ (w : X). R w x) f (pairs.0 x h)))
either R (z ∷ xs) x y pairs (inr h) (inr k) = either R xs x y pairs.1 h k
