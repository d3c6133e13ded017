-- What holds of each two elements of a list.
use Rattle.std.proofs.Common.{◌≡◌, suc, ◌⊎◌, List, [], ◌∷◌, inl, inr, refl, sym, ◌∙◌, subst, arith}
use Rattle.std.specs.List.{AllPairs, flat_map}
use Rattle.list_lemmas.proofs.Members.{Contains_from_in, In, from_flat}
use Rattle.patch.proofs.ChosenLemmas.{Pairs, pairs_join}

pub pairs_all : {X : Type 0} (R : X → X → Type 0) (xs : List X) → AllPairs R xs → Pairs R xs
pairs_all R [] all = tt
pairs_all R (x ∷ xs) all = (
  (λ y h. let there = Contains_from_in xs y h in subst (λ (z : _). R x z) there.2 (all 0 (suc there.0) y (omega arith) (omega (arith, there.1)))),
  pairs_all R xs (λ i j d low high. all (suc i) (suc j) d (omega (arith, low)) (omega (arith, high))),
)

pub flat_pairs : {X Y : Type 0} (f : X → List Y) (R : X → X → Type 0) (S : Y → Y → Type 0) (xs : List X) → Pairs R xs → ((x : X) → In x xs → Pairs S (f x)) → ((x y : X) (a b : Y) → In x xs → In y xs → R x y → In a (f x) → In b (f y) → S a b) → Pairs S (flat_map f xs)
flat_pairs f R S [] pairs each cross = tt
flat_pairs f R S (x ∷ xs) pairs each cross =
    pairs_join S (f x) (flat_map f xs) (each x (inl refl)) (flat_pairs f R S xs pairs.1 (λ y h. each y (inr h)) (λ y z a b h k. cross y z a b (inr h) (inr k)))
    (λ a b h k. let of = from_flat f xs b k in cross x of.0 a b (inl refl) (inr of.1) (pairs.0 of.0 of.1) h of.2)

-- two members of pairs are the same, or in one order
pub of_pairs : {X : Type 0} (R : X → X → Type 0) (xs : List X) (x y : X) → Pairs R xs → In x xs → In y xs → (x ≡ y) ⊎ (R x y ⊎ R y x)
of_pairs R [] x y pairs h k = absurd h
of_pairs R (z ∷ xs) x y pairs (inl e) (inl f) = inl (sym e ∙ f)
of_pairs R (z ∷ xs) x y pairs (inl e) (inr k) = inr (inl (subst (λ (w : _). R w y) e (pairs.0 y k)))
of_pairs R (z ∷ xs) x y pairs (inr h) (inl f) = inr (inr (subst (λ (w : _). R w x) f (pairs.0 x h)))
of_pairs R (z ∷ xs) x y pairs (inr h) (inr k) = of_pairs R xs x y pairs.1 h k
