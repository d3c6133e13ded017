-- What is added to a list element by element.
use Rattle.std.proofs.Common.{◌≡◌, ℕ, ◌+◌, ◌<◌, List, [], ◌∷◌, ◌++◌, length, drop, get_or, refl, sym, ap, ◌∙◌}
use Rattle.std.proofs.lemmas.List.{drop_more}

-- with the rest added to what is there now, there is what all make of what was there before
pub record IsAdding {X : Type 0} (before now all rest : List X) : Type 0 where
  pub same : now ++ rest ≡ before ++ all

pub there : {X : Type 0} (xs : List X) (i : ℕ) (x : X) → i < length xs → x ≡ get_or xs i x → drop i xs ≡ x ∷ drop (i + 1) xs
there xs i x low is = drop_more xs i x low ∙ ap (λ y. y ∷ drop (i + 1) xs) (sym is)

pub append_none : {X : Type 0} (ys : List X) → ys ++ [] ≡ ys
append_none [] = refl
append_none (y ∷ ys) = ap (λ zs. y ∷ zs) (append_none ys)
