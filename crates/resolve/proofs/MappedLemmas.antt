-- A list that grows by what a function gives for each element of another one.
use Rattle.std.proofs.Common.{◌≡◌, ℕ, ◌+◌, ◌<◌, List, [], ◌∷◌, ◌++◌, length, map, take, get_or, sym, ap, ◌∙◌}
use Rattle.std.proofs.lemmas.List.{map-append, take_more}

-- a list has what a function gives for the elements before a place
pub record IsMapped {X Y : Type 0} (f : X → Y) (now : List Y) (xs : List X) (at : ℕ) : Type 0 where
  pub is : now ≡ map f (take at xs)

pub mapped_more : {X Y : Type 0} (f : X → Y) (now new : List Y) (xs : List X) (at : ℕ) (x d : X) (y : Y) → IsMapped f now xs at → at < length xs → x ≡ get_or xs at d → y ≡ f x → new ≡ now ++ y ∷ [] → IsMapped f new xs (at + 1)
mapped_more {X = X} {Y = Y} f now new xs at x d y mapped low is same more = record {
  is =
      more ∙ ap (λ (ys : List Y). ys ++ y ∷ []) mapped.is
      ∙ ap (λ (v : Y). map f (take at xs) ++ v ∷ []) same
      ∙ sym (ap (map f) (take_more xs at d low ∙ ap (λ (v : X). take at xs ++ v ∷ []) (sym is)) ∙ map-append f (take at xs) (x ∷ []));
}
