-- Lists that grow by what each element of another list gives.
use Rattle.std.proofs.Common.{◌≡◌, ℕ, ◌+◌, ◌<◌, ◌≤◌, ◌⊎◌, List, [], ◌∷◌, ◌++◌, length, take, get_or, slice_get, Some, None, sym, ap, ◌∙◌, inl, inr, arith, append_assoc}
use Rattle.std.specs.Prelude.{Option}
use Rattle.std.specs.List.{flat_map}
use Rattle.std.specs.Option.{option_to_list}
use Rattle.std.proofs.lemmas.Grind.{flat_map-append}
use Rattle.std.proofs.lemmas.List.{append-nil, take_all, take_more}
use Rattle.std.proofs.lemmas.Option.{slice_get_cases}

-- the elements before the next place
pub more_taken : {X : Type 0} (xs : List X) (at : ℕ) → take (at + 1) xs ≡ take at xs ++ option_to_list (slice_get xs at)
more_taken {X = X} xs at = by (slice_get_cases xs at).1
  where
    by : ((x : X) × (at < length xs) × (slice_get xs at ≡ Some x) × (get_or xs at x ≡ x)) ⊎ ((length xs ≤ at) × (slice_get xs at ≡ None)) → take (at + 1) xs ≡ take at xs ++ option_to_list (slice_get xs at)
    by (inl (x, low, some, is)) = take_more xs at x low ∙ ap (λ (y : X). take at xs ++ y ∷ []) is ∙ ap (λ (o : Option X). take at xs ++ option_to_list o) (sym some)
    by (inr (past, none)) =
        let high : length xs ≤ at + 1 = omega (arith, past) in
        take_all (at + 1) xs high ∙ sym (take_all at xs past) ∙ sym (append-nil (take at xs)) ∙ ap (λ (o : Option X). take at xs ++ option_to_list o) (sym none)

-- a list that began as one has what the elements before a place give
pub record IsGrowing {X Y : Type 0} (f : X → List Y) (before now : List Y) (xs : List X) (at : ℕ) : Type 0 where
  pub same : now ≡ before ++ flat_map f (take at xs)

pub grow_start : {X Y : Type 0} (f : X → List Y) (before : List Y) (xs : List X) → IsGrowing f before before xs 0
grow_start f before xs = record { same = sym (append-nil before) }

pub grow_at : {X Y : Type 0} (f : X → List Y) (before now new : List Y) (xs : List X) (at : ℕ) → IsGrowing f before now xs at → new ≡ now ++ flat_map f (option_to_list (slice_get xs at)) → IsGrowing f before new xs (at + 1)
grow_at {Y = Y} f before now new xs at grows more = record {
  same =
      more ∙ ap (λ (ys : List Y). ys ++ flat_map f (option_to_list (slice_get xs at))) grows.same
      ∙ append_assoc before (flat_map f (take at xs)) (flat_map f (option_to_list (slice_get xs at)))
      ∙ ap (λ (ys : List Y). before ++ ys) (sym (ap (flat_map f) (more_taken xs at) ∙ flat_map-append f (take at xs) (option_to_list (slice_get xs at))));
}

pub grow_item : {X Y : Type 0} (f : X → List Y) (before now new : List Y) (xs : List X) (at : ℕ) (x d : X) → IsGrowing f before now xs at → at < length xs → x ≡ get_or xs at d → new ≡ now ++ f x → IsGrowing f before new xs (at + 1)
grow_item {X = X} {Y = Y} f before now new xs at x d grows low is more = record {
  same =
      more ∙ ap (λ (ys : List Y). ys ++ f x) grows.same
      ∙ append_assoc before (flat_map f (take at xs)) (f x)
      ∙ ap (λ (ys : List Y). before ++ (flat_map f (take at xs) ++ ys)) (sym (append-nil (f x)))
      ∙ ap (λ (ys : List Y). before ++ ys) (sym (ap (flat_map f) (take_more xs at d low ∙ ap (λ (y : X). take at xs ++ y ∷ []) (sym is)) ∙ flat_map-append f (take at xs) (x ∷ [])));
}

pub grow_end : {X Y : Type 0} (f : X → List Y) (before now : List Y) (xs : List X) (at : ℕ) → IsGrowing f before now xs at → length xs ≤ at → now ≡ before ++ flat_map f xs
grow_end {Y = Y} f before now xs at grows past = grows.same ∙ ap (λ (ys : List Y). before ++ ys) (ap (flat_map f) (take_all at xs past))

pub ruleset grows = (grow_start, grow_at, grow_end)
