-- Loops that append what each element gives.
use Rattle.std.proofs.Common.{◌≡◌, ℕ, ◌+◌, ◌<◌, ◌≤◌, List, [], ◌∷◌, ◌++◌, length, drop, get_or, refl, sym, ap, ◌∙◌, append_assoc, append-nil, Option, Some, None}
use Rattle.std.specs.List.{filter_map, flat_map}
use Rattle.std.proofs.lemmas.List.{at_drop_more, at_drop_all}

-- ---- lists that each element gives

pub record IsPutting {X Y : Type 0} (f : X → List Y) (xs : List X) (old : List Y) (at : ℕ) (now : List Y) : Type 0 where
  pub rest : now ++ flat_map f (drop at xs) ≡ old ++ flat_map f xs

pub putting_starts : {X Y : Type 0} (f : X → List Y) (xs : List X) (old : List Y) → IsPutting f xs old 0 old
putting_starts f xs old = record { rest = refl }

pub putting_goes_on : {X Y : Type 0} (f : X → List Y) (xs : List X) (old : List Y) (at : ℕ) (now new : List Y) (x : X) → IsPutting f xs old at now → at < length xs → x ≡ get_or xs at x → new ≡ now ++ f x → IsPutting f xs old (at + 1) new
putting_goes_on {X} {Y} f xs old at now new x putting within is e = record {
  rest = ap (λ (z : List Y). z ++ flat_map f (drop (at + 1) xs)) (e ∙ ap (λ (y : X). now ++ f y) is)
      ∙ append_assoc now (f (get_or xs at x)) (flat_map f (drop (at + 1) xs))
      ∙ ap (λ (z : List Y). now ++ z) (sym (at_drop_more (flat_map f) xs at x within))
      ∙ putting.rest;
}

pub putting_ends : {X Y : Type 0} (f : X → List Y) (xs : List X) (old : List Y) (at : ℕ) (now : List Y) → IsPutting f xs old at now → length xs ≤ at → now ≡ old ++ flat_map f xs
putting_ends {X} {Y} f xs old at now putting past =
    sym (append-nil now) ∙ ap (λ (z : List Y). now ++ z) (sym (at_drop_all (flat_map f) xs at past)) ∙ putting.rest

pub putting_ends_new : {X Y : Type 0} (f : X → List Y) (xs : List X) (at : ℕ) (now : List Y) → IsPutting f xs [] at now → length xs ≤ at → now ≡ flat_map f xs
putting_ends_new f xs at now putting past = putting_ends f xs [] at now putting past

pub ruleset putting = (putting_starts, putting_goes_on, putting_ends, putting_ends_new)

-- ---- elements that some elements give

pub record IsChoosing {X Y : Type 0} (f : X → Option Y) (xs : List X) (old : List Y) (at : ℕ) (now : List Y) : Type 0 where
  pub rest : now ++ filter_map f (drop at xs) ≡ old ++ filter_map f xs

pub choosing_starts : {X Y : Type 0} (f : X → Option Y) (xs : List X) (old : List Y) → IsChoosing f xs old 0 old
choosing_starts f xs old = record { rest = refl }

pub head_some : {X Y : Type 0} (f : X → Option Y) (x : X) (xs : List X) (y : Y) → f x ≡ Some y → filter_map f (x ∷ xs) ≡ y ∷ filter_map f xs
head_some f x xs y e = rw e refl

pub head_none : {X Y : Type 0} (f : X → Option Y) (x : X) (xs : List X) → f x ≡ None → filter_map f (x ∷ xs) ≡ filter_map f xs
head_none f x xs e = rw e refl

pub choosing_adds : {X Y : Type 0} (f : X → Option Y) (xs : List X) (old : List Y) (at : ℕ) (now new : List Y) (x : X) (y : Y) → IsChoosing f xs old at now → at < length xs → x ≡ get_or xs at x → f x ≡ Some y → new ≡ now ++ y ∷ [] → IsChoosing f xs old (at + 1) new
choosing_adds {X} {Y} f xs old at now new x y choosing within is some e = record {
  rest = ap (λ (z : List Y). z ++ filter_map f (drop (at + 1) xs)) e
      ∙ append_assoc now (y ∷ []) (filter_map f (drop (at + 1) xs))
      ∙ ap (λ (z : List Y). now ++ z) (sym (head_some f (get_or xs at x) (drop (at + 1) xs) y (ap f (sym is) ∙ some)))
      ∙ ap (λ (z : List Y). now ++ z) (sym (at_drop_more (filter_map f) xs at x within))
      ∙ choosing.rest;
}

pub choosing_passes : {X Y : Type 0} (f : X → Option Y) (xs : List X) (old : List Y) (at : ℕ) (now : List Y) (x : X) → IsChoosing f xs old at now → at < length xs → x ≡ get_or xs at x → f x ≡ None → IsChoosing f xs old (at + 1) now
choosing_passes {X} {Y} f xs old at now x choosing within is none = record {
  rest = ap (λ (z : List Y). now ++ z) (sym (head_none f (get_or xs at x) (drop (at + 1) xs) (ap f (sym is) ∙ none)))
      ∙ ap (λ (z : List Y). now ++ z) (sym (at_drop_more (filter_map f) xs at x within))
      ∙ choosing.rest;
}

pub choosing_ends : {X Y : Type 0} (f : X → Option Y) (xs : List X) (old : List Y) (at : ℕ) (now : List Y) → IsChoosing f xs old at now → length xs ≤ at → now ≡ old ++ filter_map f xs
choosing_ends {X} {Y} f xs old at now choosing past =
    sym (append-nil now) ∙ ap (λ (z : List Y). now ++ z) (sym (at_drop_all (filter_map f) xs at past)) ∙ choosing.rest

pub choosing_ends_new : {X Y : Type 0} (f : X → Option Y) (xs : List X) (at : ℕ) (now : List Y) → IsChoosing f xs [] at now → length xs ≤ at → now ≡ filter_map f xs
choosing_ends_new f xs at now choosing past = choosing_ends f xs [] at now choosing past

pub choosing_none : {X Y : Type 0} (f : X → Option Y) (xs : List X) (now : List Y) → now ≡ [] → IsChoosing f xs [] 0 now
choosing_none {X} {Y} f xs now none = record { rest = ap (λ (z : List Y). z ++ filter_map f xs) none }

pub ruleset choosing = (choosing_starts, choosing_adds, choosing_passes, choosing_ends, choosing_ends_new)
