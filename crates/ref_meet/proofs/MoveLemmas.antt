-- Lists that grow by what each element of another list gives, in some order.
use Rattle.std.proofs.Common.{◌≡◌, ℕ, ◌+◌, ◌<◌, ◌≤◌, List, [], ◌∷◌, ◌++◌, length, take, drop, get_or, sym, ap, subst, ◌∙◌, append_assoc, IsPermutation}
use Rattle.std.specs.List.{flat_map}
use Rattle.std.specs.Prelude.{Result, Ok, Err, OnOk}
use Rattle.std.proofs.lemmas.Grind.{flat_map-append}
use Rattle.std.proofs.lemmas.List.{append-nil, get_or_default, drop_all, take_all, take_more}
use Rattle.std.proofs.lemmas.List.Sorted.{IsPermutation-append_comm, IsPermutation-append_left, IsPermutation-append_right, IsPermutation-refl, IsPermutation-trans}
use Rattle.list_lemmas.proofs.Places.{from_here}

-- a list has what one had before and what the elements before a place give, in some order
pub record IsMoving {X Y : Type 0} (f : X → List Y) (before now : List Y) (xs : List X) (at : ℕ) : Type 0 where
  pub moved : IsPermutation (before ++ flat_map f (take at xs)) now

same_moved : {X : Type 0} (xs ys zs : List X) → xs ≡ ys → IsPermutation ys zs → IsPermutation xs zs
same_moved {X = X} xs ys zs e h = subst (λ (l : List X). IsPermutation l zs) (sym e) h

pub move_start : {X Y : Type 0} (f : X → List Y) (before : List Y) (xs : List X) → IsMoving f before before xs 0
move_start f before xs = record { moved = same_moved (before ++ []) before before (append-nil before) (IsPermutation-refl before) }

next_given : {X Y : Type 0} (f : X → List Y) (before : List Y) (xs : List X) (at : ℕ) (x : X) → at < length xs → x ≡ get_or xs at x → before ++ flat_map f (take (at + 1) xs) ≡ (before ++ flat_map f (take at xs)) ++ f x
next_given {X = X} {Y = Y} f before xs at x low is =
    ap (λ (ys : List Y). before ++ ys)
    (ap (flat_map f) (take_more xs at x low ∙ ap (λ (y : X). take at xs ++ y ∷ []) (sym is))
    ∙ flat_map-append f (take at xs) (x ∷ [])
    ∙ ap (λ (ys : List Y). flat_map f (take at xs) ++ ys) (append-nil (f x)))
    ∙ sym (append_assoc before (flat_map f (take at xs)) (f x))

pub move_item : {X Y : Type 0} (f : X → List Y) (before now new : List Y) (xs : List X) (at : ℕ) (x : X) → IsMoving f before now xs at → at < length xs → x ≡ get_or xs at x → IsPermutation (now ++ f x) new → IsMoving f before new xs (at + 1)
move_item f before now new xs at x moving low is more = record {
  moved = same_moved (before ++ flat_map f (take (at + 1) xs)) ((before ++ flat_map f (take at xs)) ++ f x) new (next_given f before xs at x low is)
      (IsPermutation-trans ((before ++ flat_map f (take at xs)) ++ f x) (now ++ f x) new
      (IsPermutation-append_left (f x) (before ++ flat_map f (take at xs)) now moving.moved) more);
}

pub move_end : {X Y : Type 0} (f : X → List Y) (before now : List Y) (xs : List X) (at : ℕ) → IsMoving f before now xs at → length xs ≤ at → IsPermutation (before ++ flat_map f xs) now
move_end {X = X} f before now xs at moving past = subst (λ (ys : List X). IsPermutation (before ++ flat_map f ys) now) (take_all at xs past) moving.moved

pub ruleset moves = (move_start, move_item, move_end)

-- ---- from the last one on

-- a list has what one had before and what the elements from a place on give, in some order
pub record IsBacking {X Y : Type 0} (f : X → List Y) (before now : List Y) (xs : List X) (at : ℕ) : Type 0 where
  pub moved : IsPermutation (before ++ flat_map f (drop at xs)) now

pub back_start : {X Y : Type 0} (f : X → List Y) (before : List Y) (xs : List X) (at : ℕ) → length xs ≤ at → IsBacking f before before xs at
back_start {X = X} {Y = Y} f before xs at past = record {
  moved = same_moved (before ++ flat_map f (drop at xs)) before before
      (ap (λ (ys : List X). before ++ flat_map f ys) (drop_all at xs past) ∙ append-nil before) (IsPermutation-refl before);
}

pub back_item : {X Y : Type 0} (f : X → List Y) (before now new : List Y) (xs : List X) (at : ℕ) (x : X) → IsBacking f before now xs (at + 1) → at < length xs → x ≡ get_or xs at x → new ≡ now ++ f x → IsBacking f before new xs at
back_item {X = X} {Y = Y} f before now new xs at x backing low is more = record {
  moved =
      let rest : List Y = flat_map f (drop (at + 1) xs) in
      let here : before ++ flat_map f (drop at xs) ≡ before ++ (f x ++ rest) = ap (λ (ys : List X). before ++ flat_map f ys) (from_here xs at x low is) in
      same_moved (before ++ flat_map f (drop at xs)) (before ++ (f x ++ rest)) new here
      (IsPermutation-trans (before ++ (f x ++ rest)) ((before ++ rest) ++ f x) new
      (subst (λ (ys : List Y). IsPermutation (before ++ (f x ++ rest)) ys) (sym (append_assoc before rest (f x)))
      (IsPermutation-append_right before (f x ++ rest) (rest ++ f x) (IsPermutation-append_comm (f x) rest)))
      (subst (λ (ys : List Y). IsPermutation ((before ++ rest) ++ f x) ys) (sym more) (IsPermutation-append_left (f x) (before ++ rest) now backing.moved)));
}

pub back_end : {X Y : Type 0} (f : X → List Y) (before now : List Y) (xs : List X) (at : ℕ) → IsBacking f before now xs at → at ≡ 0 → IsPermutation (before ++ flat_map f xs) now
back_end f before now xs at backing none = rw none at backing.moved

pub ruleset backs = (back_start, back_item, back_end)

-- ---- steps

pub move_at : {X Y : Type 0} (f : X → List Y) (before now new : List Y) (xs : List X) (at : ℕ) (d : X) → IsMoving f before now xs at → at < length xs → IsPermutation (now ++ f (get_or xs at d)) new → IsMoving f before new xs (at + 1)
move_at f before now new xs at d moving low more = move_item f before now new xs at (get_or xs at d) moving low (get_or_default xs at d (get_or xs at d) low) more

pub back_at : {X Y : Type 0} (f : X → List Y) (before now new : List Y) (xs : List X) (left at : ℕ) (d : X) → IsBacking f before now xs left → left ≡ at + 1 → at < length xs → new ≡ now ++ f (get_or xs at d) → IsBacking f before new xs at
back_at f before now new xs left at d backing one low more =
    back_item f before now new xs at (get_or xs at d) (rw (← one) backing) low (get_or_default xs at d (get_or xs at d) low) more

pub moved_if : {X E : Type 0} (r : Result (Unit {0}) E) (xs new : List X) → OnOk r (new ≡ xs) → OnOk r (IsPermutation xs new)
moved_if {X = X} (Ok u) xs new same = subst (λ (ys : List X). IsPermutation xs ys) (sym same) (IsPermutation-refl xs)
moved_if (Err e) xs new same = tt

pub none_moved : {X : Type 0} (before xs : List X) → xs ≡ [] → IsPermutation (before ++ xs) before
none_moved {X = X} before xs none = same_moved (before ++ xs) before before (ap (λ (ys : List X). before ++ ys) none ∙ append-nil before) (IsPermutation-refl before)
