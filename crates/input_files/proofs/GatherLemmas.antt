-- What loops gather, element by element.
use Rattle.std.proofs.Common.{◌≡◌, ℕ, ◌+◌, ◌<◌, ◌≤◌, ◌++◌, List, [], ◌∷◌, length, map, take, get_or, sym, ap, ◌∙◌, append-nil, append_assoc, arith}
use Rattle.std.specs.List.{flat_map, range_with_len}
use Rattle.std.proofs.lemmas.List.{take_all, take_more}
use Rattle.std.proofs.lemmas.List.Concat.{flat_map-append}
use Rattle.std.proofs.lemmas.List.Folds.{flat_map-map}
use Rattle.std.proofs.lemmas.List.FromFn.{map-range_with_len_more}
use Rattle.mo_types.specs.declared.key.FileId.{FileId}
use Rattle.input_files.specs.Files.{all_ids, ids_in}
use Rattle.input_files.specs.Sources.{inputs_of}
use Rattle.input_files.specs.declared.sources.Source.{Source}
use Rattle.input_files.specs.inner.Holding.{member_at}

-- what was gathered of the elements before a place
pub record IsGathering {X Y : Type 0} (before now : List Y) (f : X → List Y) (xs : List X) (i : ℕ) : Type 0 where
  pub gathered : now ≡ before ++ flat_map f (take i xs)

pub gather_start : {X Y : Type 0} (before : List Y) (f : X → List Y) (xs : List X) → IsGathering before before f xs 0
gather_start before f xs = record { gathered = sym (append-nil before) }

pub gather_empty : {X Y : Type 0} (now : List Y) (f : X → List Y) (xs : List X) → now ≡ [] → IsGathering [] now f xs 0
gather_empty now f xs none = record { gathered = none }

pub gather_step : {X Y : Type 0} (before now next : List Y) (f : X → List Y) (xs : List X) (i : ℕ) (x : X) → IsGathering before now f xs i → i < length xs → x ≡ get_or xs i x → next ≡ now ++ f x → IsGathering before next f xs (i + 1)
gather_step {X = X} {Y = Y} before now next f xs i x so low is more = record {
  gathered =
      more ∙ ap (λ (ys : List Y). ys ++ f x) so.gathered ∙ append_assoc before (flat_map f (take i xs)) (f x)
      ∙ ap (λ (ys : List Y). before ++ (flat_map f (take i xs) ++ ys)) (sym (append-nil (f x)))
      ∙ ap (λ (ys : List Y). before ++ ys) (sym (flat_map-append f (take i xs) (x ∷ [])) ∙ ap (flat_map f) (sym (take_more xs i x low ∙ ap (λ (y : X). take i xs ++ y ∷ []) (sym is))));
}

pub gather_end : {X Y : Type 0} (before now : List Y) (f : X → List Y) (xs : List X) (i : ℕ) → IsGathering before now f xs i → length xs ≤ i → now ≡ before ++ flat_map f xs
gather_end {X = X} {Y = Y} before now f xs i so past = so.gathered ∙ ap (λ (ys : List X). before ++ flat_map f ys) (take_all i xs past)

-- ---- ids

pub ids_gathered : (now : List FileId) (sources : List Source) (i : ℕ) → IsGathering [] now (λ source. ids_in source.input) sources i → length sources ≤ i → now ≡ all_ids (inputs_of sources)
unfolding all_ids
ids_gathered now sources i so past = gather_end [] now (λ source. ids_in source.input) sources i so past ∙ sym (flat_map-map ids_in (λ (source : Source). source.input) sources)

-- the members so far
pub record AreMembers (before now : List FileId) (position i : ℕ) : Type 0 where
  pub are : now ≡ before ++ map (member_at position) (range_with_len 1 i)

pub members_start : (before : List FileId) (position : ℕ) → AreMembers before before position 0
members_start before position = record { are = sym (append-nil before) }

pub members_step : (before now next : List FileId) (position i m : ℕ) → AreMembers before now position i → m ≡ i + 1 → next ≡ now ++ member_at position m ∷ [] → AreMembers before next position (i + 1)
members_step before now next position i m so is more = record {
  are =
      more ∙ ap (λ (ids : List FileId). ids ++ member_at position m ∷ []) so.are ∙ append_assoc before (map (member_at position) (range_with_len 1 i)) (member_at position m ∷ [])
      ∙ ap (λ (ids : List FileId). before ++ ids) (sym (map-range_with_len_more (member_at position) 1 i m (let e : 1 + i ≡ m = omega (arith, is) in e)));
}

pub members_end : (before now : List FileId) (position i n : ℕ) → AreMembers before now position i → i ≡ n → now ≡ before ++ map (member_at position) (range_with_len 1 n)
members_end before now position i n so is = so.are ∙ ap (λ (m : ℕ). before ++ map (member_at position) (range_with_len 1 m)) is

pub ruleset members = (members_start, members_step, members_end)

pub ruleset gathers = (gather_empty, gather_step, ids_gathered)
