-- What stands in a pool at the place of a symbol.
use Rattle.std.proofs.Common.{◌≡◌, ℕ, ◌<◌, ◌≤◌, Bool, false, All, List, length, map, get_or, Option, Some, None, refl, sym, ap, subst, ◌∙◌, inl, inr}
use Rattle.std.specs.Prelude.{slice_get, unwrap_or}
use Rattle.std.specs.List.{list_any}
use Rattle.std.specs.Option.{option_and_then, option_map}
use Rattle.std.proofs.lemmas.Bool.{cases_Bool, false≢true}
use Rattle.std.proofs.lemmas.List.{get_or-map, length-map}
use Rattle.std.proofs.lemmas.List.Folds.{list_any_at, list_any_none}
use Rattle.std.proofs.lemmas.Option.{get_or_from_slice_get, slice_get-get_or, slice_get-map, slice_get_past, slice_get_within}
use Rattle.mo_types.specs.declared.goal.Goal.{Goal}
use Rattle.mo_types.specs.declared.goal.Goal.TheVariants.{Nobody}
use Rattle.resolve.specs.Table.{AreWithin, Tabled, goal_in, goals_in, goals_of}

pub goal_within : (pool : List Goal) (place : ℕ) (d : Goal) → place < length pool → goal_in pool place ≡ get_or pool place d
goal_within pool place d low = ap (λ goal. unwrap_or goal Nobody) (slice_get-get_or pool place d low)

pub there : (pool : List Goal) (places : List ℕ) (index place : ℕ) (goal : Goal) → index < length places → place ≡ get_or places index place → place < length pool → goal ≡ get_or pool place goal → Some goal ≡ slice_get (goals_in pool places) index
unfolding goals_in
there pool places index place goal low is within found =
    ap (λ x. Some x) (found ∙ sym (goal_within pool place goal within))
    ∙ sym (slice_get-map (goal_in pool) places index ∙ ap (option_map (goal_in pool)) (slice_get-get_or places index place low ∙ ap (λ x. Some x) (sym is)))

pub not_there : (pool : List Goal) (places : List ℕ) (index : ℕ) → length places ≤ index → None ≡ slice_get (goals_in pool places) index
unfolding goals_in
not_there pool places index past = sym (slice_get-map (goal_in pool) places index ∙ ap (option_map (goal_in pool)) (slice_get_past places index past))

pub ruleset found = (there, not_there)

-- ---- files

pub file_there : (table : Tabled) (at : ℕ) (pool : List Goal) (places : List ℕ) → pool ≡ table.pool → Some places ≡ slice_get table.places at → Some (goals_in pool places) ≡ slice_get (goals_of table) at
unfolding goals_of
file_there table at pool places same is =
    ap (λ p. Some (goals_in p places)) same ∙ ap (option_map (goals_in table.pool)) is ∙ sym (slice_get-map (goals_in table.pool) table.places at)

pub no_file : (table : Tabled) (at : ℕ) → None ≡ slice_get table.places at → None ≡ slice_get (goals_of table) at
unfolding goals_of
no_file table at is = ap (option_map (goals_in table.pool)) is ∙ sym (slice_get-map (goals_in table.pool) table.places at)

pub ruleset files = (file_there, no_file)

-- ---- what is known of each goal of a pool, by a symbol's place

-- a value for each goal of a pool, found by a symbol's place, is that for the symbol's goal
pub told : {X : Type 0} (f : Goal → X) (pool : List Goal) (places : List ℕ) (index : ℕ) → AreWithin pool places → option_and_then (slice_get (map f pool)) (slice_get places index) ≡ option_map f (slice_get (goals_in pool places) index)
unfolding goals_in
told f pool places index within = by (slice_get places index) refl
  where
    by : (p : Option ℕ) → slice_get places index ≡ p → option_and_then (slice_get (map f pool)) (slice_get places index) ≡ option_map f (slice_get (map (goal_in pool) places) index)
    by None is =
        ap (option_and_then (slice_get (map f pool))) is
        ∙ sym (ap (option_map f) (slice_get-map (goal_in pool) places index ∙ ap (option_map (goal_in pool)) is))
    by (Some place) is =
        let low : place < length pool = rw (← get_or_from_slice_get places index place 0 is) (within index 0 (slice_get_within places index place is)) in
        ap (option_and_then (slice_get (map f pool))) is
        ∙ slice_get-map f pool place
        ∙ ap (option_map f) (slice_get-get_or pool place Nobody low ∙ ap (λ goal. Some goal) (sym (goal_within pool place Nobody low)))
        ∙ sym (ap (option_map f) (slice_get-map (goal_in pool) places index ∙ ap (option_map (goal_in pool)) is))

pub fails : (test : Goal → Bool) (pool : List Goal) (place : ℕ) (d : Goal) → place < length pool → list_any test pool ≡ false → test (get_or pool place d) ≡ false
fails test pool place d low none =
    elim (cases_Bool (test (get_or pool place d))) [
      | inl passes ↦ absurd (false≢true (sym none ∙ list_any_at test pool place d low passes))
      | inr is ↦ is
    ]

-- where no goal of a pool passes a test, no symbol's goal does
pub none_passes : (test : Goal → Bool) (pool : List Goal) (places : List ℕ) → AreWithin pool places → list_any test pool ≡ false → list_any test (goals_in pool places) ≡ false
unfolding goals_in
none_passes test pool places within none = list_any_none test (map (goal_in pool) places) each
  where
    each : All (λ goal. test goal ≡ false) (map (goal_in pool) places)
    each k d low =
        let low' : k < length places = subst (λ n. k < n) (length-map places (goal_in pool)) low in
        let place : get_or places k 0 < length pool = within k 0 low' in
        ap test (get_or-map (goal_in pool) places k 0 d low' ∙ goal_within pool (get_or places k 0) Nobody place)
        ∙ fails test pool (get_or places k 0) Nobody place none
