-- Symbols whose goals are nowhere.
use Rattle.std.proofs.Common.{◌≡◌, ℕ, zero, suc, ◌+◌, ◌<◌, ◌≤◌, true, false, All, List, [], ◌∷◌, ◌++◌, length, map, take, get_or, refl, sym, ap, ◌∙◌, ◌||◌, subst, arith, Option, Some, None}
use Rattle.std.specs.Prelude.{IfSome, slice_get, fold}
use Rattle.std.specs.List.{enumerate_from, flat_map, list_any}
use Rattle.std.specs.Option.{option_map, option_map_or}
use Rattle.std.proofs.lemmas.List.Folds.{list_any_at, list_any_more}
use Rattle.std.proofs.lemmas.List.{length-map, take_all}
use Rattle.std.proofs.lemmas.Option.{get_or_from_slice_get, slice_get_within, slice_get-map}
use Rattle.resolve.specs.Table.{AreWithin, Pooled, Tabled, goal_in, goals_in, goals_of}
use Rattle.resolve.proofs.PlaceLemmas.{none_passes}
use Rattle.mo_types.specs.declared.goal.Goal.{Goal}
use Rattle.mo_types.specs.declared.key.AtomKey.{AtomKey}
use Rattle.mo_types.specs.declared.loaded.LoadedFile.{LoadedFile}
use Rattle.liveness.specs.Undefined.{is_nobody, least, lesser, lost, lost_at, lost_in}
use Rattle.liveness.proofs.LostLemmas.{unnamed_in}

-- ---- the symbols of a file

-- none of the first symbols' goals is nowhere
pub record IsClear (pool : List Goal) (places : List ℕ) (index : ℕ) : Type 0 where
  pub none : list_any is_nobody (take index (goals_in pool places)) ≡ false

pub clear_start : (pool : List Goal) (places : List ℕ) → IsClear pool places 0
clear_start pool places = record { none = refl }

pub clear_more : (pool : List Goal) (places : List ℕ) (index : ℕ) (goal : Goal) → IsClear pool places index → Some goal ≡ slice_get (goals_in pool places) index → is_nobody goal ≡ false → IsClear pool places (index + 1)
clear_more pool places index goal clear there away =
    let low : index < length (goals_in pool places) = slice_get_within (goals_in pool places) index goal (sym there) in
    record {
      none = list_any_more is_nobody (goals_in pool places) index goal low
          ∙ ap (λ b. b || is_nobody (get_or (goals_in pool places) index goal)) clear.none
          ∙ ap is_nobody (get_or_from_slice_get (goals_in pool places) index goal goal (sym there))
          ∙ away;
    }

ends : {X : Type 0} (xs : List X) (at : ℕ) → slice_get xs at ≡ None → length xs ≤ at
ends [] at e = omega arith
ends (x ∷ xs) zero e = absurd cc
ends (x ∷ xs) (suc at) e = omega (arith, ends xs at e)

pub clear_past : (pool : List Goal) (places : List ℕ) (index : ℕ) → IsClear pool places index → None ≡ slice_get (goals_in pool places) index → IsClear pool places (index + 1)
clear_past pool places index clear none =
    let past : length (goals_in pool places) ≤ index = ends (goals_in pool places) index (sym none) in
    record { none = ap (list_any is_nobody) (take_all (index + 1) (goals_in pool places) (omega (arith, past)) ∙ sym (take_all index (goals_in pool places) past)) ∙ clear.none }

pub clear_end : (pool : List Goal) (places : List ℕ) (index : ℕ) → IsClear pool places index → length places ≤ index → false ≡ list_any is_nobody (goals_in pool places)
unfolding goals_in
clear_end pool places index clear past = sym clear.none ∙ ap (list_any is_nobody) (take_all index (map (goal_in pool) places) (rw (length-map places (goal_in pool)) past))

pub one_nowhere : (pool : List Goal) (places : List ℕ) (index : ℕ) (goal : Goal) → Some goal ≡ slice_get (goals_in pool places) index → is_nobody goal ≡ true → true ≡ list_any is_nobody (goals_in pool places)
one_nowhere pool places index goal there here =
    sym (list_any_at is_nobody (goals_in pool places) index goal (slice_get_within (goals_in pool places) index goal (sym there)) (ap is_nobody (get_or_from_slice_get (goals_in pool places) index goal goal (sym there)) ∙ here))

pub ruleset finds = (clear_start, clear_more, clear_past, clear_end, one_nowhere)

-- ---- the goals of a file of a table

pub goals_there : (table : Tabled) (at : ℕ) (goals : Pooled) (found : Option Pooled) → found ≡ Some goals → option_map (λ (g : Pooled). g.places) found ≡ slice_get table.places at → IfSome found (λ (g : Pooled). g.pool ≡ table.pool) → slice_get (goals_of table) at ≡ Some (goals_in goals.pool goals.places)
unfolding goals_of
goals_there table at goals found is places pool =
    let here : goals.pool ≡ table.pool = subst (λ (o : Option Pooled). IfSome o (λ (g : Pooled). g.pool ≡ table.pool)) is pool in
    slice_get-map (goals_in table.pool) table.places at
    ∙ ap (option_map (goals_in table.pool)) (sym places ∙ ap (option_map (λ (g : Pooled). g.places)) is)
    ∙ ap (λ p. Some (goals_in p goals.places)) (sym here)

pub goals_none : (table : Tabled) (at : ℕ) (found : Option Pooled) → found ≡ None → option_map (λ (g : Pooled). g.places) found ≡ slice_get table.places at → slice_get (goals_of table) at ≡ None
unfolding goals_of
goals_none table at found is places =
    slice_get-map (goals_in table.pool) table.places at
    ∙ ap (option_map (goals_in table.pool)) (sym places ∙ ap (option_map (λ (g : Pooled). g.places)) is)

-- ---- a pool in which each goal is somewhere

none_of_file : (keys : List AtomKey) (table : Tabled) → All (AreWithin table.pool) table.places → list_any is_nobody table.pool ≡ false → (p : ℕ × LoadedFile) → lost_at keys (goals_of table) p ≡ []
unfolding goals_of
none_of_file keys table within none p = by (slice_get table.places p.0) refl
  where
    by : (places : Option (List ℕ)) → slice_get table.places p.0 ≡ places → option_map_or (lost_in keys p.1) (slice_get (map (goals_in table.pool) table.places) p.0) [] ≡ []
    by None is =
        ap (λ o. option_map_or (lost_in keys p.1) o []) (slice_get-map (goals_in table.pool) table.places p.0 ∙ ap (option_map (goals_in table.pool)) is)
    by (Some places) is =
        let these : AreWithin table.pool places = subst (AreWithin table.pool) (get_or_from_slice_get table.places p.0 places places is) (within p.0 places (slice_get_within table.places p.0 places is)) in
        ap (λ o. option_map_or (lost_in keys p.1) o []) (slice_get-map (goals_in table.pool) table.places p.0 ∙ ap (option_map (goals_in table.pool)) is)
        ∙ unnamed_in keys p.1 (goals_in table.pool places) (none_passes is_nobody table.pool places these none)

none_of : {X Y : Type 0} (f : X → List Y) → ((x : X) → f x ≡ []) → (xs : List X) → flat_map f xs ≡ []
none_of f none [] = refl
none_of f none (x ∷ xs) = ap (λ ys. ys ++ flat_map f xs) (none x) ∙ none_of f none xs

pub no_names : (keys : List AtomKey) (files : List LoadedFile) (table : Tabled) → All (AreWithin table.pool) table.places → list_any is_nobody table.pool ≡ false → None ≡ least (lost keys files (goals_of table))
unfolding least lost
no_names keys files table within none = sym (ap (fold lesser None) (none_of (lost_at keys (goals_of table)) (none_of_file keys table within none) (enumerate_from 0 files)))
