-- Where symbols lead, by the places of their goals in a pool.
use Rattle.std.proofs.Common.{◌≡◌, ℕ, suc, ◌<◌, ◌≤◌, List, [], ◌∷◌, length, map, get_or, slice_get, Some, None, refl, sym, ap, ◌∙◌, arith}
use Rattle.std.specs.Prelude.{All, Option}
use Rattle.std.specs.List.{AllByRecursion}
use Rattle.std.specs.Option.{option_and_then, option_map}
use Rattle.std.proofs.lemmas.Option.{slice_get-get_or, slice_get-map, slice_get_past}
use Rattle.resolve.proofs.PlaceLemmas.{goal_within}
use Rattle.resolve.specs.Table.{AreWithin, goal_in, goals_in}
use Rattle.mo_types.specs.declared.goal.Goal.{Goal}
use Rattle.mo_types.specs.declared.goal.Goal.TheVariants.{Nobody}
use Rattle.mo_types.specs.declared.key.AtomKey.{AtomKey}
use Rattle.liveness.specs.inner.Away.{end_in, ends_in}

end_at : (ends : List (Option AtomKey)) (places : List ℕ) (index : ℕ) → option_and_then (λ (end : Option AtomKey). end) (slice_get (ends_in ends places) index) ≡ option_and_then (end_in ends) (slice_get places index)
unfolding ends_in
end_at ends places index = ap (option_and_then (λ (end : Option AtomKey). end)) (slice_get-map (end_in ends) places index) ∙ by (slice_get places index)
  where
    by : (o : Option ℕ) → option_and_then (λ (end : Option AtomKey). end) (option_map (end_in ends) o) ≡ option_and_then (end_in ends) o
    by None = refl
    by (Some place) = refl

pub ends_no_place : (ends : List (Option AtomKey)) (places : List ℕ) (index : ℕ) → length places ≤ index → None ≡ option_and_then (λ (end : Option AtomKey). end) (slice_get (ends_in ends places) index)
ends_no_place ends places index past = sym (end_at ends places index ∙ ap (option_and_then (end_in ends)) (slice_get_past places index past))

pub ends_no_end : (ends : List (Option AtomKey)) (places : List ℕ) (index place : ℕ) → index < length places → place ≡ get_or places index place → length ends ≤ place → None ≡ option_and_then (λ (end : Option AtomKey). end) (slice_get (ends_in ends places) index)
ends_no_end ends places index place low is past =
    sym (end_at ends places index ∙ ap (option_and_then (end_in ends)) (slice_get-get_or places index place low ∙ ap (λ (p : ℕ). Some p) (sym is))
    ∙ ap (option_and_then (λ (end : Option AtomKey). end)) (slice_get_past ends place past))

pub ends_end : (ends : List (Option AtomKey)) (places : List ℕ) (index place : ℕ) (end : Option AtomKey) → index < length places → place ≡ get_or places index place → place < length ends → end ≡ get_or ends place end → end ≡ option_and_then (λ (end : Option AtomKey). end) (slice_get (ends_in ends places) index)
ends_end ends places index place end low is within there =
    sym (end_at ends places index ∙ ap (option_and_then (end_in ends)) (slice_get-get_or places index place low ∙ ap (λ (p : ℕ). Some p) (sym is))
    ∙ ap (option_and_then (λ (end : Option AtomKey). end)) (slice_get-get_or ends place end within ∙ ap (λ (o : Option AtomKey). Some o) (sym there)))

pub ruleset ends = (ends_no_place, ends_no_end, ends_end)

each_end : (f : Goal → Option AtomKey) (pool : List Goal) (place : ℕ) → place < length pool → end_in (map f pool) place ≡ f (goal_in pool place)
each_end f pool place low =
    ap (option_and_then (λ (end : Option AtomKey). end)) (slice_get-map f pool place ∙ ap (option_map f) (slice_get-get_or pool place Nobody low))
    ∙ sym (ap f (goal_within pool place Nobody low))

all_ends : (f : Goal → Option AtomKey) (pool : List Goal) (places : List ℕ) → AllByRecursion (λ place. place < length pool) places → map (end_in (map f pool)) places ≡ map f (map (goal_in pool) places)
all_ends f pool [] within = refl
all_ends f pool (place ∷ places) within =
    ap (λ (o : Option AtomKey). o ∷ map (end_in (map f pool)) places) (each_end f pool place within.0)
    ∙ ap (λ (os : List (Option AtomKey)). f (goal_in pool place) ∷ os) (all_ends f pool places within.1)

from_all : {X : Type 0} (P : X → Type 0) (xs : List X) → All P xs → AllByRecursion P xs
from_all P [] all = tt
from_all P (x ∷ xs) all = (all 0 x (omega arith), from_all P xs (λ k d low. all (suc k) d (omega (arith, low))))

-- what is told of each goal of a pool, found by places, is what is told of the goals at these
pub ends_told : (f : Goal → Option AtomKey) (pool : List Goal) (places : List ℕ) → AreWithin pool places → ends_in (map f pool) places ≡ map f (goals_in pool places)
unfolding ends_in goals_in
ends_told f pool places within = all_ends f pool places (from_all (λ place. place < length pool) places within)
