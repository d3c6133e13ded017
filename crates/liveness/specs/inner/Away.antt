-- The edges that lead away from some atoms, by where the symbols of a file lead.
use Rattle.std.specs.Prelude.{ℕ, ◌≡◌, ◌++◌, ◌-◌, ◌∷◌, [], length, not, List, map, replicate, None, Some, Option, slice_get}
use Rattle.std.specs.List.{filter, flat_map}
use Rattle.std.specs.Option.{option_and_then, option_map, option_to_list}
use Rattle.mark_core.specs.Kept.{begins_away, has}
use Rattle.mo_types.specs.Rows.{when}
use Rattle.mo_types.specs.declared.edge.Edge.{Edge}
use Rattle.mo_types.specs.declared.goal.Goal.{Goal}
use Rattle.mo_types.specs.declared.key.AtomKey.{AtomKey}
use Rattle.mo_types.specs.declared.loaded.LoadedFile.{LoadedFile}
use Rattle.mo_types.specs.declared.object.Object.{Object}
use Rattle.mo_types.specs.declared.reference.Ref.{Ref}
use Rattle.mo_types.specs.declared.reference.Target.{Target}
use Rattle.mo_types.specs.declared.reference.Target.TheVariants as target
use Rattle.mo_types.specs.declared.unwind.Unwind.{Unwind}
use Rattle.liveness.specs.Edges.{edge_from, goal_atom, ref_supports}
use Rattle.literal_merge.specs.Standing.{stands_for}
use Rattle.literal_merge.specs.declared.representative.Representative.{Representative}

-- an atom, if it isn't one of some
abbrev pub away : List AtomKey → AtomKey → Option AtomKey
away roots atom = when (not (has roots atom)) atom

-- the atom in which a goal stands, if it isn't one of some
abbrev pub goal_away : List AtomKey → Goal → Option AtomKey
goal_away roots goal = option_and_then (away roots) (goal_atom goal)

-- those of a file's symbols, by the places of their goals in a pool, from those of the pool
abbrev pub end_in : List (Option AtomKey) → ℕ → Option AtomKey
end_in ends place = option_and_then (λ end. end) (slice_get ends place)

-- those of the goals of a pool, of which any that are missing lead nowhere
pub record AreAway (roots : List AtomKey) (pool : List Goal) (ends : List (Option AtomKey)) : Type 0 where
  pub each : (place : ℕ) → end_in ends place ≡ end_in (map (goal_away roots) pool) place

-- those of the goals before a place, and that of the goal there: if it leads somewhere it is put, and what is missing before it leads nowhere
abbrev pub ended : List (Option AtomKey) → ℕ → Option AtomKey → List (Option AtomKey)
ended ends at None = ends
ended ends at (Some atom) = ends ++ replicate (at - length ends) None ++ Some atom ∷ []

unfoldable pub ends_in : List (Option AtomKey) → List ℕ → List (Option AtomKey)
ends_in ends places = map (end_in ends) places

-- no symbol leads anywhere
pub record AreNone (ends : List (Option AtomKey)) : Type 0 where
  pub each : (index : ℕ) → option_and_then (λ end. end) (slice_get ends index) ≡ None

-- the same of a target, by those of the file's symbols
abbrev pub target_away : List Representative → List AtomKey → List (Option AtomKey) → Target → Option AtomKey
target_away literals roots ends (target.Name index) = option_and_then (λ end. end) (slice_get ends index)
target_away literals roots ends (target.Local atom offset) = away roots (stands_for literals atom)

unfoldable pub ref_away : List Representative → List AtomKey → List (Option AtomKey) → Ref → List Edge
ref_away literals roots ends ref =
    edge_from ref.atom (target_away literals roots ends ref.target)
    ++ edge_from ref.atom (option_and_then (target_away literals roots ends) ref.minus)

-- those of the reference at a place, where there is one
abbrev pub ref_away_at : List Representative → List AtomKey → List (Option AtomKey) → List Ref → ℕ → List Edge
ref_away_at literals roots ends refs at = flat_map (ref_away literals roots ends) (option_to_list (slice_get refs at))

unfoldable pub unwind_away : List Representative → List AtomKey → List (Option AtomKey) → Unwind → List Edge
unwind_away literals roots ends unwind =
    edge_from unwind.atom (option_and_then (target_away literals roots ends) unwind.personality)
    ++ edge_from unwind.atom (option_and_then (away roots) (option_map (λ lsda. lsda.0) unwind.lsda))

unfoldable pub file_away : List Representative → List AtomKey → List (Option AtomKey) → LoadedFile → List Edge
file_away literals roots ends file = flat_map (ref_away literals roots ends) file.refs ++ flat_map (unwind_away literals roots ends) file.unwinds

-- a reference's supports, if its atom isn't one of some
abbrev pub ref_supports_away : List Representative → List AtomKey → List Goal → Object → Ref → List Edge
ref_supports_away literals roots goals object ref = filter (begins_away roots) (ref_supports literals goals object ref)

-- those of the reference at a place, where there is one
abbrev pub supports_away_at : List Representative → List AtomKey → List Goal → Object → List Ref → ℕ → List Edge
supports_away_at literals roots goals object refs at = flat_map (ref_supports_away literals roots goals object) (option_to_list (slice_get refs at))
