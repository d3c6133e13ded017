-- The islands of an image, by its layout without islands.
use Rattle.std.specs.Prelude.{ℕ, pos, ◌≡◌, ◌+◌, ◌/◌, ◌<◌, ◌≤◌, ◌==◌, ◌++◌, true, List, [], ◌∷◌, All, Contains, length, map, slice_get, slice_index_or, Option, Some, None, MatchOption, if◌then◌else◌}
use Rattle.std.specs.List.{filter}
use Rattle.std.specs.List.Sorted.{IsStrictlySortedBy}
use Rattle.std.specs.Ordering.{on}
use Rattle.command_line.specs.declared.command.Command.{Command}
use Rattle.mo_types.specs.Keys.{compare_keys}
use Rattle.mo_types.specs.declared.atom.Atom.{Atom}
use Rattle.mo_types.specs.declared.goal.Goal.{Goal}
use Rattle.mo_types.specs.declared.goal.Goal.TheVariants.{Def, WeakSelf, Header, Import, Flat, Nobody}
use Rattle.mo_types.specs.declared.key.AtomKey.{AtomKey}
use Rattle.mo_types.specs.declared.out_section.OutSection.{OutSection}
use Rattle.slot_plan.specs.declared.list.Slots.{Slots}
use Rattle.sect_place.specs.Layout.{IsLayoutOf, plan_of}
use Rattle.sect_place.specs.Moved.{AreInOrder, no_islands}
use Rattle.sect_place.specs.Shifts.{unit_in}
use Rattle.sect_place.specs.declared.island.BranchTarget.{BranchTarget}
use Rattle.sect_place.specs.declared.island.IslandArea.{IslandArea}
use Rattle.sect_place.specs.declared.island.IslandPlan.{IslandPlan}
use Rattle.sect_place.specs.declared.layout.Layout.{Layout}
use Rattle.sect_place.specs.declared.size.PlaceSizes.{PlaceSizes}
use Rattle.island_core.specs.Far.{ArePairs, IsFar, bytes_before, is_grouped}
use Rattle.island_core.specs.Groups.{AreEnds}
use Rattle.island_core.specs.declared.row.Case.TheVariants.{Outside}
use Rattle.island_core.specs.declared.row.Pair.{Pair}
use Rattle.island_core.specs.declared.row.Row.{Row}
use Rattle.island_core.specs.declared.row.Scale.{Scale}
use Rattle.islands.specs.declared.branch.Branch.{Branch}
use Rattle.islands.specs.Rows.{rows_of}
use Rattle.islands.specs.Targets.{AreTargets}
use Rattle.islands.specs.Text.{extents_of, lasts_of, text_atoms}

-- ---- what is asked about

-- A layout of kept atoms, placed without islands.
pub record IsWithoutIslands (kept : List Atom) (layout : Layout) : Type 0 where
  pub sections : List OutSection
  pub slots : Slots
  pub sizes : PlaceSizes
  pub command : Command
  pub rises : IsStrictlySortedBy (on (λ (atom : Atom). atom.key) compare_keys) kept
  pub in_order : AreInOrder kept sections
  pub placed : IsLayoutOf command (plan_of kept sections slots no_islands sizes command) layout

-- a place in an atom
abbrev pub IsInAtom : List Atom → AtomKey → ℕ → Type 0
IsInAtom kept key place = All (λ (atom : Atom). atom.key ≡ key → place ≤ atom.size) kept

abbrev pub IsInGoal : List Atom → Goal → Type 0
IsInGoal kept (Def key offset) = IsInAtom kept key offset
IsInGoal kept (WeakSelf name key offset) = IsInAtom kept key offset
IsInGoal kept Header = Unit {0}
IsInGoal kept (Import name ordinal by_weak optional) = Unit {0}
IsInGoal kept (Flat name) = Unit {0}
IsInGoal kept Nobody = Unit {0}

-- A branch stands in its atom, and its goal in the goal's.
pub record IsInAtoms (kept : List Atom) (branch : Branch) : Type 0 where
  pub place : IsInAtom kept branch.atom branch.place
  pub goal : IsInGoal kept branch.target.goal

-- ---- areas

abbrev pub target_at : List BranchTarget → ℕ → BranchTarget
target_at targets at = slice_index_or targets at (record { goal = Nobody; addend = pos 0; stub = None })

-- where the islands of a group go, in the order of targets
abbrev pub island_targets : List BranchTarget → List Pair → ℕ → List BranchTarget
island_targets targets far group = map (λ (pair : Pair). target_at targets pair.target) (filter (λ (pair : Pair). pair.group == group) far)

-- an area, where it has an island
abbrev pub filled : IslandArea → List IslandArea
filled area = if length area.targets == 0 then [] else area ∷ []

-- the areas behind the last atoms of groups, from a group's number on
unfoldable pub areas_from : List BranchTarget → List Pair → ℕ → List AtomKey → List IslandArea
areas_from targets far group [] = []
areas_from targets far group (last ∷ lasts) =
    filled (record { last = last; targets = island_targets targets far group }) ++ areas_from targets far (group + 1) lasts

-- ---- ways

-- Which island a branch goes to, if any: that of its pair, where this has one.
abbrev pub IsWay : List Pair → Row → Option ℕ → Type 0
IsWay far row way =
    MatchOption way (is_grouped row.case ≡ true → ¬ Contains far row.pair)
    (λ at. (is_grouped row.case ≡ true) × (slice_get far at ≡ Some row.pair))

abbrev pub row_at : List Row → ℕ → Row
row_at rows at =
    slice_index_or rows at (record { case = Outside; pair = record { group = 0; target = 0 }; from = 0; to = 0; zone = 0 })

-- the ways of branches, in their order
pub record AreWays (far : List Pair) (rows : List Row) (ways : List (Option ℕ)) : Type 0 where
  pub all : length ways ≡ length rows
  pub each : (k : ℕ) → k < length rows → IsWay far (row_at rows k) (slice_index_or ways k None)

-- ---- the plan

-- Areas are multiples of the greatest alignment in `__TEXT`, and move nothing farther than those of all pairs.
abbrev pub scale_of : Layout → ℕ → ℕ → List Pair → Scale
scale_of layout reach groups pairs = record {
  unit = unit_in layout.sections;
  groups = groups;
  reach = reach;
  slack = bytes_before (unit_in layout.sections) pairs groups;
}

-- The islands of an image with some branches: how `__text` is cut into groups of at most half the reach, the targets of
-- the branches, the pairs of a group and a target, those of them that have islands, the areas behind the groups, and the
-- island of each branch.
pub record IsPlan (kept : List Atom) (layout : Layout) (branches : List Branch) (reach : ℕ) (plan : IslandPlan) : Type 0 where
  pub ends : List ℕ
  pub targets : List BranchTarget
  pub pairs : List Pair
  pub far : List Pair
  pub groups : AreEnds (reach / 2) (extents_of kept layout) ends
  pub goes : AreTargets (map (λ (branch : Branch). branch.target) branches) targets
  pub taken : ArePairs (rows_of layout (lasts_of (text_atoms kept layout) ends) targets branches) pairs
  pub least : IsFar (scale_of layout reach (length ends) pairs) (rows_of layout (lasts_of (text_atoms kept layout) ends) targets branches) far
  pub areas : plan.areas ≡ areas_from targets far 0 (lasts_of (text_atoms kept layout) ends)
  pub ways : AreWays far (rows_of layout (lasts_of (text_atoms kept layout) ends) targets branches) plan.ways
