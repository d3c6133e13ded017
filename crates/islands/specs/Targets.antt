-- The targets of branches in order: by goal, and then by addend.
use Rattle.std.specs.Prelude.{ℕ, List, count_by, Contains}
use Rattle.std.specs.List.Sorted.{IsStrictlySortedBy}
use Rattle.std.specs.Option.{option_cmp}
use Rattle.std.specs.Ordering.{int_cmp, is_lt, nat_cmp, ordering_then}
use Rattle.std.specs.declared.cmp.Ordering.{Ordering}
use Rattle.mo_types.specs.Goals.{compare_goals}
use Rattle.sect_place.specs.declared.island.BranchTarget.{BranchTarget}

-- Goals stand in the order of slots. Of one goal and addend there is one stub at most, so that numbers of stubs tell
-- apart none of an image's targets.
abbrev pub compare_targets : BranchTarget → BranchTarget → Ordering
compare_targets a b =
    ordering_then (compare_goals a.goal b.goal) (ordering_then (int_cmp a.addend b.addend) (option_cmp nat_cmp a.stub b.stub))

-- the targets of a list, each once, in order
pub record AreTargets (goes targets : List BranchTarget) : Type 0 where
  pub rises : IsStrictlySortedBy compare_targets targets
  pub all : (target : BranchTarget) → Contains goes target → Contains targets target
  pub only : (target : BranchTarget) → Contains targets target → Contains goes target

-- how many targets are before one: its number
abbrev pub number_of : List BranchTarget → BranchTarget → ℕ
number_of targets target = count_by (λ t. is_lt (compare_targets t target)) targets
