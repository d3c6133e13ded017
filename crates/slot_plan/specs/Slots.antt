-- Which goals have slots, and in which order the slots stand.
use Rattle.std.specs.Prelude.{Bool, true, false, List, map, Contains}
use Rattle.std.specs.List.{filter}
use Rattle.std.specs.List.Sorted.{IsStrictlySortedBy}
use Rattle.mo_types.specs.Goals.{compare_goals}
use Rattle.mo_types.specs.declared.goal.Goal.{Goal}
use Rattle.slot_plan.specs.declared.need.Need.{Need}
use Rattle.slot_plan.specs.declared.need.Way.{Way}
use Rattle.slot_plan.specs.declared.need.Way.TheVariants.{Got, Stub, Tlv}

-- whether a goal that is needed so has a slot of the global offset table: a stub loads its goal from there
abbrev pub in_got : Way → Bool
in_got Got = true
in_got Stub = true
in_got Tlv = false

-- whether it has a stub
abbrev pub in_stubs : Way → Bool
in_stubs Got = false
in_stubs Stub = true
in_stubs Tlv = false

-- whether it has a slot for thread-local variables
abbrev pub in_tlv : Way → Bool
in_tlv Got = false
in_tlv Stub = false
in_tlv Tlv = true

-- the goals that are needed in some ways, as often as they are needed
unfoldable pub needed : (Way → Bool) → List Need → List Goal
needed ways needs = map (λ need. need.goal) (filter (λ need. ways need.way) needs)

-- the goals of a list, each once, in the order of goals
pub record AreSlots (goals slots : List Goal) : Type 0 where
  pub rising : IsStrictlySortedBy compare_goals slots
  pub all : (goal : Goal) → Contains goals goal → Contains slots goal
  pub only : (goal : Goal) → Contains slots goal → Contains goals goal
