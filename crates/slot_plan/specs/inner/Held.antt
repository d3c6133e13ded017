-- How the code holds goals while it sorts them.
use Rattle.std.specs.Prelude.{Bool, List, map, Contains}
use Rattle.std.specs.Borrow.{Bor}
use Rattle.mo_types.specs.declared.goal.Goal.{Goal}
use Rattle.slot_plan.specs.declared.need.Need.{Need}
use Rattle.slot_plan.specs.declared.need.Way.{Way}
use Rattle.slot_plan.specs.declared.plan.Table.{Table}
use Rattle.slot_plan.specs.declared.rough.Keyed.{Keyed}
use Rattle.slot_plan.specs.declared.plan.Table.TheVariants.{Got, Stubs, Tlv}
use Rattle.slot_plan.specs.Slots.{in_got, in_stubs, in_tlv}

-- the goals behind some references
abbrev pub held : List (Bor Goal) → List Goal
held references = map (λ reference. reference.now) references

-- the needs behind some references
abbrev pub held_needs : List (Bor Need) → List Need
held_needs references = map (λ reference. reference.now) references

-- the goal of a need behind a reference
abbrev pub goal_behind : Bor Need → Goal
goal_behind reference = reference.now.goal

-- the references to needs in a list of them with their numbers
abbrev pub needs_behind : List Keyed → List (Bor Need)
needs_behind keyed = map (λ each. each.need) keyed

-- the same needs as another list, maybe another number of times
pub record HasTheSame (needs few : List Need) : Type 0 where
  pub all : (need : Need) → Contains needs need → Contains few need
  pub only : (need : Need) → Contains few need → Contains needs need

-- the ways in which a goal is needed that has a slot in a section
abbrev pub serves : Table → Way → Bool
serves Got way = in_got way
serves Stubs way = in_stubs way
serves Tlv way = in_tlv way
