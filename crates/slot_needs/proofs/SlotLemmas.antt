-- Slots of the same needs.
use Rattle.std.proofs.Common.{Bool, List, Contains, map, subst}
use Rattle.std.specs.List.{filter}
use Rattle.list_lemmas.proofs.Members.{Contains_from_in, from_filter, from_map, in_filter, in_from_Contains, in_map}
use Rattle.mo_types.specs.declared.goal.Goal.{Goal}
use Rattle.slot_plan.specs.Slots.{AreSlots, needed}
use Rattle.slot_plan.specs.declared.need.Need.{Need}
use Rattle.slot_plan.specs.declared.need.Way.{Way}
use Rattle.slot_needs.specs.Needs.{AreSame}

needed_in : (ways : Way → Bool) (ns ms : List Need) → ((n : Need) → Contains ns n → Contains ms n) → (goal : Goal) → Contains (needed ways ns) goal → Contains (needed ways ms) goal
unfolding needed
needed_in ways ns ms within goal h =
    let from = from_map (λ (n : Need). n.goal) (filter (λ (n : Need). ways n.way) ns) goal (in_from_Contains _ goal h) in
    let kept = from_filter (λ (n : Need). ways n.way) ns from.0 from.1 in
    let there = in_from_Contains ms from.0 (within from.0 (Contains_from_in ns from.0 kept.0)) in
    subst (Contains (map (λ (n : Need). n.goal) (filter (λ (n : Need). ways n.way) ms))) from.2
    (Contains_from_in (map (λ (n : Need). n.goal) (filter (λ (n : Need). ways n.way) ms)) from.0.goal
    (in_map (λ (n : Need). n.goal) (filter (λ (n : Need). ways n.way) ms) from.0 (in_filter (λ (n : Need). ways n.way) ms from.0 there kept.1)))

pub slots_same : (ways : Way → Bool) (all few : List Need) (slots : List Goal) → AreSame all few → AreSlots (needed ways few) slots → AreSlots (needed ways all) slots
slots_same ways all few slots same are = record {
  rising = are.rising;
  all = λ goal h. are.all goal (needed_in ways all few same.all goal h);
  only = λ goal h. needed_in ways few all same.only goal (are.only goal h);
}
