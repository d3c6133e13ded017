use Rattle.std.proofs.Common.{◌-◌, ◌≤◌}
use Rattle.slot_plan.proofs.Fronts.{IsAlike}
use Rattle.slot_plan.proofs.order.same_front.Given as goal

abbrev pub invariant-loop-at : goal.invariant-loop-at
invariant-loop-at l = record { alike : IsAlike l.a l.b l.at; low : l.at ≤ l.most }

abbrev pub decreases-loop-at : goal.decreases-loop-at
decreases-loop-at l = l.most - l.at
