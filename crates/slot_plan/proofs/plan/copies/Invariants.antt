use Rattle.std.proofs.Common.{◌≡◌, take}
use Rattle.slot_plan.specs.inner.Held.{held}
use Rattle.slot_plan.proofs.plan.copies.Given as goal

abbrev pub invariant-loop-goal : goal.invariant-loop-goal
invariant-loop-goal l = l.copies.items ≡ held (take l.goal-index l.goals)
