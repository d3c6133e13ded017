use Rattle.std.proofs.Common.{length, ◌-◌, ◌≤◌}
use Rattle.slot_plan.proofs.rough.alike.Given as goal

abbrev pub invariant-loop-same : goal.invariant-loop-same
invariant-loop-same l = l.same ≤ length l.a

abbrev pub decreases-loop-same : goal.decreases-loop-same
decreases-loop-same l = length l.a - l.same
