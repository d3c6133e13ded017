use Rattle.std.proofs.Common.{◌≡◌, ◌++◌, map, take}
use Rattle.ref_meet.specs.Binds.{slot_bind}
use Rattle.ref_meet.proofs.binds.add_slots.Given as goal

abbrev pub invariant-loop-goal : goal.invariant-loop-goal
invariant-loop-goal l = l.out.items ≡ l.fn.out.items ++ map slot_bind (take l.goal-index l.goals)
