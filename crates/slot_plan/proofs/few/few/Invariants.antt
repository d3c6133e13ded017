use Rattle.std.proofs.Common.{take}
use Rattle.slot_plan.specs.inner.Held.{held_needs, HasTheSame}
use Rattle.slot_plan.proofs.few.few.Given as goal

abbrev pub invariant-loop-i : goal.invariant-loop-i
invariant-loop-i l = HasTheSame (take l.i l.needs) (held_needs l.few.items)
