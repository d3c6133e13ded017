use Rattle.image_read.proofs.FixupLemmas.{IsChasing}
use Rattle.image_read.proofs.fixups.held_on.Given as goal

abbrev pub invariant-loop-step : goal.invariant-loop-step
invariant-loop-step l = IsChasing l.image l.base l.start l.place 0x1001 l._step l.at l.held
