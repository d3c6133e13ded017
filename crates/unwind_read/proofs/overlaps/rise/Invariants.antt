use Rattle.unwind_read.specs.Overlaps.{RiseTo}
use Rattle.unwind_read.proofs.overlaps.rise.Given as goal

abbrev pub invariant-loop-at : goal.invariant-loop-at
invariant-loop-at l = RiseTo l.spans l.at
