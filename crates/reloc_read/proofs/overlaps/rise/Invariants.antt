use Rattle.reloc_read.specs.Fields.{AreBelow}
use Rattle.reloc_read.proofs.overlaps.rise.Given as goal

abbrev pub invariant-loop-at : goal.invariant-loop-at
invariant-loop-at l = AreBelow l.relocs l.at l.bound
