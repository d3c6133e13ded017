use Rattle.reloc_read.specs.Fields.{AreAbove}
use Rattle.reloc_read.proofs.overlaps.fall.Given as goal

abbrev pub invariant-loop-at : goal.invariant-loop-at
invariant-loop-at l = AreAbove l.relocs l.at l.bound
