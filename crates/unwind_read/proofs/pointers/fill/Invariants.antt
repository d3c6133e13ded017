use Rattle.unwind_read.proofs.RowLemmas.{Filled}
use Rattle.unwind_read.proofs.pointers.fill.Given as goal

abbrev pub invariant-loop-reloc : goal.invariant-loop-reloc
invariant-loop-reloc l = Filled l.section l.relocs l.reloc-index l.rows l.fault
