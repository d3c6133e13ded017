use Rattle.image_format.specs.Unwind.{unwind_lsda_entry_bytes}
use Rattle.unwind_out.proofs.Loops.{IsPutting}
use Rattle.unwind_out.proofs.write.put_lsdas.Given as goal

abbrev pub invariant-loop-row : goal.invariant-loop-row
invariant-loop-row l = IsPutting unwind_lsda_entry_bytes l.lsdas l.initial.out.items l.row-index l.out.items
