use Rattle.std.proofs.Common.{[]}
use Rattle.unwind_out.specs.Table.{lsda_of}
use Rattle.unwind_out.proofs.Loops.{IsPutting}
use Rattle.unwind_out.proofs.table.lsdas.Given as goal

abbrev pub invariant-loop-row : goal.invariant-loop-row
invariant-loop-row l = IsPutting lsda_of l.rows [] l.row-index l.lsdas.items
