use Rattle.unwind_out.proofs.Loops.{IsTabling}
use Rattle.unwind_out.proofs.table.table.Given as goal

abbrev pub invariant-loop-at : goal.invariant-loop-at
invariant-loop-at l = IsTabling l.slots l.rows l.at l.table.items
