use Rattle.unwind_out.specs.Lookup.{regular_row}
use Rattle.unwind_out.proofs.Places.{IsSeeking}
use Rattle.unwind_out.proofs.lookup.regular_rows_before.Given as goal

abbrev pub invariant-loop-k : goal.invariant-loop-k
invariant-loop-k l = IsSeeking (regular_row l.section) 8 l.first l.count l.offset l.k l.best
