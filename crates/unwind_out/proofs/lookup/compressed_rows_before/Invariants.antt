use Rattle.unwind_out.specs.Lookup.{compressed_row}
use Rattle.unwind_out.proofs.Places.{IsSeeking}
use Rattle.unwind_out.proofs.lookup.compressed_rows_before.Given as goal

abbrev pub invariant-loop-k : goal.invariant-loop-k
invariant-loop-k l = IsSeeking (compressed_row l.section l.header l.page.first l.page.at l.page.header) 4 l.first l.page.header.entry_count l.offset l.k l.best
