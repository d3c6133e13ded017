use Rattle.std.proofs.Common.{◌-◌}
use Rattle.image_format.specs.Unwind.{unwind_index_entry_at}
use Rattle.unwind_out.specs.Lookup.{page_rows}
use Rattle.unwind_out.proofs.Places.{IsSeeking}
use Rattle.unwind_out.proofs.lookup.row_before.Given as goal

abbrev pub invariant-loop-k : goal.invariant-loop-k
invariant-loop-k l = IsSeeking (λ at. page_rows l.section l.header (unwind_index_entry_at l.section at)) 12 l.first (l.header.index_count - 1) l.offset l.k l.best
