use Rattle.image_format.specs.Unwind.{compressed_page_entry_bytes}
use Rattle.unwind_out.specs.Pages.{compressed_entry}
use Rattle.unwind_out.proofs.Loops.{IsPutting}
use Rattle.unwind_out.proofs.pages.put_compressed_rows.Given as goal

abbrev pub invariant-loop-row : goal.invariant-loop-row
invariant-loop-row l = IsPutting (λ row. compressed_page_entry_bytes (compressed_entry l.first l.numbers row)) l.rows l.initial.out.items l.row-index l.out.items
