use Rattle.image_format.specs.Unwind.{regular_page_entry_bytes}
use Rattle.unwind_out.proofs.Loops.{IsPutting}
use Rattle.unwind_out.proofs.pages.put_regular_rows.Given as goal

abbrev pub invariant-loop-row : goal.invariant-loop-row
invariant-loop-row l = IsPutting regular_page_entry_bytes l.rows l.initial.out.items l.row-index l.out.items
