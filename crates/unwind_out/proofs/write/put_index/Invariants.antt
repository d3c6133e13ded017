use Rattle.unwind_out.proofs.Spelling.{IsIndexing}
use Rattle.unwind_out.proofs.write.put_index.Given as goal

abbrev pub invariant-loop-page : goal.invariant-loop-page
invariant-loop-page l = IsIndexing l.lsda_at l.lsdas l.page_at l.pages l.initial.out.items l.page-index l.at l.out.items
