use Rattle.unwind_out.proofs.Sizes.{IsAdding}
use Rattle.unwind_out.proofs.size.pages_size.Given as goal

abbrev pub invariant-loop-page : goal.invariant-loop-page
invariant-loop-page l = IsAdding l.pages l.page-index l.size
