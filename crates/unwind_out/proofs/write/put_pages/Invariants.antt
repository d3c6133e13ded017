use Rattle.unwind_out.specs.Pages.{page_bytes}
use Rattle.unwind_out.specs.declared.cut.Page.{Page}
use Rattle.unwind_out.proofs.Loops.{IsPutting}
use Rattle.unwind_out.proofs.write.put_pages.Given as goal

abbrev pub invariant-loop-page : goal.invariant-loop-page
invariant-loop-page l = IsPutting (λ (page : Page). page_bytes page.rows.now) l.pages l.initial.out.items l.page-index l.out.items
