use Rattle.unwind_out.proofs.Spelling.{indexing_goes_on}
use Rattle.unwind_out.proofs.write.put_index.Goals as goal

pub loop-page-preserved : goal.loop-page-preserved
loop-page-preserved c =
    indexing_goes_on c.args.lsda_at c.args.lsdas.now c.args.page_at c.args.pages.now c.args.out.now.items c.loop-page.page-index c.loop-page.at c.in_ok-at.at c.loop-page.out.items c.put_entry.new.out.items c.page-item.result
    c.loop-page.invariant c.loop-page-test.true c.page-item.is c.in_ok-at.ensures.next c.in_ok-at.ensures.entry
