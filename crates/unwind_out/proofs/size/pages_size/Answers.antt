use Rattle.std.proofs.Common.{refl}
use Rattle.unwind_out.proofs.Sizes.{adding_goes_on, adding_ends}
use Rattle.unwind_out.proofs.size.pages_size.Goals as goal

pub loop-page-preserved : goal.loop-page-preserved
loop-page-preserved c =
    adding_goes_on c.args.pages.now c.loop-page.page-index c.loop-page.size c.page_size-size.result _ c.page-item.result c.loop-page.invariant c.loop-page-test.true c.page-item.is c.page_size-size.ensures.exact refl

pub returns : goal.returns
returns c = adding_ends c.args.pages.now c.loop-page.page-index c.loop-page.size c.loop-page.invariant c.loop-page-test.false
