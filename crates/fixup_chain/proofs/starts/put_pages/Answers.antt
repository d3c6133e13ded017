use Rattle.std.proofs.Common.{arith}
use Rattle.fixup_chain.proofs.StartLemmas.{paging_ends}
use Rattle.fixup_chain.proofs.starts.put_pages.Goals as goal

pub returns : goal.returns
returns c =
    paging_ends c.args.fixups.now c.args.page c.args.count c.args.out.now.items c.loop-at.at c.loop-at.out.items c.loop-at.invariant (omega (arith, c.loop-at-test.false))
