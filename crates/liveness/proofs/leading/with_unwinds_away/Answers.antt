use Rattle.std.proofs.Common.{refl}
use Rattle.liveness.specs.inner.Away.{unwind_away}
use Rattle.liveness.proofs.GrowLemmas.{grow_end, grow_item, no_unwind}
use Rattle.liveness.proofs.leading.with_unwinds_away.Goals as goal

pub loop-unwind-preserved : goal.loop-unwind-preserved
loop-unwind-preserved c = grow_item (unwind_away c.args.symbols.now.literals c.args.roots.now c.args.ends.now) c.args.before.items c.loop-unwind.edges.items c.in_ok-edges.edges.items c.args.unwinds.now c.loop-unwind.unwind-index _ no_unwind c.loop-unwind.invariant c.loop-unwind-test.true refl c.in_ok-edges.ensures

pub returns : goal.returns
returns c = grow_end (unwind_away c.args.symbols.now.literals c.args.roots.now c.args.ends.now) c.args.before.items c.loop-unwind.edges.items c.args.unwinds.now c.loop-unwind.unwind-index c.loop-unwind.invariant c.loop-unwind-test.false
