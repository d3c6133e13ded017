use Rattle.liveness.specs.inner.Away.{ref_away}
use Rattle.liveness.proofs.GrowLemmas.{grow_at}
use Rattle.liveness.proofs.leading.with_each_ref_away.Goals as goal

pub loop-at-preserved : goal.loop-at-preserved
loop-at-preserved c = grow_at (ref_away c.args.symbols.now.literals c.args.roots.now c.args.ends.now) c.args.before.items c.loop-at.edges.items c.in_ok-edges.edges.items c.args.refs.now c.loop-at.at c.loop-at.invariant c.in_ok-edges.ensures
