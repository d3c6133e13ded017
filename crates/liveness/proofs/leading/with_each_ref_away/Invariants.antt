use Rattle.liveness.specs.inner.Away.{ref_away}
use Rattle.liveness.proofs.GrowLemmas.{IsGrowing}
use Rattle.liveness.proofs.leading.with_each_ref_away.Given as goal

abbrev pub invariant-loop-at : goal.invariant-loop-at
invariant-loop-at l = IsGrowing (ref_away l.symbols.literals l.roots l.ends) l.fn.before.items l.edges.items l.refs l.at
