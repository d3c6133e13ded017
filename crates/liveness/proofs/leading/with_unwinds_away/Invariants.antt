use Rattle.liveness.specs.inner.Away.{unwind_away}
use Rattle.liveness.proofs.GrowLemmas.{IsGrowing}
use Rattle.liveness.proofs.leading.with_unwinds_away.Given as goal

abbrev pub invariant-loop-unwind : goal.invariant-loop-unwind
invariant-loop-unwind l = IsGrowing (unwind_away l.symbols.literals l.roots l.ends) l.fn.before.items l.edges.items l.unwinds l.unwind-index
