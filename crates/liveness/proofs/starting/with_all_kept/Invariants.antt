use Rattle.liveness.specs.Roots.{kept_roots}
use Rattle.liveness.proofs.GrowLemmas.{IsGrowing}
use Rattle.liveness.proofs.starting.with_all_kept.Given as goal

abbrev pub invariant-loop-at : goal.invariant-loop-at
invariant-loop-at l = IsGrowing (kept_roots l.symbols) l.fn.before.items l.roots.items l.files l.at
