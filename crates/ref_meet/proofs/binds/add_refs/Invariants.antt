use Rattle.liveness.proofs.GrowLemmas.{IsGrowing}
use Rattle.ref_meet.proofs.BindLemmas.{each_bind}
use Rattle.ref_meet.proofs.binds.add_refs.Given as goal

abbrev pub invariant-loop-at : goal.invariant-loop-at
invariant-loop-at l = IsGrowing (each_bind l.bound) l.fn.out.items l.out.items l.refs l.at
