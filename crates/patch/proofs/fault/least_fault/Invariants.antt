use Rattle.patch.proofs.LeastLemmas.{IsLeastBefore}
use Rattle.patch.proofs.fault.least_fault.Given as goal

abbrev pub invariant-loop-met : goal.invariant-loop-met
invariant-loop-met l = IsLeastBefore l.address l.bytes l.mets l.met-index l.least
