use Rattle.liveness.proofs.NobodyLemmas.{IsClear}
use Rattle.liveness.proofs.lost.leads_nowhere.Given as goal

abbrev pub invariant-loop-index : goal.invariant-loop-index
invariant-loop-index l = IsClear l.goals.pool l.goals.places l.index
