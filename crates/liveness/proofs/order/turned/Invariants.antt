use Rattle.liveness.proofs.RunsLemmas.{AreRuns}
use Rattle.liveness.proofs.order.turned.Given as goal

abbrev pub invariant-loop-last : goal.invariant-loop-last
invariant-loop-last l = AreRuns l.spots l.last l.start l.new.items
