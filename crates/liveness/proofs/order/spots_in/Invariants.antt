use Rattle.liveness.proofs.ListLemmas.{AreSpots}
use Rattle.liveness.proofs.order.spots_in.Given as goal

abbrev pub invariant-loop-at : goal.invariant-loop-at
invariant-loop-at l = AreSpots l.refs l.at l.spots.items
