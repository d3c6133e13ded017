use Rattle.liveness.proofs.AwayLemmas.{AreEndsTo}
use Rattle.liveness.proofs.leading.goals_away.Given as goal

abbrev pub invariant-loop-at : goal.invariant-loop-at
invariant-loop-at l = AreEndsTo l.roots l.goals l.at l.ends.items
