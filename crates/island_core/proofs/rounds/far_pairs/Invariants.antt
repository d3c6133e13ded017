use Rattle.island_core.proofs.RoundLemmas.{IsBelow, missing}
use Rattle.island_core.proofs.rounds.far_pairs.Given as goal

abbrev pub invariant-rounds : goal.invariant-rounds
invariant-rounds l = IsBelow l.scale l.rows l.far.items

abbrev pub decreases-rounds : goal.decreases-rounds
decreases-rounds l = missing l.rows l.far.items
