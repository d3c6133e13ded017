use Rattle.island_core.proofs.CountLemmas.{IsMoving}
use Rattle.island_core.proofs.rounds.moves.Given as goal

abbrev pub invariant-loop-count : goal.invariant-loop-count
invariant-loop-count l = IsMoving l.scale.unit l.set l.moves.items l.bytes l.count-index
