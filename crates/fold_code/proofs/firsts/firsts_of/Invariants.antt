use Rattle.fold_code.proofs.FirstLemmas.{AreSoFar}
use Rattle.fold_code.proofs.firsts.firsts_of.Given as goal

abbrev pub invariant-loop-at : goal.invariant-loop-at
invariant-loop-at g l = AreSoFar g.K.PartialEq.eq l.keys l.places l.firsts.items l.at
