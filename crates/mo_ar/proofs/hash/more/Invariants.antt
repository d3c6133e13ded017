use Rattle.mo_ar.proofs.HashLemmas.{IsMixing}
use Rattle.mo_ar.proofs.hash.more.Given as goal

abbrev pub invariant-loop-at : goal.invariant-loop-at
invariant-loop-at l = IsMixing l.before l.bytes l.at l.hash

abbrev pub decreases-loop-at : goal.decreases-loop-at
decreases-loop-at l = l.at
