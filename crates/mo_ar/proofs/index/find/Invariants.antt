use Rattle.mo_ar.proofs.IndexLemmas.{IsSought}
use Rattle.mo_ar.proofs.index.find.Given as goal

abbrev pub invariant-loop-at : goal.invariant-loop-at
invariant-loop-at l = IsSought l.strings l.order l.count l.nodes l.name l.at

abbrev pub decreases-loop-at : goal.decreases-loop-at
decreases-loop-at l = l.at
