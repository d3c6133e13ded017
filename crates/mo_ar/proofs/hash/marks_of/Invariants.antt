use Rattle.mo_ar.proofs.HashLemmas.{IsMarking}
use Rattle.mo_ar.proofs.hash.marks_of.Given as goal

abbrev pub invariant-loop-at : goal.invariant-loop-at
invariant-loop-at l = IsMarking l.strings l.at l.hash l.marks.items

abbrev pub decreases-loop-at : goal.decreases-loop-at
decreases-loop-at l = l.at
