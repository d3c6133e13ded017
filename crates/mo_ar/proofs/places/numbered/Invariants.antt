use Rattle.mo_ar.proofs.PlaceLemmas.{IsFilling}
use Rattle.mo_ar.proofs.places.numbered.Given as goal

abbrev pub invariant-loop-i : goal.invariant-loop-i
invariant-loop-i l = IsFilling l.size l.places l.cells.items l.i
