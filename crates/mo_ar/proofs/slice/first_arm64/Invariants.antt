use Rattle.mo_ar.proofs.SliceLemmas.{IsSearching}
use Rattle.mo_ar.proofs.slice.first_arm64.Given as goal

abbrev pub invariant-loop-i : goal.invariant-loop-i
invariant-loop-i l = IsSearching l.bytes l.count l.i
