use Rattle.mo_ar.proofs.TextLemmas.{IsSpelling}
use Rattle.mo_ar.proofs.text.decimal.Given as goal

abbrev pub invariant-loop-digit : goal.invariant-loop-digit
invariant-loop-digit l = IsSpelling l.text l.digit-index l.number
