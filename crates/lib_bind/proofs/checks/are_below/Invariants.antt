use Rattle.lib_bind.proofs.CheckedLemmas.{AreBelow}
use Rattle.lib_bind.proofs.checks.are_below.Given as goal

abbrev pub invariant-loop-number : goal.invariant-loop-number
invariant-loop-number l = AreBelow l.numbers l.end l.number-index
