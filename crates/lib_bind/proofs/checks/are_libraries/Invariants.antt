use Rattle.lib_bind.proofs.CheckedLemmas.{AreNext}
use Rattle.lib_bind.proofs.checks.are_libraries.Given as goal

abbrev pub invariant-loop-at : goal.invariant-loop-at
invariant-loop-at l = AreNext l.documents l.libraries l.at
