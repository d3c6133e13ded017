use Rattle.test_work.specs.Order.{IsAfter}
use Rattle.test_work.proofs.OrderLemmas.{AreSteps}
use Rattle.test_work.proofs.fields.fall.Given as goal

abbrev pub invariant-loop-i : goal.invariant-loop-i
invariant-loop-i l = AreSteps IsAfter l.mets l.i
