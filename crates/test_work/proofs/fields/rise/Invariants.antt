use Rattle.test_work.specs.Order.{IsBefore}
use Rattle.test_work.proofs.OrderLemmas.{AreSteps}
use Rattle.test_work.proofs.fields.rise.Given as goal

abbrev pub invariant-loop-i : goal.invariant-loop-i
invariant-loop-i l = AreSteps IsBefore l.mets l.i
