use Rattle.patch.specs.Order.{StandsBefore}
use Rattle.test_work.proofs.OrderLemmas.{AreSteps}
use Rattle.test_work.proofs.work.stand_in_order.Given as goal

abbrev pub invariant-loop-i : goal.invariant-loop-i
invariant-loop-i l = AreSteps (StandsBefore l.files) l.work l.i
