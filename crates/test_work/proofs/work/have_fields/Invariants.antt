use Rattle.patch.specs.Range.{HasFields}
use Rattle.test_work.proofs.OrderLemmas.{AllBefore}
use Rattle.test_work.proofs.work.have_fields.Given as goal

abbrev pub invariant-loop-item : goal.invariant-loop-item
invariant-loop-item g l = AllBefore (HasFields l.files (g.M.Meeting.mets_of l.meeting)) l.work l.item-index
