use Rattle.std.proofs.Common.{rules}
use Rattle.patch.specs.Range.{HasFields}
use Rattle.patch.proofs.LeastLemmas.{element_at}
use Rattle.test_work.proofs.OrderLemmas.{one_more_before}
use Rattle.test_work.proofs.work.have_fields.Goals as goal

pub loop-item-preserved : goal.loop-item-preserved
loop-item-preserved g c =
    one_more_before (HasFields c.args.files.now (g.M.Meeting.mets_of c.args.meeting.now)) c.args.work.now c.loop-item.item-index _
    c.loop-item.invariant c.loop-item-test.true
    (element_at c.args.work.now c.loop-item.item-index _ _ c.loop-item-test.true)
    (c.in_ok-has_fields.ensures (search rules))
