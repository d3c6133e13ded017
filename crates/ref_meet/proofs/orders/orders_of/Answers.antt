use Rattle.ref_meet.proofs.OrderLemmas.{order_more}
use Rattle.ref_meet.proofs.orders.orders_of.Goals as goal

pub loop-file-preserved : goal.loop-file-preserved
loop-file-preserved c =
    order_more c.args.files.now c.loop-file.file-index c.loop-file.orders c.push.new.self c.file-item.result c.in_ok-ref_order.field-0 c.loop-file.invariant c.loop-file-test.true c.file-item.is c.in_ok-ref_order.ensures c.in_ok-push.ensures.ok
