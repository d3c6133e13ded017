use Rattle.liveness.proofs.RunLemmas.{point_lower}
use Rattle.liveness.proofs.run.count_before_near.Goals as goal

pub returns-then-begins_at-clause-point : goal.returns-then-begins_at-clause-point
returns-then-begins_at-clause-point c =
    point_lower c.args.refs.now c.args.order.now c.args.at c.args.near c.requires c.if-near-order.true (c.ends_before.ensures c.if-ends_before.true) (c.begins_at.ensures c.if-begins_at.true)
