use Rattle.std.proofs.Common.{rules, nat_lt}
use Rattle.std.proofs.lemmas.List.Sorted.{IsPartitionPoint-from_clause, IsPartitionedBy-ltb}
use Rattle.liveness.specs.Order.{place_at}
use Rattle.liveness.proofs.RunLemmas.{places_rise}
use Rattle.liveness.proofs.run.count_before.Goals as goal

pub returns-clause-point : goal.returns-clause-point
returns-clause-point c =
    IsPartitionPoint-from_clause (λ index. nat_lt (place_at c.args.refs.now index) c.args.at) _ _ c.partition_point.ensures.partitioned
    (IsPartitionedBy-ltb (place_at c.args.refs.now) c.args.order.now c.args.at (places_rise c.args.refs.now c.args.order.now c.requires)) (λ a r q k. search rules)
