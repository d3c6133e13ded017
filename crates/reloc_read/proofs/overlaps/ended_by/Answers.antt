use Rattle.std.proofs.Common.{leb, rules}
use Rattle.std.proofs.lemmas.List.Sorted.{IsPartitionPoint-from_clause, IsPartitionedBy-leb}
use Rattle.reloc_read.proofs.CountLemmas.{point_counts}
use Rattle.reloc_read.proofs.overlaps.ended_by.Goals as goal

pub returns : goal.returns
returns c = λ rise.
    point_counts (λ end. leb end c.args.offset) c.args.ends.now _ c.partition_point.ensures.bound
    (IsPartitionPoint-from_clause (λ end. leb end c.args.offset) _ _ c.partition_point.ensures.partitioned
    (IsPartitionedBy-leb (λ end. end) c.args.ends.now c.args.offset rise) (λ a r q k. search rules))
