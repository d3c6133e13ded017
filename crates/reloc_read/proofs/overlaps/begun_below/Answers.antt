use Rattle.std.proofs.Common.{ltb, rules}
use Rattle.std.proofs.lemmas.List.Sorted.{IsPartitionPoint-from_clause, IsPartitionedBy-ltb}
use Rattle.reloc_read.proofs.CountLemmas.{point_counts}
use Rattle.reloc_read.proofs.overlaps.begun_below.Goals as goal

pub returns : goal.returns
returns c = λ rise.
    point_counts (λ field. ltb field.offset c.args.offset) c.args.fields.now _ c.partition_point.ensures.bound
    (IsPartitionPoint-from_clause (λ field. ltb field.offset c.args.offset) _ _ c.partition_point.ensures.partitioned
    (IsPartitionedBy-ltb (λ field. field.offset) c.args.fields.now c.args.offset rise) (λ a r q k. search rules))
