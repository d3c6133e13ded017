use Rattle.std.proofs.Common.{ltb, rules}
use Rattle.std.proofs.lemmas.List.Sorted.{IsPartitionPoint-from_clause, IsPartitionedBy-ltb}
use Rattle.unwind_out.proofs.Spelling.{point_place}
use Rattle.unwind_out.proofs.write.rows_before.Goals as goal

pub returns : goal.returns
returns c =
    point_place c.args.lsdas.now c.args.function c.partition_point.result c.partition_point.ensures.bound
    (IsPartitionPoint-from_clause (λ row. ltb row.function_offset c.args.function) _ _ c.partition_point.ensures.partitioned
    (IsPartitionedBy-ltb (λ row. row.function_offset) c.args.lsdas.now c.args.function c.requires.each) (λ a r q k. search rules))
