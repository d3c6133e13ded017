use Rattle.std.proofs.Common.{rules}
use Rattle.std.proofs.lemmas.List.Sorted.{IsPartitionPoint-from_clause}
use Rattle.reloc_read.proofs.CountLemmas.{point_counts}
use Rattle.unwind_read.specs.Overlaps.{is_before}
use Rattle.unwind_read.proofs.OverlapLemmas.{parted_before}
use Rattle.unwind_read.proofs.overlaps.count_before.Goals as goal

pub returns : goal.returns
returns c =
    point_counts (λ other. is_before other c.args.bound.now) c.args.bounds.now _ c.partition_point.ensures.bound
    (IsPartitionPoint-from_clause (λ other. is_before other c.args.bound.now) _ _ c.partition_point.ensures.partitioned
    (parted_before c.args.bounds.now c.args.bound.now c.requires) (λ a r q k. search rules))
