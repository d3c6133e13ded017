use Rattle.std.proofs.Common.{rules}
use Rattle.std.proofs.lemmas.List.Sorted.{IsPartitionPoint-from_clause}
use Rattle.mark_core.specs.inner.Arrows.{is_before}
use Rattle.mark_core.proofs.ArrowLemmas.{before_parted}
use Rattle.mark_core.proofs.arrows.count_before.Goals as goal

pub returns-clause-point : goal.returns-clause-point
returns-clause-point c =
    IsPartitionPoint-from_clause (is_before c.args.key.now) _ _ c.partition_point.ensures.partitioned
    (before_parted c.args.key.now c.args.arrows.now c.requires) (λ a r q k. search rules)
