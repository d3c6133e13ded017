use Rattle.std.proofs.Common.{rules}
use Rattle.std.proofs.lemmas.List.Sorted.{IsPartitionPoint-from_clause}
use Rattle.image_make.specs.inner.Commons.{is_below}
use Rattle.image_make.proofs.CommonLemmas.{below_parted}
use Rattle.image_make.proofs.commons.count_below.Goals as goal

pub returns : goal.returns
returns c = record {
  within = c.partition_point.ensures.bound;
  point = IsPartitionPoint-from_clause (is_below c.args.id) _ _ c.partition_point.ensures.partitioned (below_parted c.args.atoms.now c.args.id c.requires) (λ a r q k. search rules);
}
