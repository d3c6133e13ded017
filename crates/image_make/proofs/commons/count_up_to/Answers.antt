use Rattle.std.proofs.Common.{rules}
use Rattle.std.proofs.lemmas.List.Sorted.{IsPartitionPoint-from_clause}
use Rattle.image_make.specs.inner.Commons.{is_up_to}
use Rattle.image_make.proofs.CommonLemmas.{up_to_parted}
use Rattle.image_make.proofs.commons.count_up_to.Goals as goal

pub returns : goal.returns
returns c = record {
  within = c.partition_point.ensures.bound;
  point = IsPartitionPoint-from_clause (is_up_to c.args.id) _ _ c.partition_point.ensures.partitioned (up_to_parted c.args.atoms.now c.args.id c.requires) (λ a r q k. search rules);
}
