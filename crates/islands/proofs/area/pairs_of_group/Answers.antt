use Rattle.std.proofs.Common.{nat_lt, rules, ◌==◌}
use Rattle.std.proofs.lemmas.List.Sorted.{IsPartitionPoint-from_clause}
use Rattle.island_core.specs.declared.row.Pair.{Pair}
use Rattle.islands.proofs.Pieces.{first_parted, pairs_there, rest_parted, whole_rest}
use Rattle.islands.proofs.area.pairs_of_group.Goals as goal

pub returns : goal.returns
returns c =
    let far = c.args.far.now in
    let first = c.partition_point-first.result in
    let before = IsPartitionPoint-from_clause (λ (pair : Pair). nat_lt pair.group c.args.group) _ _ c.partition_point-first.ensures.partitioned (first_parted far c.args.group c.requires) (λ a r q k. search rules) in
    let same = whole_rest far first in
    pairs_there far _ c.args.group first c.partition_point-count.result c.requires c.partition_point-first.ensures.bound c.partition_point-count.ensures.bound same before
    (IsPartitionPoint-from_clause (λ (pair : Pair). pair.group == c.args.group) _ _ c.partition_point-count.ensures.partitioned (rest_parted far _ c.args.group first c.requires before c.partition_point-first.ensures.bound same) (λ a r q k. search rules))
