use Rattle.std.proofs.Common.{rules, sym}
use Rattle.std.specs.Ordering.{is_lt}
use Rattle.std.proofs.lemmas.List.Sorted.{IsPartitionPoint-from_clause}
use Rattle.mo_types.proofs.KeyOrder.{compare_keys_total}
use Rattle.mo_types.specs.Keys.{compare_keys}
use Rattle.mo_types.specs.declared.key.AtomKey.{AtomKey}
use Rattle.islands.proofs.Counting.{count_to}
use Rattle.islands.proofs.Keyed.{parted}
use Rattle.islands.proofs.text.groups_before.Goals as goal

pub returns-clause-exact : goal.returns-clause-exact
returns-clause-exact c =
    sym (count_to (λ (last : AtomKey). is_lt (compare_keys last c.args.key.now)) c.args.lasts.now c.partition_point.result c.partition_point.ensures.bound
    (IsPartitionPoint-from_clause (λ (last : AtomKey). is_lt (compare_keys last c.args.key.now)) _ _ c.partition_point.ensures.partitioned
    (parted compare_keys_total c.args.lasts.now c.args.key.now c.requires) (λ a r q k. search rules)))
