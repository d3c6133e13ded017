use Rattle.std.proofs.Common.{rules, ltb}
use Rattle.std.proofs.lemmas.List.Sorted.{IsPartitionPoint-from_clause, IsPartitionedBy-ltb}
use Rattle.fixup_chain.specs.declared.chains.Fixup.{Fixup}
use Rattle.fixup_chain.proofs.PlaceLemmas.{rising}
use Rattle.fixup_chain.proofs.places.below.Goals as goal

pub returns-clause-point : goal.returns-clause-point
returns-clause-point c =
    IsPartitionPoint-from_clause (λ (f : Fixup). ltb f.address c.args.end) _ _ c.partition_point.ensures.partitioned
    (IsPartitionedBy-ltb (λ (f : Fixup). f.address) c.args.fixups.now c.args.end (rising c.args.fixups.now c.requires)) (λ a r q k. search rules)
