use Rattle.std.proofs.Common.{rules, ltb, ◌/◌}
use Rattle.std.proofs.lemmas.List.Sorted.{IsPartitionPoint-from_clause, IsPartitionedBy-ltb}
use Rattle.fixup_chain.specs.Places.{PAGE}
use Rattle.fixup_chain.specs.declared.chains.Fixup.{Fixup}
use Rattle.fixup_chain.proofs.PlaceLemmas.{pages_rise}
use Rattle.fixup_chain.proofs.places.before_page.Goals as goal

pub returns : goal.returns
returns c =
    IsPartitionPoint-from_clause (λ (f : Fixup). ltb (f.address / PAGE) c.args.page) _ _ c.partition_point.ensures.partitioned
    (IsPartitionedBy-ltb (λ (f : Fixup). f.address / PAGE) c.args.fixups.now c.args.page (pages_rise c.args.fixups.now c.requires)) (λ a r q k. search rules)
