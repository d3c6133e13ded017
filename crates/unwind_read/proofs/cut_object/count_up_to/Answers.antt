use Rattle.std.proofs.Common.{rules}
use Rattle.std.proofs.lemmas.List.Sorted.{IsPartitionPoint-from_clause}
use Rattle.reloc_read.specs.CutObject.{is_up_to}
use Rattle.reloc_read.proofs.LookupLemmas.{keys_are_parted}
use Rattle.unwind_read.proofs.cut_object.count_up_to.Goals as goal

pub returns-clause-point : goal.returns-clause-point
returns-clause-point c =
    IsPartitionPoint-from_clause (λ atom. is_up_to c.args.number c.args.offset atom.key) _ _ c.partition_point.ensures.partitioned
    (keys_are_parted c.args.number c.args.offset c.args.atoms.now c.requires) (λ a r q k. search rules)
