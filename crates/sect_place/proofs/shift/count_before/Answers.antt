use Rattle.std.proofs.Common.{rules}
use Rattle.std.specs.Ordering.{is_lt}
use Rattle.std.proofs.lemmas.List.Sorted.{IsPartitionPoint-from_clause}
use Rattle.mo_types.specs.Keys.{compare_keys}
use Rattle.sect_place.specs.declared.shift.Step.{Step}
use Rattle.sect_place.proofs.Shifting.{steps_parted}
use Rattle.sect_place.proofs.shift.count_before.Goals as goal

pub returns : goal.returns
returns c = λ rising.
    IsPartitionPoint-from_clause (λ (step : Step). is_lt (compare_keys step.last c.args.atom.now)) _ _ c.partition_point.ensures.partitioned
    (steps_parted c.args.steps.now c.args.atom.now rising) (λ a r q k. search rules)
