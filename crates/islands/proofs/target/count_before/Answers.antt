use Rattle.std.proofs.Common.{map, rules, sym, ◌∙◌}
use Rattle.std.specs.Ordering.{is_lt}
use Rattle.std.proofs.lemmas.List.Sorted.{IsPartitionPoint-from_clause}
use Rattle.sect_place.specs.declared.island.BranchTarget.{BranchTarget}
use Rattle.islands.specs.Targets.{compare_targets}
use Rattle.islands.specs.declared.target.Aim.{Aim}
use Rattle.islands.specs.inner.Held.{target_of}
use Rattle.islands.proofs.Counting.{count_to}
use Rattle.islands.proofs.Keyed.{compare_targets_total, count_map, parted, parted_map}
use Rattle.islands.proofs.target.count_before.Goals as goal

pub returns : goal.returns
returns c =
    sym (count_map target_of (λ (t : BranchTarget). is_lt (compare_targets t (target_of c.args.aim.now))) c.args.aims.now
    ∙ count_to (λ (aim : Aim). is_lt (compare_targets (target_of aim) (target_of c.args.aim.now))) c.args.aims.now c.partition_point.result c.partition_point.ensures.bound
    (IsPartitionPoint-from_clause (λ (aim : Aim). is_lt (compare_targets (target_of aim) (target_of c.args.aim.now))) _ _ c.partition_point.ensures.partitioned
    (parted_map target_of (λ (t : BranchTarget). is_lt (compare_targets t (target_of c.args.aim.now))) c.args.aims.now (parted compare_targets_total (map target_of c.args.aims.now) (target_of c.args.aim.now) c.requires)) (λ a r q k. search rules)))
