use Rattle.std.proofs.Common.{◌∙◌}
use Rattle.island_core.proofs.CountLemmas.{counts_none}
use Rattle.island_core.proofs.rounds.counts.Goals as goal

pub count_all-requires : goal.count_all-requires
count_all-requires c = record { none = counts_none c.args.set.now c.as_mut_slice.result.now c.args.groups (c.as_mut_slice.ensures.value ∙ c.in_ok-counts.ensures.items_if_clones_equal (λ y e. e)) }
