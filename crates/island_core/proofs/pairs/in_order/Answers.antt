use Rattle.std.proofs.lemmas.List.Filters.{dedup_is}
use Rattle.island_core.proofs.PairLemmas.{once_has, once_rises}
use Rattle.island_core.proofs.pairs.in_order.Goals as goal

pub returns-clause-same : goal.returns-clause-same
returns-clause-same c = once_has _ _ _ c.in_ok-sort.ensures.permutation (dedup_is _ _ _ c.dedup.ensures.filtered)

pub returns-clause-rises : goal.returns-clause-rises
returns-clause-rises c = once_rises _ _ c.in_ok-sort.ensures.sorted (dedup_is _ _ _ c.dedup.ensures.filtered)
