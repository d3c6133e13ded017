use Rattle.std.proofs.lemmas.List.Filters.{dedup_is}
use Rattle.mark_core.proofs.SetLemmas.{once_has, once_rises}
use Rattle.mark_core.proofs.key_set.in_order.Goals as goal

pub returns-clause-same : goal.returns-clause-same
returns-clause-same c = once_has _ _ _ c.in_ok-sort.ensures.permutation (dedup_is _ _ _ c.dedup.ensures.filtered)

pub returns-clause-rising : goal.returns-clause-rising
returns-clause-rising c = once_rises _ _ c.in_ok-sort.ensures.sorted (dedup_is _ _ _ c.dedup.ensures.filtered)
