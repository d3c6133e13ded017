use Rattle.mark_core.proofs.ArrowLemmas.{by_sources}
use Rattle.mark_core.proofs.arrows.sorted_arrows.Goals as goal

pub returns-clause-sorted : goal.returns-clause-sorted
returns-clause-sorted c = by_sources _ c.in_ok-sort.ensures.sorted
