use Rattle.lib_bind.proofs.ReachLemmas.{rises}
use Rattle.lib_bind.proofs.reach.put_in_order.Goals as goal

pub returns-clause-rising : goal.returns-clause-rising
returns-clause-rising c = rises _ _ c.requires.once c.sort_unstable.ensures.permutation c.sort_unstable.ensures.sorted
