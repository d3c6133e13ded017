use Rattle.unwind_read.proofs.OverlapLemmas.{rising_from_sort}
use Rattle.unwind_read.proofs.overlaps.in_order.Goals as goal

pub returns : goal.returns
returns c = record { moved = c.sort_unstable.ensures.permutation; rise = rising_from_sort _ c.sort_unstable.ensures.sorted }
