use Rattle.std.proofs.Common.{◌-◌}
use Rattle.mo_ar.proofs.OrderLemmas.{IsHalving}
use Rattle.mo_ar.proofs.order.rank.Given as goal

abbrev pub invariant-loop-low : goal.invariant-loop-low
invariant-loop-low l = IsHalving l.strings l.order l.name l.low l.high

abbrev pub decreases-loop-low : goal.decreases-loop-low
decreases-loop-low l = l.high - l.low
