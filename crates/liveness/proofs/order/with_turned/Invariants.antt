use Rattle.std.proofs.Common.{◌-◌, length}
use Rattle.liveness.proofs.TurnLemmas.{IsTurningBehind}
use Rattle.liveness.proofs.order.with_turned.Given as goal

abbrev pub invariant-loop-step : goal.invariant-loop-step
invariant-loop-step l = IsTurningBehind l.fn.before.items l.spots (length l.spots - l.step) l.end l.new.items
