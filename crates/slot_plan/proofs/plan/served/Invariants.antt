use Rattle.std.proofs.Common.{◌≡◌, take}
use Rattle.slot_plan.specs.Slots.{needed}
use Rattle.slot_plan.specs.inner.Held.{held, held_needs, serves}
use Rattle.slot_plan.proofs.plan.served.Given as goal

abbrev pub invariant-loop-need : goal.invariant-loop-need
invariant-loop-need l = held l.goals.items ≡ needed (serves l.table) (held_needs (take l.need-index l.needs))
