use Rattle.std.proofs.Common.{◌≡◌, take}
use Rattle.slot_plan.specs.inner.Held.{needs_behind}
use Rattle.slot_plan.proofs.rough.with_keys.Given as goal

abbrev pub invariant-loop-need : goal.invariant-loop-need
invariant-loop-need l = needs_behind l.keyed.items ≡ take l.need-index l.needs
