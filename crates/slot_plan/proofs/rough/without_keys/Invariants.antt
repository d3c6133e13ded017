use Rattle.std.proofs.Common.{◌≡◌, take}
use Rattle.slot_plan.specs.inner.Held.{needs_behind}
use Rattle.slot_plan.proofs.rough.without_keys.Given as goal

abbrev pub invariant-loop-each : goal.invariant-loop-each
invariant-loop-each l = l.needs.items ≡ needs_behind (take l.each-index l.keyed)
