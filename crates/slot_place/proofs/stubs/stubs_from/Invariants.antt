use Rattle.std.proofs.Common.{◌≡◌}
use Rattle.slot_place.proofs.StubLemmas.{stubs_to}
use Rattle.slot_place.proofs.stubs.stubs_from.Given as goal

abbrev pub invariant-loop-number : goal.invariant-loop-number
invariant-loop-number l = l.bytes.items ≡ stubs_to l.starts l.slots l.start l.number
