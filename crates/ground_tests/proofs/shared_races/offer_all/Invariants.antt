use Rattle.std.proofs.Common.{◌≡◌}
use Rattle.ground_tests.proofs.shared_races.offer_all.Given as goal

abbrev pub invariant-loop-event : goal.invariant-loop-event
invariant-loop-event l = (l.racer.race ≡ l.race) × (l.racer.passes ≡ l.initial.racer.passes)
