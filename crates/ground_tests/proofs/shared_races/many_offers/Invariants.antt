use Rattle.std.proofs.Common.{◌<◌, All}
use Rattle.ground_tests.proofs.shared_races.many_offers.Given as goal

abbrev pub invariant-loop-i : goal.invariant-loop-i
invariant-loop-i l = All (λ e. e.name < 100000) l.events.items
