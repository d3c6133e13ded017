use Rattle.std.proofs.Common.{◌≡◌, ◌+◌, length}
use Rattle.name_offers.proofs.TeamLemmas.{IsSplit}
use Rattle.name_offers.proofs.racing.racers_of.Given as goal

abbrev pub invariant-loop-i : goal.invariant-loop-i
invariant-loop-i l = record { split : IsSplit l.race l.passes l.first l.all.items; count : length l.all.items + 1 ≡ l._i }
