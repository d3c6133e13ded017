use Rattle.name_offers.proofs.TeamLemmas.{IsJoined}
use Rattle.name_offers.proofs.racing.joined.Given as goal

abbrev pub invariant-loop-racer : goal.invariant-loop-racer
invariant-loop-racer l = IsJoined l.race l.initial.all l.all l.yielded
