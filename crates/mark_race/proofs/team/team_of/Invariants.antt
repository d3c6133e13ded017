use Rattle.std.proofs.Common.{◌≡◌, ◌+◌, length}
use Rattle.mark_race.proofs.Teams.{IsSplit}
use Rattle.mark_race.proofs.team.team_of.Given as goal

abbrev pub invariant-loop-i : goal.invariant-loop-i
invariant-loop-i l = record { split : IsSplit l.race l.initial.first l.first l.team.items; count : length l.team.items + 1 ≡ l._i }
