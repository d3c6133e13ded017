use Rattle.std.proofs.Common.{◌∷◌}
use Rattle.mark_race.specs.inner.Team.{IsUnion}
use Rattle.mark_race.proofs.team.union.Given as goal

abbrev pub invariant-loop-marker : goal.invariant-loop-marker
invariant-loop-marker l = IsUnion l.race (l.initial.all ∷ l.yielded) l.all
