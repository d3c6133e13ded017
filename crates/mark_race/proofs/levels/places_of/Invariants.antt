use Rattle.mark_race.specs.inner.Team.{ArePlaces}
use Rattle.mark_race.proofs.levels.places_of.Given as goal

abbrev pub invariant-loop-i : goal.invariant-loop-i
invariant-loop-i l = ArePlaces l.start l.i l.work.items
