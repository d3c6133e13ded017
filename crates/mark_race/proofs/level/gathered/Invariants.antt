use Rattle.mark_race.specs.inner.Working.{AreGathered}
use Rattle.mark_race.proofs.level.gathered.Given as goal

abbrev pub invariant-loop-worker : goal.invariant-loop-worker
invariant-loop-worker l = AreGathered l.yielded l.markers.items l.all.items
