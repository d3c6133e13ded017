use Rattle.mark_race.specs.inner.Working.{AreFresh}
use Rattle.mark_race.proofs.level.workers_of.Given as goal

abbrev pub invariant-loop-marker : goal.invariant-loop-marker
invariant-loop-marker l = AreFresh l.yielded l.workers.items
