use Rattle.mark_race.specs.inner.Numbers.{ArePicked}
use Rattle.mark_race.proofs.keeping.picked.Given as goal

abbrev pub invariant-loop-i : goal.invariant-loop-i
invariant-loop-i l = ArePicked l.atoms.keys l.marked l.i l.list.items
