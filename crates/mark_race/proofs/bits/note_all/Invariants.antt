use Rattle.mark_race.specs.Rule.{IsPacked}
use Rattle.mark_race.proofs.bits.note_all.Given as goal

abbrev pub invariant-loop-i : goal.invariant-loop-i
invariant-loop-i l = IsPacked l.start l.words l.i
