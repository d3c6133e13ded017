use Rattle.std.proofs.Common.{take}
use Rattle.mark_race.specs.inner.Working.{HasMarked}
use Rattle.mark_race.proofs.level.mark_row.Given as goal

abbrev pub invariant-loop-atom : goal.invariant-loop-atom
invariant-loop-atom l = HasMarked (take l.atom-index l.row) l.fn.worker l.worker
