use Rattle.std.proofs.Common.{take}
use Rattle.symbol_winners.specs.Found.{found}
use Rattle.symbol_winners.specs.inner.Tables.{AreFirsts, strong_among}
use Rattle.symbol_winners.proofs.duplicates.firsts_of.Given as goal

abbrev pub invariant-loop-i : goal.invariant-loop-i
invariant-loop-i l = AreFirsts l.names (strong_among (found (take l.i l.files))) l.table.items
