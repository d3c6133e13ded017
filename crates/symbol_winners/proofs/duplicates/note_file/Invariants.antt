use Rattle.std.proofs.Common.{◌≡◌, List, length, ◌++◌}
use Rattle.symbol_winners.specs.Found.{FileCandidate}
use Rattle.symbol_winners.specs.inner.Tables.{AreFirsts, strong_among}
use Rattle.symbol_winners.proofs.UntilLemmas.{until}
use Rattle.symbol_winners.proofs.duplicates.note_file.Given as goal

abbrev pub invariant-loop-i : goal.invariant-loop-i
invariant-loop-i l = record {
  size : length l.table.items ≡ length l.fn.table.items;
  firsts : (all : List FileCandidate) → AreFirsts l.names (strong_among all) l.fn.table.items → AreFirsts l.names (strong_among (all ++ until l.file l.i)) l.table.items;
}
