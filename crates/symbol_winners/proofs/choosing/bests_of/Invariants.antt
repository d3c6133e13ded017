use Rattle.std.proofs.Common.{◌≡◌, List, length, take}
use Rattle.mo_types.specs.declared.loaded.LoadedFile.{LoadedFile}
use Rattle.symbol_winners.specs.Found.{found}
use Rattle.symbol_winners.specs.Winners.{AreLeast}
use Rattle.symbol_winners.specs.inner.Best.{HasBests}
use Rattle.symbol_winners.proofs.choosing.bests_of.Given as goal

abbrev pub invariant-loop-i : goal.invariant-loop-i
invariant-loop-i l = record {
  size : length l.table.items ≡ length l.names;
  bests : (loaded : List LoadedFile) → AreLeast loaded l.names l.words → HasBests loaded l.names (found (take l.i l.files)) l.table.items;
}
