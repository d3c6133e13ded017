use Rattle.std.proofs.Common.{◌≡◌, List, length, ◌++◌}
use Rattle.mo_types.specs.declared.loaded.LoadedFile.{LoadedFile}
use Rattle.symbol_winners.specs.Found.{FileCandidate}
use Rattle.symbol_winners.specs.Winners.{AreLeast}
use Rattle.symbol_winners.specs.inner.Best.{HasBests}
use Rattle.symbol_winners.proofs.UntilLemmas.{until}
use Rattle.symbol_winners.proofs.choosing.note_file.Given as goal

abbrev pub invariant-loop-i : goal.invariant-loop-i
invariant-loop-i l = record {
  size : length l.table.items ≡ length l.fn.table.items;
  bests : (files : List LoadedFile) (all : List FileCandidate) → AreLeast files l.names l.words → HasBests files l.names all l.fn.table.items → HasBests files l.names (all ++ until l.file l.i) l.table.items;
}
