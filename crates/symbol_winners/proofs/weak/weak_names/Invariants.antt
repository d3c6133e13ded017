use Rattle.std.proofs.Common.{◌≡◌, ℕ, List, take}
use Rattle.std.specs.List.{list_any}
use Rattle.symbol_winners.specs.SymbolTable.{is_weak_to}
use Rattle.symbol_winners.specs.Winners.{lists}
use Rattle.symbol_winners.proofs.WeakLemmas.{of_file}
use Rattle.symbol_winners.proofs.weak.weak_names.Given as goal

abbrev pub invariant-loop-file : goal.invariant-loop-file
invariant-loop-file l = (name : List ℕ) → lists l.names name ≡ list_any (of_file (is_weak_to name)) (take l.file-index l.files)
