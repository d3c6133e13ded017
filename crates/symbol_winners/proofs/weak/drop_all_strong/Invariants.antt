use Rattle.std.proofs.Common.{◌≡◌, ℕ, ◌&&◌, not, List, take}
use Rattle.std.specs.List.{list_any}
use Rattle.symbol_winners.specs.SymbolTable.{is_strong_to}
use Rattle.symbol_winners.specs.Winners.{lists}
use Rattle.symbol_winners.proofs.WeakLemmas.{of_file}
use Rattle.symbol_winners.proofs.weak.drop_all_strong.Given as goal

abbrev pub invariant-loop-file : goal.invariant-loop-file
invariant-loop-file l = (name : List ℕ) → lists l.names name ≡ (lists l.fn.before name && not (list_any (of_file (is_strong_to name)) (take l.file-index l.files)))
