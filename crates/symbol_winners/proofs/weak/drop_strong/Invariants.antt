use Rattle.std.proofs.Common.{◌≡◌, ℕ, ◌&&◌, not, List, take}
use Rattle.std.specs.List.{list_any}
use Rattle.symbol_winners.specs.SymbolTable.{is_strong_to}
use Rattle.symbol_winners.specs.Winners.{lists}
use Rattle.symbol_winners.proofs.weak.drop_strong.Given as goal

abbrev pub invariant-loop-symbol : goal.invariant-loop-symbol
invariant-loop-symbol l = (name : List ℕ) → lists l.names name ≡ (lists l.fn.before name && not (list_any (is_strong_to name) (take l.symbol-index l.symbols)))
