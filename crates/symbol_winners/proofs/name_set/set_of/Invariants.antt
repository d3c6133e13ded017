use Rattle.std.proofs.Common.{◌≡◌, ℕ, List, take}
use Rattle.symbol_winners.specs.Winners.{lists}
use Rattle.symbol_winners.proofs.name_set.set_of.Given as goal

abbrev pub invariant-loop-name : goal.invariant-loop-name
invariant-loop-name l = (other : List ℕ) → lists l.set other ≡ lists (take l.name-index l.names) other
