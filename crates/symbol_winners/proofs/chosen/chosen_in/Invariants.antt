use Rattle.std.proofs.Common.{◌≡◌, take}
use Rattle.std.specs.List.{filter_map}
use Rattle.symbol_winners.specs.inner.Best.{chosen_of}
use Rattle.symbol_winners.proofs.chosen.chosen_in.Given as goal

abbrev pub invariant-loop-best : goal.invariant-loop-best
invariant-loop-best l = l.list.items ≡ filter_map chosen_of (take l.best-index l.table)
