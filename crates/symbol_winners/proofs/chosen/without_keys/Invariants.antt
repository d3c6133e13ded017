use Rattle.std.proofs.Common.{◌≡◌, take}
use Rattle.symbol_winners.proofs.chosen.without_keys.Given as goal

abbrev pub invariant-loop-keyed : goal.invariant-loop-keyed
invariant-loop-keyed l = l.chosen.items ≡ take l.keyed-index l.list
