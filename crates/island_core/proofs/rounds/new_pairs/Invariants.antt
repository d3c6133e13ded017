use Rattle.std.proofs.Common.{◌≡◌, take}
use Rattle.island_core.specs.inner.Rounds.{new_pairs_of}
use Rattle.island_core.proofs.rounds.new_pairs.Given as goal

abbrev pub invariant-loop-row : goal.invariant-loop-row
invariant-loop-row l = l.pairs.items ≡ new_pairs_of l.scale l.set (take l.row-index l.rows)
