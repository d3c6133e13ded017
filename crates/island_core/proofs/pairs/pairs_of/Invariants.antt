use Rattle.std.proofs.Common.{◌≡◌, take}
use Rattle.island_core.specs.Far.{is_grouped}
use Rattle.island_core.specs.inner.Rounds.{picked}
use Rattle.island_core.proofs.pairs.pairs_of.Given as goal

abbrev pub invariant-loop-row : goal.invariant-loop-row
invariant-loop-row l = l.pairs.items ≡ picked (λ row. is_grouped row.case) (take l.row-index l.rows)
