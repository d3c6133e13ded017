use Rattle.std.proofs.Common.{◌≡◌, map, take}
use Rattle.island_core.specs.declared.row.Pair.{Pair}
use Rattle.islands.specs.Plan.{target_at}
use Rattle.islands.specs.inner.Held.{target_of}
use Rattle.islands.proofs.area.island_targets.Given as goal

abbrev pub invariant-loop-pair : goal.invariant-loop-pair
invariant-loop-pair l = l.targets.items ≡ map (λ (pair : Pair). target_at (map target_of l.aims) pair.target) (take l.pair-index l.pairs)
