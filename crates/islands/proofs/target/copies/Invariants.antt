use Rattle.std.proofs.Common.{◌≡◌, map, take}
use Rattle.islands.specs.inner.Held.{target_of, targets_behind}
use Rattle.islands.proofs.target.copies.Given as goal

abbrev pub invariant-loop-each : goal.invariant-loop-each
invariant-loop-each l = map target_of l.aims.items ≡ targets_behind (take l.each-index l.keyed)
