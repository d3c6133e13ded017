use Rattle.std.proofs.Common.{◌≡◌, ◌++◌, take}
use Rattle.std.specs.List.{flat_map}
use Rattle.fold_code.specs.inner.Shapes.{ends_of_unwind}
use Rattle.fold_code.proofs.ends.with_unwinds.Given as goal

abbrev pub invariant-loop-unwind : goal.invariant-loop-unwind
invariant-loop-unwind l = l.ends.items ≡ l.fn.before.items ++ flat_map ends_of_unwind (take l.unwind-index l.unwinds)
