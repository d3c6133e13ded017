use Rattle.std.proofs.Common.{◌≡◌, fold, take}
use Rattle.std.specs.List.{flat_map}
use Rattle.fold_code.specs.inner.Shapes.{feed_unwind}
use Rattle.fold_code.proofs.shape.hash_unwinds.Given as goal

abbrev pub invariant-loop-unwind : goal.invariant-loop-unwind
invariant-loop-unwind g l = l.state ≡ fold g.H.Hasher.write l.initial.state (flat_map feed_unwind (take l.unwind-index l.unwinds))
