use Rattle.std.proofs.Common.{◌≡◌, drop}
use Rattle.std.specs.Cmp.Lexicographic.{pointwise}
use Rattle.fold_code.specs.inner.Shapes.{same_link}
use Rattle.fold_code.proofs.shape.are_same_links.Given as goal

abbrev pub invariant-loop-i : goal.invariant-loop-i
invariant-loop-i l = pointwise same_link (drop l.i l.a) (drop l.i l.b) ≡ pointwise same_link l.a l.b
