use Rattle.std.proofs.Common.{◌≡◌}
use Rattle.std.specs.List.{AllAdjacentBelow}
use Rattle.std.specs.declared.cmp.Ordering.TheVariants.{Less}
use Rattle.fold_code.specs.declared.node.FoldNode.{FoldNode}
use Rattle.mo_types.specs.Keys.{compare_keys}
use Rattle.fold_tests.proofs.given.is_rising.Given as goal

abbrev pub invariant-loop-i : goal.invariant-loop-i
invariant-loop-i l = AllAdjacentBelow (λ (a : FoldNode) (b : FoldNode). compare_keys a.key b.key ≡ Less) l.nodes l.i
