use Rattle.std.proofs.Common.{◌≡◌, map, take}
use Rattle.fold_code.proofs.folding.shapes.Given as goal

abbrev pub invariant-loop-node : goal.invariant-loop-node
invariant-loop-node l = map (λ shape. shape.node.now) l.shapes.items ≡ take l.node-index l.nodes
