use Rattle.std.proofs.Common.{◌≡◌, map, take}
use Rattle.fold_code.specs.inner.Shapes.{ends_of}
use Rattle.fold_code.proofs.ends.all_ends.Given as goal

abbrev pub invariant-loop-node : goal.invariant-loop-node
invariant-loop-node l = l.all.items ≡ map ends_of (take l.node-index l.nodes)
