use Rattle.std.proofs.Common.{◌≡◌, ◌∷◌, map, take}
use Rattle.fold_code.specs.Fold.{partition_of}
use Rattle.fold_code.proofs.round.row.Given as goal

abbrev pub invariant-loop-end : goal.invariant-loop-end
invariant-loop-end l = l.row.items ≡ partition_of l.firsts l.node ∷ map (partition_of l.firsts) (take l.end-index l.ends)
