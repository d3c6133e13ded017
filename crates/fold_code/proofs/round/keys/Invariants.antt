use Rattle.std.proofs.Common.{◌≡◌, map, take}
use Rattle.fold_code.proofs.round.keys.Given as goal

abbrev pub invariant-loop-row : goal.invariant-loop-row
invariant-loop-row l = map (λ key. key.now) l.keys.items ≡ take l.row-index l.rows
