use Rattle.std.proofs.Common.{◌≡◌, map, take}
use Rattle.image_make.specs.Atoms.{common_at}
use Rattle.image_make.proofs.commons.found_for.Given as goal

abbrev pub invariant-loop-winner : goal.invariant-loop-winner
invariant-loop-winner l = l.found.items ≡ map (common_at (take l.winner-index l.winners)) l.keys
