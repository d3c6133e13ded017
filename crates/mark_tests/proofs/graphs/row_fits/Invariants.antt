use Rattle.std.proofs.Common.{◌<◌, All, take}
use Rattle.mark_tests.proofs.graphs.row_fits.Given as goal

abbrev pub invariant-loop-atom : goal.invariant-loop-atom
invariant-loop-atom l = All (λ atom. atom < l.count) (take l.atom-index l.row)
