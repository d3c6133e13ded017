use Rattle.std.proofs.Common.{◌<◌, All, take}
use Rattle.mark_tests.proofs.graphs.table_fits.Given as goal

abbrev pub invariant-loop-atom : goal.invariant-loop-atom
invariant-loop-atom l = All (λ row. All (λ atom. atom < l.count) row) (take l.atom l.ends)
