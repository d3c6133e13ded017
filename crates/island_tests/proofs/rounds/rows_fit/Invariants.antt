use Rattle.island_tests.proofs.Fitting.{AreFitting}
use Rattle.island_tests.proofs.rounds.rows_fit.Given as goal

abbrev pub invariant-loop-row : goal.invariant-loop-row
invariant-loop-row l = AreFitting l.scale l.rows l.row-index
