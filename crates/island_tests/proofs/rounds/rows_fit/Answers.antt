use Rattle.std.proofs.Common.{refl}
use Rattle.island_tests.proofs.Fitting.{fitting_more, fitting_rows, fitting_start, fitting_turns}
use Rattle.island_tests.proofs.rounds.rows_fit.Goals as goal

pub loop-row-init : goal.loop-row-init
loop-row-init c = fitting_start c.args.scale.now c.args.rows.now

pub loop-row-preserved : goal.loop-row-preserved
loop-row-preserved c = fitting_more c.args.scale.now c.args.rows.now c.loop-row.row-index _ c.loop-row.invariant c.loop-row-test.true (c.if-not-row_fits.ensures.row refl) (c.if-not-row_fits.ensures.turn refl)

pub returns-clause-rows : goal.returns-clause-rows
returns-clause-rows c = λ _. fitting_rows c.args.scale.now c.args.rows.now c.loop-row.row-index c.loop-row.invariant c.loop-row-test.false

pub returns-clause-turns : goal.returns-clause-turns
returns-clause-turns c = λ _. fitting_turns c.args.scale.now c.args.rows.now c.loop-row.row-index c.loop-row.invariant c.loop-row-test.false
