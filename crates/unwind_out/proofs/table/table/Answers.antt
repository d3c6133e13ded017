use Rattle.std.proofs.Common.{◌+◌, get_or}
use Rattle.std.proofs.lemmas.List.{get_or_default, take_rest}
use Rattle.unwind_out.specs.Table.{no_row}
use Rattle.unwind_out.proofs.Loops.{tabling_goes_on}
use Rattle.unwind_out.proofs.table.table.Goals as goal

pub loop-at-preserved : goal.loop-at-preserved
loop-at-preserved c =
    tabling_goes_on c.args.slots.now c.args.rows.now c.loop-at.at c.loop-at.table.items c.put_row.new.table.items (get_or c.args.rows.now c.loop-at.at no_row) _ c.loop-at.invariant c.loop-at-test.true
    (get_or_default c.args.rows.now c.loop-at.at no_row (get_or c.args.rows.now c.loop-at.at no_row) c.loop-at-test.true) (take_rest c.args.rows.now (c.loop-at.at + 1)) c.in_ok-put_row.ensures.rows c.put_row.ensures.fits
