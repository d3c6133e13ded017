use Rattle.std.proofs.Common.{get_or, arith}
use Rattle.std.proofs.lemmas.List.{get_or_default}
use Rattle.unwind_out.specs.Table.{no_row}
use Rattle.unwind_out.proofs.Loops.{gathering_goes_on, gathering_many}
use Rattle.unwind_out.proofs.table.slots.Goals as goal

pub loop-row-preserved : goal.loop-row-preserved
loop-row-preserved c = record {
  gathers = gathering_goes_on c.args.rows.now c.loop-row.row-index c.loop-row.slots.items c.put_personality.new.slots.items (get_or c.args.rows.now c.loop-row.row-index no_row) c.loop-row.invariant.gathers c.loop-row-test.true
      (get_or_default c.args.rows.now c.loop-row.row-index no_row (get_or c.args.rows.now c.loop-row.row-index no_row) c.loop-row-test.true) c.in_ok-put_personality.ensures;
  few = omega (arith, c.put_personality.new.slots.ok.0);
}

pub returns-then-len-gt-MOST_PERSONALITIES-clause-many : goal.returns-then-len-gt-MOST_PERSONALITIES-clause-many
returns-then-len-gt-MOST_PERSONALITIES-clause-many c = λ _.
    gathering_many c.args.rows.now c.loop-row.row-index c.loop-row.slots.items c.put_personality.new.slots.items (get_or c.args.rows.now c.loop-row.row-index no_row) c.loop-row.invariant.gathers c.loop-row-test.true
    (get_or_default c.args.rows.now c.loop-row.row-index no_row (get_or c.args.rows.now c.loop-row.row-index no_row) c.loop-row-test.true) c.in_ok-put_personality.ensures (omega (arith, c.put_personality.new.slots.ok.0))
