use Rattle.islands.proofs.Ways.{ways_more}
use Rattle.islands.proofs.area.ways.Goals as goal

pub loop-row-preserved : goal.loop-row-preserved
loop-row-preserved c = ways_more c.args.far.now c.args.rows.now c.loop-row.row-index _ c.loop-row.ways.items _ c.way_of.result c.loop-row.invariant c.loop-row-test.true c.way_of.ensures c.in_ok-push.ensures.items
