use Rattle.std.proofs.Common.{refl}
use Rattle.mark_race.proofs.Working.{row_end, row_more}
use Rattle.mark_race.proofs.level.mark_row.Goals as goal

pub loop-atom-preserved : goal.loop-atom-preserved
loop-atom-preserved c = row_more c.args.row.now c.loop-atom.atom-index _ c.args.worker.now c.loop-atom.worker c.mark_one.new.worker c.loop-atom.invariant c.loop-atom-test.true refl c.mark_one.ensures

pub returns : goal.returns
returns c = row_end c.args.row.now c.loop-atom.atom-index c.args.worker.now c.loop-atom.worker c.loop-atom.invariant c.loop-atom-test.false
