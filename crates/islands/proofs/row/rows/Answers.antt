use Rattle.std.proofs.Common.{length, map, ◌∙◌}
use Rattle.islands.specs.inner.Held.{target_of}
use Rattle.islands.proofs.Known.{near_more, own_stand, row_known, row_near, rows_more}
use Rattle.islands.proofs.row.rows.Goals as goal

pub loop-at-preserved : goal.loop-at-preserved
loop-at-preserved c = record {
  exact = rows_more c.args.layout.now c.args.lasts.now (map target_of c.args.known.now.aims.now) c.args.branches.now c.loop-at.at c.index-branches-at.result c.loop-at.rows.items c.push.new.self.items c.row_of.result c.loop-at.invariant.exact c.loop-at-test.true c.index-branches-at.is
      (c.row_of.ensures.exact ∙ row_known c.args.layout.now c.args.lasts.now (map target_of c.args.known.now.aims.now) c.index-branches-at.result c.stand_of-stand.result c.in_ok-goes.goes c.stand_of-stand.ensures c.in_ok-goes.ensures.number c.in_ok-goes.ensures.spot) c.in_ok-push.ensures.items;
  near = near_more (length c.args.lasts.now) c.loop-at.rows.items c.push.new.self.items c.row_of.result c.loop-at.invariant.near
      (row_near (length c.args.lasts.now) c.stand_of-stand.result c.in_ok-goes.goes c.index-branches-at.result c.row_of.result c.row_of.ensures.exact c.stand_of-stand.ensures.low c.in_ok-goes.ensures.near c.row_of.ensures.from c.row_of.ensures.to) c.in_ok-push.ensures.items;
  stand = own_stand c.args.layout.now c.args.lasts.now c.index-branches-at.result.atom c.stand_of-stand.result c.stand_of-stand.ensures;
}
