use Rattle.ref_meet.specs.Pointers.{row_fixups}
use Rattle.ref_meet.specs.Ready.{scene_of}
use Rattle.ref_meet.proofs.MoveLemmas.{move_at}
use Rattle.ref_meet.proofs.pointers.add_items.Goals as goal

pub loop-item-preserved : goal.loop-item-preserved
loop-item-preserved c =
    move_at (row_fixups (scene_of c.args.scene.now)) c.args.out.now.items c.loop-item.out.items _ c.args.work.now c.loop-item.item-index _ c.loop-item.invariant c.loop-item-test.true c.in_ok-add_item.ensures
