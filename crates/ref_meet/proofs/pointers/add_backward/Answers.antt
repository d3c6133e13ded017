use Rattle.std.proofs.Common.{◌≡◌, ◌+◌, ◌-◌, ◌<◌, length, arith}
use Rattle.ref_meet.specs.Pointers.{fixup_of}
use Rattle.ref_meet.specs.Ready.{scene_of}
use Rattle.ref_meet.specs.inner.Listed.{found_at}
use Rattle.ref_meet.proofs.MoveLemmas.{back_at}
use Rattle.ref_meet.proofs.pointers.add_backward.Goals as goal

pub loop-left-preserved : goal.loop-left-preserved
loop-left-preserved c =
    let one : c.loop-left.left ≡ (c.loop-left.left - 1) + 1 = omega arith in
    let low : c.loop-left.left - 1 < length c.args.indices.now = omega arith in
    record {
      within = omega arith;
      backing = back_at (found_at (fixup_of (scene_of c.args.scene.now) c.args.row.now.item.now) c.args.row.now.refs.now) c.args.out.now.items c.loop-left.out.items c.add_pointer.new.out.items c.args.indices.now
          c.loop-left.left (c.loop-left.left - 1) _ c.loop-left.invariant.backing one low c.in_ok-add_pointer.ensures;
    }
