use Rattle.std.proofs.Common.{length, ◌≤◌}
use Rattle.ref_meet.specs.Pointers.{fixup_of}
use Rattle.ref_meet.specs.Ready.{scene_of}
use Rattle.ref_meet.specs.inner.Listed.{found_at}
use Rattle.ref_meet.proofs.MoveLemmas.{IsBacking}
use Rattle.ref_meet.proofs.pointers.add_backward.Given as goal

abbrev pub invariant-loop-left : goal.invariant-loop-left
invariant-loop-left l = record {
  within : l.left ≤ length l.indices;
  backing : IsBacking (found_at (fixup_of (scene_of l.scene) l.row.item.now) l.row.refs.now) l.fn.out.items l.out.items l.indices l.left;
}

abbrev pub decreases-loop-left : goal.decreases-loop-left
decreases-loop-left l = l.left
