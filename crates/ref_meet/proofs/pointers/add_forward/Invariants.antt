use Rattle.liveness.proofs.GrowLemmas.{IsGrowing}
use Rattle.ref_meet.specs.Pointers.{fixup_of}
use Rattle.ref_meet.specs.Ready.{scene_of}
use Rattle.ref_meet.specs.inner.Listed.{found_at}
use Rattle.ref_meet.proofs.pointers.add_forward.Given as goal

abbrev pub invariant-loop-index : goal.invariant-loop-index
invariant-loop-index l = IsGrowing (found_at (fixup_of (scene_of l.scene) l.row.item.now) l.row.refs.now) l.fn.out.items l.out.items l.indices l.index-index
