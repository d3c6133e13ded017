use Rattle.liveness.proofs.GrowLemmas.{IsGrowing}
use Rattle.ref_meet.specs.Mets.{met_of}
use Rattle.ref_meet.specs.Ready.{scene_of}
use Rattle.ref_meet.specs.inner.Listed.{found_at}
use Rattle.ref_meet.proofs.mets.add_each.Given as goal

abbrev pub invariant-loop-index : goal.invariant-loop-index
invariant-loop-index l = IsGrowing (found_at (met_of (scene_of l.setting.scene.now) l.setting.words.now l.row.item.now) l.row.refs.now) l.fn.mets.items l.mets.items l.indices l.index-index
