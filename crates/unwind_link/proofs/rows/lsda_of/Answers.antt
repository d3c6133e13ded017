use Rattle.ref_meet.specs.Ready.{scene_of}
use Rattle.unwind_link.proofs.RowLemmas.{lsda_low}
use Rattle.unwind_link.proofs.rows.lsda_of.Goals as goal

pub place_offset-requires-clause-low : goal.place_offset-requires-clause-low
place_offset-requires-clause-low c = lsda_low (scene_of c.args.scene.now) c.args.kept.now c.in-Some.lsda c.requires.fields c.in-Some.is
