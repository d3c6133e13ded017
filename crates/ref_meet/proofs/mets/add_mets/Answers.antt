use Rattle.ref_meet.specs.Mets.{met_of, mets_of}
use Rattle.ref_meet.specs.Ready.{scene_of}
use Rattle.ref_meet.proofs.RowLemmas.{row_found}
use Rattle.ref_meet.proofs.mets.add_mets.Goals as goal

pub returns : goal.returns
unfolding mets_of
returns c =
    rw (row_found (met_of (scene_of c.args.setting.now.scene.now) c.args.setting.now.words.now c.args.row.now.item.now) (scene_of c.args.setting.now.scene.now) c.args.setting.now.scene.now.goals.now.pool c.args.row.now c.requires.row)
    c.add_each.ensures
