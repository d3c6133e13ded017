use Rattle.std.proofs.Common.{◌∙◌}
use Rattle.ref_meet.specs.Ready.{scene_of}
use Rattle.ref_meet.specs.Scene.{goal_of}
use Rattle.ref_meet.proofs.MetLemmas.{plain}
use Rattle.ref_meet.proofs.mets.pointer_met.Goals as goal

pub returns-else-row : goal.returns-else-row
returns-else-row c =
    c.chained_met.ensures
    ∙ plain (scene_of c.args.setting.now.scene.now) c.args.setting.now.scene.now.goals.now.pool c.args.row.now c.args.setting.now.words.now c.args.reference.now
    (goal_of (scene_of c.args.setting.now.scene.now) c.args.row.now.item.now.file c.args.reference.now.target) c.requires.row c.if-row.false
