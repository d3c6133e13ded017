use Rattle.std.proofs.Common.{◌<◌, ◌^◌, ◌∙◌, arith}
use Rattle.ref_meet.specs.Ready.{scene_of}
use Rattle.ref_meet.specs.Scene.{goal_of}
use Rattle.ref_meet.specs.inner.Rows.{goals_there}
use Rattle.ref_meet.proofs.ToldLemmas.{exact_by, target_near}
use Rattle.ref_meet.proofs.mets.address_by.Goals as goal

pub returns : goal.returns
returns c =
    let small : c.args.setting.now.scene.now.base < 2 ^ 64 = omega arith in
    c.told_by.ensures
    ∙ exact_by (scene_of c.args.setting.now.scene.now) c.args.way (goal_of (scene_of c.args.setting.now.scene.now) c.args.row.now.item.now.file c.args.target.now) small c.requires.ready.sound
    (target_near (scene_of c.args.setting.now.scene.now) c.args.row.now.item.now.file (goals_there c.args.row.now) c.args.target.now c.requires.row.goals c.requires.row.near_goals c.requires.near)
