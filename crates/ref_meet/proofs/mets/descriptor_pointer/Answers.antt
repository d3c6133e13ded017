use Rattle.std.proofs.Common.{ap, sym, subst, ◌∙◌}
use Rattle.std.specs.Prelude.{Option, unwrap_or}
use Rattle.std.specs.Borrow.{Bor}
use Rattle.std.specs.Option.{option_copied}
use Rattle.mo_types.specs.declared.goal.Goal.{Goal}
use Rattle.mo_types.specs.declared.goal.Goal.TheVariants.{Nobody}
use Rattle.ref_meet.specs.Mets.{pointer_met}
use Rattle.ref_meet.specs.Near.{IsNear}
use Rattle.ref_meet.specs.Ready.{scene_of}
use Rattle.ref_meet.specs.Scene.{goal_of}
use Rattle.ref_meet.specs.inner.Rows.{goals_there}
use Rattle.ref_meet.proofs.ToldLemmas.{target_near}
use Rattle.ref_meet.proofs.mets.descriptor_pointer.Goals as goal

pub descriptor_met-requires-clause-near : goal.descriptor_met-requires-clause-near
descriptor_met-requires-clause-near c =
    subst IsNear
    (ap (goal_of (scene_of c.args.setting.now.scene.now) c.args.row.now.item.now.file) c.in-Name.is ∙ c.named_goal.ensures
    ∙ ap (λ (o : Option (Bor Goal)). unwrap_or (option_copied o) Nobody) c.in-Some.is)
    (target_near (scene_of c.args.setting.now.scene.now) c.args.row.now.item.now.file (goals_there c.args.row.now) c.args.reference.now.target c.requires.row.goals c.requires.row.near_goals c.requires.near.target)

pub returns-in-Local : goal.returns-in-Local
unfolding goal_of
returns-in-Local c =
    c.descriptor_met-in-Local.ensures
    ∙ ap (λ (g : Goal). pointer_met (scene_of c.args.setting.now.scene.now) c.args.setting.now.words.now c.args.row.now.item.now c.args.reference.now g)
    (c.local_goal-goal.ensures ∙ sym (ap (goal_of (scene_of c.args.setting.now.scene.now) c.args.row.now.item.now.file) c.in-Local.is))
