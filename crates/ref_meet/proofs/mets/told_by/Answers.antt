use Rattle.std.proofs.Common.{ℕ, ap, sym, ◌∙◌}
use Rattle.std.specs.Prelude.{Option}
use Rattle.std.specs.Option.{option_map_or}
use Rattle.mo_types.specs.declared.goal.Goal.TheVariants.{Nobody}
use Rattle.resolve.specs.Table.{goal_in}
use Rattle.ref_meet.specs.Ready.{scene_of}
use Rattle.ref_meet.specs.Scene.{goal_of}
use Rattle.ref_meet.specs.inner.Told.{told_by}
use Rattle.ref_meet.proofs.mets.told_by.Goals as goal

pub returns-in-Some : goal.returns-in-Some
returns-in-Some c =
    c.told_in.ensures
    ∙ ap (told_by (scene_of c.args.setting.now.scene.now) c.args.way)
    (sym (ap (goal_of (scene_of c.args.setting.now.scene.now) c.args.row.now.item.now.file) c.in-Name.is ∙ c.place_of.ensures.goal
    ∙ ap (λ (place : Option ℕ). option_map_or (goal_in c.args.setting.now.scene.now.goals.now.pool) place Nobody) c.in-Some.is))

pub returns-in-Local : goal.returns-in-Local
unfolding goal_of
returns-in-Local c =
    c.told_at-in-Local.ensures
    ∙ ap (told_by (scene_of c.args.setting.now.scene.now) c.args.way)
    (c.local_goal.ensures ∙ sym (ap (goal_of (scene_of c.args.setting.now.scene.now) c.args.row.now.item.now.file) c.in-Local.is))
