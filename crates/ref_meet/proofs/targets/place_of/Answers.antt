use Rattle.std.proofs.Common.{ap, sym, ◌∙◌, ℕ}
use Rattle.std.specs.Prelude.{Option}
use Rattle.std.specs.Option.{option_map_or}
use Rattle.mo_types.specs.declared.goal.Goal.TheVariants.{Nobody}
use Rattle.resolve.specs.Table.{Pooled, goal_in}
use Rattle.ref_meet.specs.Ready.{scene_of}
use Rattle.ref_meet.proofs.RowLemmas.{place_among, place_goal}
use Rattle.ref_meet.proofs.targets.place_of.Goals as goal

pub returns-in-Some-clause-goal : goal.returns-in-Some-clause-goal
returns-in-Some-clause-goal c =
    place_goal (scene_of c.args.scene.now) c.args.scene.now.goals.now.pool c.args.row.now.item.now.file c.args.row.now.goals c.args.index c.requires.pooled c.requires.goals
    ∙ ap (λ (place : Option ℕ). option_map_or (goal_in c.args.scene.now.goals.now.pool) place Nobody)
    (ap (λ (goals : Option Pooled). place_among goals c.args.index) c.in-Some.is ∙ sym c.place.ensures.exact)

pub returns-in-None-clause-goal : goal.returns-in-None-clause-goal
returns-in-None-clause-goal c =
    place_goal (scene_of c.args.scene.now) c.args.scene.now.goals.now.pool c.args.row.now.item.now.file c.args.row.now.goals c.args.index c.requires.pooled c.requires.goals
    ∙ ap (λ (goals : Option Pooled). option_map_or (goal_in c.args.scene.now.goals.now.pool) (place_among goals c.args.index) Nobody) c.in-None.is
