use Rattle.std.proofs.Common.{List, sym, ◌∙◌, ap}
use Rattle.mo_types.specs.declared.goal.Goal.{Goal}
use Rattle.resolve.specs.Table.{file_goals, goal_in}
use Rattle.slot_needs.proofs.WalkLemmas.{adds_never}
use Rattle.slot_needs.proofs.walk.is_settled.Goals as goal

pub returns-then-needs_nothing : goal.returns-then-needs_nothing
returns-then-needs_nothing c _ literals keys =
    adds_never literals keys (file_goals c.args.goals.now) c.args.reference.now c.args.now.now.needs (c.needs_nothing.ensures c.if-needs_nothing.true)

pub returns-in-Some : goal.returns-in-Some
returns-in-Some c is literals keys =
    c.is_noted.ensures is literals keys (file_goals c.args.goals.now)
    (c.in-Some.ensures.goal literals ∙ ap (λ (pool : List Goal). goal_in pool c.in-Some.place) (sym c.requires.pool))
