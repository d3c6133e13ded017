use Rattle.std.proofs.Common.{◌≡◌, sym, subst}
use Rattle.std.specs.Prelude.{IfSome}
use Rattle.mo_types.specs.declared.reference.Target.{Target}
use Rattle.resolve.specs.Goals.{target_goal}
use Rattle.resolve.specs.Table.{file_goals, goal_in}
use Rattle.slot_needs.proofs.WalkLemmas.{place_is}
use Rattle.slot_needs.proofs.walk.place_of.Goals as goal

pub returns-in-Name-clause-goal : goal.returns-in-Name-clause-goal
returns-in-Name-clause-goal c literals =
    subst (λ (t : Target). IfSome c.place.result (λ place. target_goal literals (file_goals c.args.goals.now) t ≡ goal_in c.args.goals.now.pool place)) (sym c.in-Name.is)
    (place_is literals c.args.goals.now.pool c.args.goals.now.places c.in-Name.index c.place.result c.place.ensures.exact)
