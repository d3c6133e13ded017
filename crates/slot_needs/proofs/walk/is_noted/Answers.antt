use Rattle.std.proofs.Common.{sym, ◌∙◌, ap}
use Rattle.resolve.specs.Table.{goal_in}
use Rattle.slot_needs.specs.Needs.{way_of}
use Rattle.slot_needs.specs.inner.Gathered.{need}
use Rattle.slot_needs.proofs.WalkLemmas.{adds_nothing, adds_some, goal_there, of_known, there}
use Rattle.slot_needs.proofs.walk.is_noted.Goals as goal

pub returns-in-Some : goal.returns-in-Some
returns-in-Some c is literals keys goals leads =
    adds_some literals keys goals c.args.reference.now (goal_in c.args.now.now.pool c.args.place) c.in-Some.way c.args.now.now.needs c.args.now.now.needs (sym leads)
    (ap (way_of c.args.reference.now.kind c.args.reference.now.addend) (goal_there c.args.now.now.pool c.pool.result.now c.args.place c.index-pool-place.result c.pool.ensures c.requires.place c.index-pool-place.is) ∙ sym c.way_of.ensures ∙ c.in-Some.is)
    (of_known keys c.args.reference.now (need (goal_in c.args.now.now.pool c.args.place) c.in-Some.way) c.args.now.now.needs
    (c.has.ensures is (goal_in c.args.now.now.pool c.args.place) (there c.args.now.now.pool c.args.place c.requires.place)))

pub returns-in-None : goal.returns-in-None
returns-in-None c _ literals keys goals leads =
    adds_nothing literals keys goals c.args.reference.now (goal_in c.args.now.now.pool c.args.place) c.args.now.now.needs (sym leads)
    (ap (way_of c.args.reference.now.kind c.args.reference.now.addend) (goal_there c.args.now.now.pool c.pool.result.now c.args.place c.index-pool-place.result c.pool.ensures c.requires.place c.index-pool-place.is) ∙ sym c.way_of.ensures ∙ c.in-None.is)
