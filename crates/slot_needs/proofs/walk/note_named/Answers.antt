use Rattle.std.proofs.Common.{sym, ◌∙◌, ap}
use Rattle.std.proofs.lemmas.Result.{IfOk-weaker}
use Rattle.resolve.specs.Table.{goal_in}
use Rattle.slot_needs.specs.Needs.{way_of}
use Rattle.slot_needs.specs.inner.Gathered.{Adds, Gathered, kept_need, need}
use Rattle.slot_needs.proofs.WalkLemmas.{adds_nothing, adds_some, goal_there}
use Rattle.slot_needs.proofs.walk.note_named.Goals as goal

pub returns-in-Some-clause-needs : goal.returns-in-Some-clause-needs
returns-in-Some-clause-needs c =
    IfOk-weaker c.note_place.result (λ (after : Gathered). Adds c.args.before.needs (kept_need c.args.keys.now c.args.reference.now (need (goal_in c.args.before.pool c.args.place) c.in-Some.way)) after.needs) _
    (λ after adds literals goals is. adds_some literals c.args.keys.now goals c.args.reference.now (goal_in c.args.before.pool c.args.place) c.in-Some.way c.args.before.needs after.needs (sym is)
    (ap (way_of c.args.reference.now.kind c.args.reference.now.addend) (goal_there c.args.before.pool c.pool.result.now c.args.place c.index-pool-place.result c.pool.ensures c.requires.place c.index-pool-place.is) ∙ sym c.way_of.ensures ∙ c.in-Some.is) adds)
    c.note_place.ensures.needs

pub returns-in-None-clause-needs : goal.returns-in-None-clause-needs
returns-in-None-clause-needs c literals goals is =
    adds_nothing literals c.args.keys.now goals c.args.reference.now (goal_in c.args.before.pool c.args.place) c.args.before.needs (sym is)
    (ap (way_of c.args.reference.now.kind c.args.reference.now.addend) (goal_there c.args.before.pool c.pool.result.now c.args.place c.index-pool-place.result c.pool.ensures c.requires.place c.index-pool-place.is) ∙ sym c.way_of.ensures ∙ c.in-None.is)
