use Rattle.std.proofs.Common.{sym, ◌∙◌}
use Rattle.std.proofs.lemmas.Result.{IfOk-weaker}
use Rattle.resolve.specs.Table.{file_goals}
use Rattle.slot_needs.specs.inner.Gathered.{Adds, Gathered, kept_need, need}
use Rattle.slot_needs.proofs.WalkLemmas.{adds_nothing, adds_some}
use Rattle.slot_needs.proofs.walk.note_other.Goals as goal

pub returns-in-Some-clause-needs : goal.returns-in-Some-clause-needs
returns-in-Some-clause-needs c =
    IfOk-weaker c.note_goal.result (λ (after : Gathered). Adds c.args.before.needs (kept_need c.args.keys.now c.args.reference.now (need c.in_ok-goal.goal c.in-Some.way)) after.needs) _
    (λ after adds. adds_some c.args.symbols.now.literals c.args.keys.now (file_goals c.args.goals.now) c.args.reference.now c.in_ok-goal.goal c.in-Some.way c.args.before.needs after.needs c.in_ok-goal.ensures.table (sym c.way_of.ensures ∙ c.in-Some.is) adds)
    c.note_goal.ensures.needs

pub returns-clause-needs : goal.returns-clause-needs
returns-clause-needs c =
    adds_nothing c.args.symbols.now.literals c.args.keys.now (file_goals c.args.goals.now) c.args.reference.now c.in_ok-goal.goal c.args.before.needs c.in_ok-goal.ensures.table (sym c.way_of.ensures ∙ c.in-None.is)
