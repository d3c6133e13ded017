use Rattle.std.proofs.Common.{rules, ap, sym, ◌∙◌}
use Rattle.std.specs.Option.{option_copied}
use Rattle.liveness.proofs.NobodyLemmas.{clear_end, clear_more, clear_past, one_nowhere}
use Rattle.liveness.proofs.lost.leads_nowhere.Goals as goal
use Rattle.liveness.proofs.lost.leads_nowhere.Goals.{in-Some+else-is_nobody, in-None}

pub returns-then-is_nobody : goal.returns-then-is_nobody
returns-then-is_nobody c =
    one_nowhere c.args.goals.now.pool c.args.goals.now.places c.loop-index.index c.in-Some.goal.now (sym (ap option_copied c.in-Some.is) ∙ c.get.ensures) (search rules)

pub loop-index-preserved : goal.loop-index-preserved
loop-index-preserved c =
    elim c.match-get.branch [
      | in-Some+else-is_nobody w ↦
          clear_more c.args.goals.now.pool c.args.goals.now.places c.loop-index.index w.in-Some.goal.now c.loop-index.invariant (sym (ap option_copied w.in-Some.is) ∙ c.get.ensures) (search rules)
      | in-None w ↦ clear_past c.args.goals.now.pool c.args.goals.now.places c.loop-index.index c.loop-index.invariant (sym (ap option_copied w.in-None.is) ∙ c.get.ensures)
    ]

pub returns : goal.returns
returns c = clear_end c.args.goals.now.pool c.args.goals.now.places c.loop-index.index c.loop-index.invariant (search rules)
