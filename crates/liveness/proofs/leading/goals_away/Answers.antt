use Rattle.std.proofs.Common.{ap, ◌∙◌}
use Rattle.liveness.proofs.AwayLemmas.{ends_more}
use Rattle.liveness.specs.inner.Away.{goal_away}
use Rattle.liveness.proofs.leading.goals_away.Goals as goal

pub loop-at-preserved : goal.loop-at-preserved
loop-at-preserved c = ends_more c.args.roots.now c.args.goals.now c.loop-at.at c.index-goals-at.result c.goal_away.result c.loop-at.ends.items c.in_ok-ends.ends.items c.loop-at.invariant c.loop-at-test.true
    (c.goal_away.ensures ∙ ap (goal_away c.args.roots.now) c.index-goals-at.is) c.in_ok-ends.ensures
