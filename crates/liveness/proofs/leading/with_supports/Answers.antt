use Rattle.std.specs.List.{filter}
use Rattle.resolve.specs.Table.{goals_in}
use Rattle.mark_core.specs.Kept.{begins_away}
use Rattle.liveness.specs.Edges.{ref_supports}
use Rattle.liveness.proofs.GrowLemmas.{grow_at}
use Rattle.liveness.proofs.leading.with_supports.Goals as goal

pub loop-at-preserved : goal.loop-at-preserved
loop-at-preserved c =
    grow_at (λ ref. filter (begins_away c.args.roots.now) (ref_supports c.args.symbols.now.literals (goals_in c.args.goals.now.pool c.args.goals.now.places) c.args.object.now ref)) c.args.before.items c.loop-at.edges.items c.in_ok-edges.edges.items c.args.refs.now c.loop-at.at c.loop-at.invariant
    c.in_ok-edges.ensures
