use Rattle.std.specs.List.{filter}
use Rattle.resolve.specs.Table.{goals_in}
use Rattle.mark_core.specs.Kept.{begins_away}
use Rattle.liveness.specs.Edges.{ref_supports}
use Rattle.liveness.proofs.GrowLemmas.{IsGrowing}
use Rattle.liveness.proofs.leading.with_supports.Given as goal

abbrev pub invariant-loop-at : goal.invariant-loop-at
invariant-loop-at l = IsGrowing (λ ref. filter (begins_away l.roots) (ref_supports l.symbols.literals (goals_in l.goals.pool l.goals.places) l.object ref)) l.fn.before.items l.edges.items l.refs l.at
