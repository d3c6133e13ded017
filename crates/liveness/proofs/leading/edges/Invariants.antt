use Rattle.std.proofs.Common.{[]}
use Rattle.std.specs.List.{enumerate_from, filter}
use Rattle.resolve.specs.Table.{goals_of}
use Rattle.mark_core.specs.Kept.{begins_away, leads_away}
use Rattle.liveness.proofs.GrowLemmas.{IsGrowing}
use Rattle.liveness.specs.Edges.{edges_at, supports_at}
use Rattle.liveness.proofs.leading.edges.Given as goal

abbrev pub invariant-loop-at : goal.invariant-loop-at
invariant-loop-at l = record {
  edges : IsGrowing (λ p. filter (leads_away l.roots) (edges_at l.symbols.literals (goals_of l.goals) p)) [] l.edges.items (enumerate_from 0 l.files) l.at;
  supports : IsGrowing (λ p. filter (begins_away l.roots) (supports_at l.symbols.literals (goals_of l.goals) p)) [] l.supports.items (enumerate_from 0 l.files) l.at;
}
