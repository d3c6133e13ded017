use Rattle.std.specs.List.{filter}
use Rattle.resolve.specs.Table.{goals_of}
use Rattle.mark_core.specs.Kept.{begins_away, leads_away}
use Rattle.liveness.specs.Edges.{edges_at, supports_at}
use Rattle.liveness.proofs.EdgeLemmas.{edges_are, files_more, supports_are}
use Rattle.liveness.proofs.leading.edges.Goals as goal

pub loop-at-preserved : goal.loop-at-preserved
loop-at-preserved c = record {
  edges = files_more (λ p. filter (leads_away c.args.roots.now) (edges_at c.args.symbols.now.literals (goals_of c.args.goals.now) p)) c.as_slice-files.result.now c.loop-at.edges.items c.in_ok-edges.edges.items c.loop-at.at c.index-files-at.result c.loop-at.invariant.edges c.loop-at-test.true c.index-files-at.is c.in_ok-edges.ensures;
  supports = files_more (λ p. filter (begins_away c.args.roots.now) (supports_at c.args.symbols.now.literals (goals_of c.args.goals.now) p)) c.as_slice-files.result.now c.loop-at.supports.items c.in_ok-supports.supports.items c.loop-at.at c.index-files-at.result c.loop-at.invariant.supports c.loop-at-test.true c.index-files-at.is c.in_ok-supports.ensures;
}

pub returns : goal.returns
returns c = record {
  edges = edges_are c.args.roots.now c.args.loaded.now.files c.as_slice-files.result.now (goals_of c.args.goals.now) c.args.symbols.now.literals c.loop-at.edges.items c.from_vec.result c.loop-at.at c.as_slice-files.ensures c.requires c.loop-at.invariant.edges c.loop-at-test.false c.from_vec.ensures;
  supports = supports_are c.args.roots.now c.args.loaded.now.files c.as_slice-files.result.now (goals_of c.args.goals.now) c.args.symbols.now.literals c.loop-at.supports.items c.from_vec-2.result c.loop-at.at c.as_slice-files.ensures c.requires c.loop-at.invariant.supports c.loop-at-test.false c.from_vec-2.ensures;
}
