use Rattle.std.proofs.Common.{Vec, Global}
use Rattle.mo_types.specs.declared.edge.Edge.{Edge}
use Rattle.liveness.proofs.AwayLemmas.{edges_here}
use Rattle.liveness.proofs.leading.with_file_edges.Goals as goal

pub returns : goal.returns
returns c =
    edges_here (λ (v : Vec Edge Global). v.items) c.with_file_away.result c.args.symbols.now.literals c.args.roots.now c.args.goals.now.pool c.args.goals.now.places c.places.result.now c.args.ends.now c.new-ends.result c.args.file.now c.args.before.items
    c.requires c.places.ensures.within c.places.ensures.all c.new-ends.ensures c.with_file_away.ensures
