use Rattle.std.proofs.Common.{◌∙◌}
use Rattle.liveness.specs.Edges.{edges_by, supports_by}
use Rattle.liveness.specs.Roots.{roots}
use Rattle.link_files.specs.Resolved.{files_of, table_of}
use Rattle.link_files.proofs.KeepingLemmas.{kept_by_all}
use Rattle.link_files.proofs.keeping.kept_keys.Goals as goal

pub returns : goal.returns
returns g c =
    let r = c.args.resolved.now in
    kept_by_all c.kept_by.result (edges_by (files_of r) (table_of r)) (supports_by (files_of r) (table_of r)) c.in_ok-edges.edges c.in_ok-edges.supports c.in_ok-roots-2.roots c.into_vec.result.items (roots r.command.now r.symbols.now (files_of r))
    c.in_ok-edges.ensures.edges c.in_ok-edges.ensures.supports c.in_ok-roots-2.ensures (c.into_vec.ensures ∙ c.in_ok-roots.ensures) c.kept_by.ensures
