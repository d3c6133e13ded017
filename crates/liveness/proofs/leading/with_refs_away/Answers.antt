use Rattle.std.proofs.Common.{◌++◌, List, ap, sym, ◌∙◌}
use Rattle.std.proofs.lemmas.List.{append-nil}
use Rattle.mo_types.specs.declared.edge.Edge.{Edge}
use Rattle.liveness.proofs.AwayLemmas.{no_refs_away}
use Rattle.liveness.proofs.leading.with_refs_away.Goals as goal

pub returns-then-not-has_local : goal.returns-then-not-has_local
returns-then-not-has_local c =
    sym (append-nil c.args.before.items)
    ∙ ap (λ (es : List Edge). c.args.before.items ++ es) (sym (no_refs_away c.args.symbols.now.literals c.args.roots.now c.args.ends.now c.args.refs.now (c.are_none.ensures c.if-are_none.true) (sym c.has_local.ensures ∙ c.if-not-has_local.true)))
