use Rattle.std.proofs.Common.{◌∙◌}
use Rattle.mark_core.proofs.KeptLemmas.{kept_by_set}
use Rattle.mark_core.proofs.marking.kept.Goals as goal

pub returns : goal.returns
returns c =
    kept_by_set c.kept_from.result c.args.edges.now c.args.supports.now c.from_vec-2.result c.in_ok-roots.roots c.in_ok-keys.keys.items c.args.roots.now
    (c.from_vec-2.ensures ∙ c.in_ok-copy.ensures.items ∙ c.as_slice-2.ensures) c.in_ok-roots.ensures (c.in_ok-keys.ensures.items ∙ c.as_slice.ensures) c.kept_from.ensures
