use Rattle.mark_core.proofs.KeptLemmas.{kept_of_read}
use Rattle.mark_core.proofs.marking.kept_from.Goals as goal

pub returns : goal.returns
returns c =
    kept_of_read c.args.edges c.args.supports.now c.into_vec.result.items c.as_slice.result.now c.in_ok-arrows.arrows.items c.as_slice-2.result.now c.as_slice-3.result.now c.args.roots c.in_ok-ends.ends.items c.as_slice-4.result.now c.in_ok-atoms.atoms.keys c.in_ok-joined.field-0.items c.from_vec.result
    c.into_vec.ensures c.as_slice.ensures c.as_slice-2.ensures.value c.as_slice-3.ensures.value c.as_slice-4.ensures.value c.in_ok-arrows.ensures.these c.in_ok-ends.ensures c.in_ok-atoms.ensures c.in_ok-joined.ensures.same c.in_ok-joined.ensures.rising
    c.from_vec.ensures
