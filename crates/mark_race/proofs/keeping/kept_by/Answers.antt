use Rattle.std.proofs.Common.{◌++◌, map}
use Rattle.mark_core.specs.inner.Arrows.{reversed}
use Rattle.mark_race.proofs.KeepLemmas.{kept_of_read, table_fits}
use Rattle.mark_race.proofs.keeping.kept_by.Goals as goal

pub returns : goal.returns
returns g c =
    kept_of_read c.args.edges c.as_slice.result.now c.args.supports.now c.as_slice-2.result.now c.args.roots c.in_ok-numbered.numbered.atoms.keys c.in_ok-numbered.numbered.arrows.items c.as_slice-3.result.now c.len-2.result c.in_ok-ends.ends
    c.in_ok-start.start.items c.as_slice-4.result.now c.in_ok-marked.marked.items c.as_slice-5.result.now c.in_ok-more.more.items c.in_ok-joined.field-0.items c.from_vec.result
    c.as_slice.ensures c.as_slice-2.ensures c.as_slice-3.ensures.value c.len-2.ensures.len c.as_slice-4.ensures.value c.as_slice-5.ensures.value
    c.in_ok-numbered.ensures.arrows c.in_ok-numbered.ensures.once c.in_ok-ends.ensures c.in_ok-start.ensures c.in_ok-marked.ensures c.in_ok-more.ensures c.in_ok-joined.ensures.same c.in_ok-joined.ensures.rising c.from_vec.ensures

pub mark_all-requires-clause-ends : goal.mark_all-requires-clause-ends
mark_all-requires-clause-ends g c κs within =
    table_fits (c.as_slice.result.now ++ map reversed c.as_slice-2.result.now) c.args.roots c.in_ok-numbered.numbered.atoms.keys c.in_ok-numbered.numbered.arrows.items c.as_slice-3.result.now c.len-2.result c.in_ok-ends.ends c.in_ok-start.start.items c.as_slice-4.result.now
    c.in_ok-numbered.ensures.arrows c.as_slice-3.ensures.value c.in_ok-ends.ensures c.len-2.ensures.len c.in_ok-start.ensures c.as_slice-4.ensures.value
