use Rattle.tbd_doc.specs.inner.Places.{tree_at}
use Rattle.tbd_doc.proofs.NameLemmas.{ok_then, counted_gathered}
use Rattle.tbd_doc.proofs.names.with_names_under.Goals as goal

pub returns : goal.returns
returns c = ok_then c.with_all_counted.result _ _ (λ more gathered. counted_gathered (tree_at c.args.events.now) c.args.kind c.in-Some.at c.args.target.now c.args.key.now _ _ _ _ more.items c.in-Some.ensures.value c.in_ok-items.ensures.items c.as_slice.ensures.value gathered) c.with_all_counted.ensures
