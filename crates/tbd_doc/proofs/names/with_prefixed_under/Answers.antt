use Rattle.tbd_doc.specs.inner.Places.{tree_at}
use Rattle.tbd_doc.proofs.NameLemmas.{ok_then, prefixed_gathered}
use Rattle.tbd_doc.proofs.names.with_prefixed_under.Goals as goal

pub returns : goal.returns
returns c = ok_then c.with_all_prefixed.result _ _ (λ more gathered. prefixed_gathered (tree_at c.args.events.now) c.in-Some.at c.args.prefix.now c.args.key.now _ _ _ _ more.items c.in-Some.ensures.value c.in_ok-items.ensures.items c.as_slice.ensures.value gathered) c.with_all_prefixed.ensures
