use Rattle.tbd_doc.specs.Forms.{has_nul}
use Rattle.tbd_doc.specs.inner.Places.{tree_at}
use Rattle.tbd_doc.proofs.LoopLemmas.{any_test}
use Rattle.tbd_doc.proofs.texts.hold_nul.Goals as goal

pub returns : goal.returns
returns c = any_test (tree_at c.args.events.now) has_nul c.args.value c.in-Some.at _ _ _ c.in-Some.is c.in_ok-items.ensures.items c.as_slice.ensures.value c.any_nul.ensures
