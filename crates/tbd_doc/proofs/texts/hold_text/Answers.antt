use Rattle.std.specs.Str.{bytes_eq}
use Rattle.tbd_doc.specs.inner.Places.{tree_at}
use Rattle.tbd_doc.proofs.LoopLemmas.{any_test}
use Rattle.tbd_doc.proofs.texts.hold_text.Goals as goal

pub returns : goal.returns
returns c = any_test (tree_at c.args.events.now) (bytes_eq c.args.wanted.now) c.args.value c.in-Some.at _ _ _ c.in-Some.is c.in_ok-items.ensures.items c.as_slice.ensures.value c.any_text.ensures
