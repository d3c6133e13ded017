use Rattle.std.proofs.Common.{sym, ◌∙◌}
use Rattle.tbd_doc.specs.Forms.{is_scalar}
use Rattle.tbd_doc.specs.inner.Places.{tree_at}
use Rattle.tbd_doc.proofs.LoopLemmas.{all_test}
use Rattle.tbd_doc.proofs.texts.are_texts.Goals as goal

pub returns : goal.returns
returns c = all_test (tree_at c.args.events.now) is_scalar c.args.value c.in-Some.at _ _ _ c.in-Some.is (sym c.is_list.ensures ∙ c.if-not-is_list.false) c.in_ok-items.ensures.items c.as_slice.ensures.value c.all_scalars.ensures
