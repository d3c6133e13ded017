use Rattle.std.proofs.Common.{sym, ◌∙◌}
use Rattle.tbd_doc.specs.Forms.{is_item}
use Rattle.tbd_doc.specs.inner.Places.{tree_at}
use Rattle.tbd_doc.proofs.LoopLemmas.{all_test}
use Rattle.tbd_doc.proofs.NameLemmas.{ok_then}
use Rattle.tbd_doc.proofs.forms.are_items.Goals as goal

pub returns : goal.returns
returns c = ok_then c.all_items.result _ _ (λ result all. all_test (tree_at c.args.events.now) (is_item c.args.kind) c.args.value c.in-Some.at _ _ result c.in-Some.is (sym c.is_list.ensures ∙ c.if-not-is_list.false) c.in_ok-items.ensures.items c.as_slice.ensures.value all) c.all_items.ensures
