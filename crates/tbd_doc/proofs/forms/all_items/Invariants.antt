use Rattle.tbd_doc.specs.Forms.{is_item}
use Rattle.tbd_doc.specs.inner.Places.{tree_at}
use Rattle.tbd_doc.proofs.LoopLemmas.{IsPassing}
use Rattle.tbd_doc.proofs.forms.all_items.Given as goal

abbrev pub invariant-loop-place : goal.invariant-loop-place
invariant-loop-place l = IsPassing (λ place. is_item l.kind (tree_at l.events place)) l.places l.place-index
