use Rattle.tbd_doc.specs.Forms.{has_nul}
use Rattle.tbd_doc.specs.inner.Texts.{text_passes}
use Rattle.tbd_doc.specs.inner.Places.{tree_at}
use Rattle.tbd_doc.proofs.LoopLemmas.{IsMissing}
use Rattle.tbd_doc.proofs.texts.any_nul.Given as goal

abbrev pub invariant-loop-place : goal.invariant-loop-place
invariant-loop-place l = IsMissing (λ place. text_passes has_nul (tree_at l.events place)) l.places l.place-index
