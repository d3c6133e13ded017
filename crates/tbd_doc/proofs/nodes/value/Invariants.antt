use Rattle.tbd_doc.proofs.SearchLemmas.{IsLooking}
use Rattle.tbd_doc.proofs.nodes.value.Given as goal

abbrev pub invariant-loop-place : goal.invariant-loop-place
invariant-loop-place l = IsLooking l.events l.key l.fields l.place-index
