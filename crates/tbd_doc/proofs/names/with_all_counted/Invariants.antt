use Rattle.tbd_doc.specs.Nodes.{fields_of}
use Rattle.tbd_doc.specs.inner.Places.{tree_at}
use Rattle.tbd_doc.specs.inner.Texts.{counted_names}
use Rattle.tbd_doc.proofs.NameLemmas.{IsGathering}
use Rattle.tbd_doc.proofs.names.with_all_counted.Given as goal

abbrev pub invariant-loop-place : goal.invariant-loop-place
invariant-loop-place l = IsGathering (λ place. counted_names l.kind l.target (fields_of (tree_at l.events place))) l.fn.names.items l.places l.place-index l.names.items
