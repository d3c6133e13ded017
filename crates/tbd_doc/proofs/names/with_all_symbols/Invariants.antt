use Rattle.std.specs.Prelude.{filter}
use Rattle.tbd_doc.specs.Exports.{is_symbol}
use Rattle.tbd_doc.specs.inner.Places.{tree_at}
use Rattle.tbd_doc.specs.inner.Texts.{text_list}
use Rattle.tbd_doc.proofs.NameLemmas.{IsGathering}
use Rattle.tbd_doc.proofs.names.with_all_symbols.Given as goal

abbrev pub invariant-loop-place : goal.invariant-loop-place
invariant-loop-place l = IsGathering (λ place. filter is_symbol (text_list (tree_at l.events place))) l.fn.names.items l.places l.place-index l.names.items
