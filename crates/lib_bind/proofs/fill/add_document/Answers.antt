use Rattle.std.proofs.Common.{sym, ap, ◌∙◌}
use Rattle.tbd_doc.specs.declared.stub.Stub.{Stub}
use Rattle.lib_bind.proofs.ReachedLemmas.{document_names, reading}
use Rattle.lib_bind.proofs.fill.add_document.Goals as goal

pub returns-clause-new : goal.returns-clause-new
returns-clause-new c = λ mark name.
    reading c.args.library name _ _ c.as_slice.result.now c.index-documents-at.result.exports (c.as_slice.ensures ∙ ap (λ (d : Stub). d.exports) (sym c.index-documents-at.is)) (c.in_ok-index.ensures name)
    ∙ document_names c.args.documents.now c.args.library name c.args.at c.index-documents-at.result _ c.requires.within c.index-documents-at.is
