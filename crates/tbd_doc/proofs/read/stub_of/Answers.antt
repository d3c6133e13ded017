use Rattle.std.proofs.Common.{ap, ◌∙◌}
use Rattle.tbd_doc.specs.Stubs.{text_or_empty, version_or_one}
use Rattle.tbd_doc.proofs.StubLemmas.{stub_made}
use Rattle.tbd_doc.proofs.read.stub_of.Goals as goal

pub returns : goal.returns
returns c = stub_made _ _ _ _ _ _ _ (c.in_ok-text_or_empty.ensures ∙ ap text_or_empty c.text_under.ensures)
    (c.version_or_one.ensures ∙ ap version_or_one c.text_under-2.ensures)
    (c.version_or_one-2.ensures ∙ ap version_or_one c.text_under-3.ensures)
    c.in_ok-libraries_of.ensures c.in_ok-exports_for.ensures
