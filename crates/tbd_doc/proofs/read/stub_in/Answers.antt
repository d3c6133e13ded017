use Rattle.std.proofs.Common.{sym, ◌∙◌}
use Rattle.tbd_doc.proofs.StubLemmas.{stub_held}
use Rattle.tbd_doc.proofs.read.stub_in.Goals as goal

pub returns : goal.returns
returns c = stub_held _ _ _ _ _ (sym c.is_tbd4.ensures ∙ c.if-not-is_tbd4.false) c.in_ok-target.ensures c.stub_for.ensures
