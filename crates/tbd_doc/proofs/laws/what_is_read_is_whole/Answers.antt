use Rattle.tbd_doc.proofs.StubLemmas.{read_whole}
use Rattle.tbd_doc.proofs.laws.what_is_read_is_whole.Goals as goal

pub returns : goal.returns
returns c = read_whole
