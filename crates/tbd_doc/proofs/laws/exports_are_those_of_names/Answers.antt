use Rattle.tbd_doc.proofs.OrderLemmas.{exports_are}
use Rattle.tbd_doc.proofs.laws.exports_are_those_of_names.Goals as goal

pub returns : goal.returns
returns c = exports_are
