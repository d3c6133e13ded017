use Rattle.tbd_doc.proofs.NameLemmas.{four}
use Rattle.tbd_doc.proofs.names.with_class_names.Goals as goal

pub returns : goal.returns
returns c = four _ _ _ _ _ _ _ _ _ c.in_ok-names.ensures c.in_ok-names-2.ensures c.in_ok-names-3.ensures c.in_ok-names-4.ensures
