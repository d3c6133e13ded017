use Rattle.tbd_doc.proofs.StubLemmas.{whole_node}
use Rattle.tbd_doc.proofs.read.stub_at.Goals as goal

pub fields-requires : goal.fields-requires
fields-requires c = whole_node c.args.doc.now _ c.requires c.as_slice-events.ensures
