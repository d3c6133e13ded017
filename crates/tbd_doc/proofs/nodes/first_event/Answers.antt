use Rattle.tbd_doc.proofs.SearchLemmas.{begins, node_within}
use Rattle.tbd_doc.proofs.nodes.first_event.Goals as goal

pub event_at-requires : goal.event_at-requires
event_at-requires c = node_within _ _ c.requires

pub returns : goal.returns
returns c = begins _ _ _ c.requires c.event_at.ensures
