use Rattle.tbd_doc.proofs.WalkLemmas.{tree_of_events}
use Rattle.tbd_doc.proofs.laws.a_walk_is_read_as_its_tree.Goals as goal

pub returns : goal.returns
returns c = tree_of_events
