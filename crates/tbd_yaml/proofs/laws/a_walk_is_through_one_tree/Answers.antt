use Rattle.tbd_yaml.proofs.TreeLemmas.{one_tree}
use Rattle.tbd_yaml.proofs.laws.a_walk_is_through_one_tree.Goals as goal

pub returns : goal.returns
returns c = one_tree
