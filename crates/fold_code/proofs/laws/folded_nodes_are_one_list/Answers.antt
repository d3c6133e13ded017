use Rattle.fold_code.proofs.LawLemmas.{one_list}
use Rattle.fold_code.proofs.laws.folded_nodes_are_one_list.Goals as goal

pub returns : goal.returns
returns c = one_list
