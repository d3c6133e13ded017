use Rattle.fold_code.proofs.ExistLemmas.{folded_exist}
use Rattle.fold_code.proofs.laws.folded_nodes_exist.Goals as goal

pub returns : goal.returns
returns c = folded_exist
