use Rattle.fold_code.proofs.LawLemmas.{least_key}
use Rattle.fold_code.proofs.laws.the_least_key_stands_for_all.Goals as goal

pub returns : goal.returns
returns c = least_key
