use Rattle.fold_code.proofs.LawLemmas.{one_coarsest}
use Rattle.fold_code.proofs.laws.the_coarsest_partition_is_one.Goals as goal

pub returns : goal.returns
returns c = one_coarsest
