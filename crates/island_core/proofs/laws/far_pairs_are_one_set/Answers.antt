use Rattle.island_core.proofs.LawLemmas.{one_set}
use Rattle.island_core.proofs.laws.far_pairs_are_one_set.Goals as goal

pub returns : goal.returns
returns c = one_set
