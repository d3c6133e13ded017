use Rattle.island_core.proofs.LawLemmas.{some_set}
use Rattle.island_core.proofs.laws.far_pairs_exist.Goals as goal

pub returns : goal.returns
returns c = some_set
