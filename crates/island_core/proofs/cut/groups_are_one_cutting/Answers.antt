use Rattle.island_core.proofs.CutLemmas.{one_cutting}
use Rattle.island_core.proofs.cut.groups_are_one_cutting.Goals as goal

pub returns : goal.returns
returns c = one_cutting
