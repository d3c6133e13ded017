use Rattle.island_core.proofs.LawLemmas.{needed}
use Rattle.island_core.proofs.laws.each_pair_is_needed.Goals as goal

pub returns : goal.returns
returns c = needed
