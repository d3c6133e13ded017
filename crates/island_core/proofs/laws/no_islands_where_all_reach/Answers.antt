use Rattle.island_core.proofs.LawLemmas.{no_far}
use Rattle.island_core.proofs.laws.no_islands_where_all_reach.Goals as goal

pub returns : goal.returns
returns c = no_far
