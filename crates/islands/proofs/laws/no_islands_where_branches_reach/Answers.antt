use Rattle.islands.proofs.Single.{none_needed}
use Rattle.islands.proofs.laws.no_islands_where_branches_reach.Goals as goal

pub returns : goal.returns
returns c = none_needed
