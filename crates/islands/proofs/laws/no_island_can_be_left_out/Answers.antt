use Rattle.islands.proofs.Single.{left_out}
use Rattle.islands.proofs.laws.no_island_can_be_left_out.Goals as goal

pub returns : goal.returns
returns c = left_out
