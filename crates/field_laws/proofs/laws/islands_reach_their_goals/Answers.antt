use Rattle.field_laws.proofs.Stubs.{island_is}
use Rattle.field_laws.proofs.laws.islands_reach_their_goals.Goals as goal

pub returns : goal.returns
returns c = island_is
