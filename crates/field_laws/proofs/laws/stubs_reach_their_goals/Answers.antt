use Rattle.field_laws.proofs.Stubs.{stub_is}
use Rattle.field_laws.proofs.laws.stubs_reach_their_goals.Goals as goal

pub returns : goal.returns
returns c = stub_is
