use Rattle.islands.proofs.Exists.{some_plan}
use Rattle.islands.proofs.laws.a_plan_exists.Goals as goal

pub returns : goal.returns
returns c = some_plan
