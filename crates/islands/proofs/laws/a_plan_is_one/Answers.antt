use Rattle.islands.proofs.Single.{one_plan}
use Rattle.islands.proofs.laws.a_plan_is_one.Goals as goal

pub returns : goal.returns
returns c = one_plan
