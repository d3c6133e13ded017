use Rattle.slot_plan.proofs.Ordered.{one_list}
use Rattle.slot_plan.proofs.laws.slots_are_one_list.Goals as goal

pub returns : goal.returns
returns c = one_list
