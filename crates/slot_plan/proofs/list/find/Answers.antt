use Rattle.slot_plan.proofs.Ordered.{found, missing}
use Rattle.slot_plan.proofs.list.find.Goals as goal

pub returns-in-Ok : goal.returns-in-Ok
returns-in-Ok c = found c.args.goals.now c.args.goal.now c.in-Ok.at c.in-Ok.ensures.bound c.in-Ok.ensures.ok

pub returns-in-Err : goal.returns-in-Err
returns-in-Err c = missing c.args.goals.now c.args.goal.now c.in-Err.field-0 c.requires c.in-Err.ensures.position
