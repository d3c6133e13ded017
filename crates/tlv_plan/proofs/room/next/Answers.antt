use Rattle.tlv_plan.proofs.Walk.{next_of, next_past}
use Rattle.tlv_plan.proofs.room.next.Goals as goal

pub returns-in-Some : goal.returns-in-Some
returns-in-Some c = next_of c.args.align c.args.at c.args.size c.in-Some.place _ c.in-Some.ensures.exact c.checked_add.ensures

pub returns-in-None : goal.returns-in-None
returns-in-None c = next_past c.args.align c.args.at c.args.size c.in-None.ensures.exact
