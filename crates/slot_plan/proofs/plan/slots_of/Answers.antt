use Rattle.slot_plan.specs.inner.Held.{serves}
use Rattle.slot_plan.proofs.InOrder.{served_sorted}
use Rattle.slot_plan.proofs.plan.slots_of.Goals as goal

pub leave_once-requires : goal.leave_once-requires
leave_once-requires c = served_sorted (serves c.args.table) c.args.needs.now c.in_ok-goals.goals.items c.requires c.in_ok-goals.ensures
