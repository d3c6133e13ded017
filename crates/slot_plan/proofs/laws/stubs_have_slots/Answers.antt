use Rattle.slot_plan.proofs.Ordered.{stub_has_slot}
use Rattle.slot_plan.proofs.laws.stubs_have_slots.Goals as goal

pub returns : goal.returns
returns c = stub_has_slot
