use Rattle.field_laws.proofs.Slots.{slot_told}
use Rattle.field_laws.proofs.laws.slots_are_told.Goals as goal

pub returns : goal.returns
returns c = slot_told
