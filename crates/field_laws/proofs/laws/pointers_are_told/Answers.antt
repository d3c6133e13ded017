use Rattle.field_laws.proofs.Pointers.{pointer_told, slot_pointer_told}
use Rattle.field_laws.proofs.laws.pointers_are_told.Goals as goal

pub returns-clause-pointers : goal.returns-clause-pointers
returns-clause-pointers c = pointer_told

pub returns-clause-slots : goal.returns-clause-slots
returns-clause-slots c = slot_pointer_told
