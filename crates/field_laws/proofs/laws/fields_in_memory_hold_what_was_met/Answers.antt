use Rattle.field_laws.proofs.Written.{fields_hold}
use Rattle.field_laws.proofs.laws.fields_in_memory_hold_what_was_met.Goals as goal

pub returns : goal.returns
returns c = fields_hold
