use Rattle.field_laws.proofs.Pointers.{offset_told}
use Rattle.field_laws.proofs.laws.template_offsets_are_told.Goals as goal

pub returns : goal.returns
returns c = offset_told
