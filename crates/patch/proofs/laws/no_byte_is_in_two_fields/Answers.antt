use Rattle.patch.proofs.ReadingLemmas.{fields_apart}
use Rattle.patch.proofs.laws.no_byte_is_in_two_fields.Goals as goal

pub returns : goal.returns
returns c = fields_apart
