use Rattle.field_laws.proofs.Found.{found_held}
use Rattle.field_laws.proofs.laws.found_pointers_are_held.Goals as goal

pub returns : goal.returns
returns c = found_held
