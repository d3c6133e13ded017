use Rattle.patch.proofs.ReadingLemmas.{atoms_apart}
use Rattle.patch.proofs.laws.no_byte_is_in_two_atoms.Goals as goal

pub returns : goal.returns
returns c = atoms_apart
