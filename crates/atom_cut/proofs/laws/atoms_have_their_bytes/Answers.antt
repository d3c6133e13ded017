use Rattle.atom_cut.proofs.OwnBytes.{atoms_have_bytes}
use Rattle.atom_cut.proofs.laws.atoms_have_their_bytes.Goals as goal

pub returns : goal.returns
returns c = atoms_have_bytes
