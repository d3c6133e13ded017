use Rattle.atom_cut.proofs.KeyLemmas.{atoms_rise}
use Rattle.atom_cut.proofs.laws.keys_rise.Goals as goal

pub returns : goal.returns
returns c = atoms_rise
