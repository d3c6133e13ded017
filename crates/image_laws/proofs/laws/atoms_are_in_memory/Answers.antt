-- The law is that of the lemmas.
use Rattle.image_laws.proofs.Loading.{all_loaded, all_outside}
use Rattle.image_laws.proofs.Stated.{zerofill_atoms}
use Rattle.image_laws.proofs.laws.atoms_are_in_memory.Goals as goal

pub returns-clause-written : goal.returns-clause-written
returns-clause-written c = all_loaded

pub returns-clause-others : goal.returns-clause-others
returns-clause-others c = all_outside

pub returns-clause-zeros : goal.returns-clause-zeros
returns-clause-zeros c = zerofill_atoms
