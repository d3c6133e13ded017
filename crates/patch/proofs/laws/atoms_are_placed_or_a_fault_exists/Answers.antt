use Rattle.patch.proofs.ExistLemmas.{placed_or_fault}
use Rattle.patch.proofs.laws.atoms_are_placed_or_a_fault_exists.Goals as goal

pub returns : goal.returns
returns c = placed_or_fault
