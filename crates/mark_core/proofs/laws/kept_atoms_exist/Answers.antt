use Rattle.mark_core.proofs.ExistLemmas.{kept_exist}
use Rattle.mark_core.proofs.laws.kept_atoms_exist.Goals as goal

pub returns : goal.returns
returns c = kept_exist
