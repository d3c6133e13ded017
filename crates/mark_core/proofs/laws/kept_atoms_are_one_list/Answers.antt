use Rattle.mark_core.proofs.LawLemmas.{kept_is_one}
use Rattle.mark_core.proofs.laws.kept_atoms_are_one_list.Goals as goal

pub returns : goal.returns
returns c = kept_is_one
