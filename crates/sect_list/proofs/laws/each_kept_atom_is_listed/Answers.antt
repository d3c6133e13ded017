use Rattle.sect_list.proofs.Listed.{kept_are_listed}
use Rattle.sect_list.proofs.laws.each_kept_atom_is_listed.Goals as goal

pub returns : goal.returns
returns c = λ files kept atom home there is. kept_are_listed files kept atom home there is
