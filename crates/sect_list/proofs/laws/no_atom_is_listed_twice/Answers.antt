use Rattle.sect_list.proofs.Once.{listed_once}
use Rattle.sect_list.proofs.laws.no_atom_is_listed_twice.Goals as goal

pub returns : goal.returns
returns c = λ files kept rising. listed_once files kept rising
