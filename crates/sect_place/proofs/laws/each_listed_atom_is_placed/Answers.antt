use Rattle.sect_place.proofs.Positions.{placed_there}
use Rattle.sect_place.proofs.laws.each_listed_atom_is_placed.Goals as goal

pub returns : goal.returns
returns c = λ kept sections slots islands sizes command atom there listed. placed_there kept sections slots islands sizes command atom there listed
