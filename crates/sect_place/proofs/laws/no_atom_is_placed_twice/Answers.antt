use Rattle.sect_place.proofs.Positions.{placed_once}
use Rattle.sect_place.proofs.laws.no_atom_is_placed_twice.Goals as goal

pub returns : goal.returns
returns c = λ kept sections slots islands sizes command once. placed_once kept sections slots islands sizes command once
