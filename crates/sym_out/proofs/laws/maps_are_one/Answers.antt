use Rattle.sym_out.proofs.MapLemmas.{has_map, map_is_one}
use Rattle.sym_out.proofs.laws.maps_are_one.Goals as goal

pub returns-clause-there : goal.returns-clause-there
returns-clause-there c = λ placed atoms files. has_map placed atoms files

pub returns-clause-one : goal.returns-clause-one
returns-clause-one c = λ placed atoms files lines others apart is is_too. map_is_one placed atoms files lines others apart is is_too
