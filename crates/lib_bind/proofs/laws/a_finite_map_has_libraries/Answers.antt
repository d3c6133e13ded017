use Rattle.lib_bind.proofs.FiniteLemmas.{finite_last}
use Rattle.lib_bind.proofs.laws.a_finite_map_has_libraries.Goals as goal

pub returns : goal.returns
returns c = finite_last
