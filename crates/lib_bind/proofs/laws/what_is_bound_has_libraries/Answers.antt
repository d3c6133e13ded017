use Rattle.lib_bind.proofs.ExistLemmas.{libraries_exist}
use Rattle.lib_bind.proofs.laws.what_is_bound_has_libraries.Goals as goal

pub returns : goal.returns
returns c = libraries_exist
