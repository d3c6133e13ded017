-- The law is that of the lemmas.
use Rattle.image_laws.proofs.Complete.{none_left_out}
use Rattle.image_laws.proofs.laws.no_kept_atom_is_left_out.Goals as goal

pub returns : goal.returns
returns c = none_left_out
