-- The law is that of the lemmas.
use Rattle.image_laws.proofs.Stated.{begins_at}
use Rattle.image_laws.proofs.laws.programs_begin_at_their_entry.Goals as goal

pub returns : goal.returns
returns c = begins_at
