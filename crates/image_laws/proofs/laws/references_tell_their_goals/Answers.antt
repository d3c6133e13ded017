-- The law is that of the lemmas.
use Rattle.image_laws.proofs.Telling.{references_tell}
use Rattle.image_laws.proofs.laws.references_tell_their_goals.Goals as goal

pub returns : goal.returns
returns c = references_tell
