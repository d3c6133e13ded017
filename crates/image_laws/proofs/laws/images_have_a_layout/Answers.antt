-- The law is that of the lemmas.
use Rattle.image_laws.proofs.Stated.{with_layout}
use Rattle.image_laws.proofs.laws.images_have_a_layout.Goals as goal

pub returns : goal.returns
returns c = with_layout
