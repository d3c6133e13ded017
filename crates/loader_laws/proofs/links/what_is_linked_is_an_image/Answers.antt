-- The law is that of the lemmas.
use Rattle.loader_laws.proofs.Linked.{low_linked}
use Rattle.loader_laws.proofs.links.what_is_linked_is_an_image.Goals as goal

pub returns : goal.returns
returns c = low_linked
