-- The law is that of the lemmas.
use Rattle.loader_laws.proofs.FileLinks.{files_link}
use Rattle.loader_laws.proofs.links.what_is_linked_is_a_link.Goals as goal

pub returns : goal.returns
returns c = files_link
