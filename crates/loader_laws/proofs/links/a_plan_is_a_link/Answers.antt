-- The law is that of the lemmas.
use Rattle.loader_laws.proofs.FileLinks.{plan_links}
use Rattle.loader_laws.proofs.links.a_plan_is_a_link.Goals as goal

pub returns : goal.returns
returns c = plan_links
