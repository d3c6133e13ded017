-- The law is that of the lemmas.
use Rattle.loader_laws.proofs.PlannedLinks.{image_planned}
use Rattle.loader_laws.proofs.links.a_plan_is_a_linked_image.Goals as goal

pub returns : goal.returns
returns c = image_planned
