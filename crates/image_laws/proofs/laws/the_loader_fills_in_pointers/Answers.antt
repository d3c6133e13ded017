-- The law is that of the lemmas.
use Rattle.image_laws.proofs.Carrying.{others_plain, pointers_held}
use Rattle.image_laws.proofs.laws.the_loader_fills_in_pointers.Goals as goal

pub returns-clause-held : goal.returns-clause-held
returns-clause-held c = pointers_held

pub returns-clause-others : goal.returns-clause-others
returns-clause-others c = others_plain
