-- The law is that of the lemmas.
use Rattle.image_laws.proofs.Stated.{all_sections}
use Rattle.image_laws.proofs.laws.sections_are_in_memory.Goals as goal

pub returns : goal.returns
returns c = all_sections
