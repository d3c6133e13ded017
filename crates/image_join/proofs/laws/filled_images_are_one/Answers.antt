use Rattle.image_join.proofs.OneLemmas.{one_image}
use Rattle.image_join.proofs.laws.filled_images_are_one.Goals as goal

pub returns : goal.returns
returns c = one_image
