use Rattle.image_join.proofs.OneLemmas.{not_filled, one_fault}
use Rattle.image_join.proofs.laws.filled_or_not.Goals as goal

pub returns : goal.returns
returns c = record { never = not_filled; one = one_fault }
