use Rattle.sect_place.proofs.Ranged.{in_order_law}
use Rattle.sect_place.proofs.laws.sections_are_in_order.Goals as goal

pub returns : goal.returns
returns c = λ files kept rising low. in_order_law files kept rising low
