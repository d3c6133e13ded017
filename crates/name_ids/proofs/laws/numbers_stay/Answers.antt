use Rattle.name_ids.proofs.Any.{extra_stay}
use Rattle.name_ids.proofs.laws.numbers_stay.Goals as goal

pub returns : goal.returns
returns c = extra_stay
