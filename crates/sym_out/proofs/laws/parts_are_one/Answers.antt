use Rattle.sym_out.proofs.PartsLaws.{parts_one}
use Rattle.sym_out.proofs.laws.parts_are_one.Goals as goal

pub returns : goal.returns
returns c = parts_one
