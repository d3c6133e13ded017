use Rattle.unwind_out.proofs.Alike.{one_size}
use Rattle.unwind_out.proofs.laws.one_size.Goals as goal

pub returns : goal.returns
returns c = one_size
