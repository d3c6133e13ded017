use Rattle.unwind_link.proofs.SizeLemmas.{sizes}
use Rattle.unwind_link.proofs.laws.unwind_info_has_one_size.Goals as goal

pub returns : goal.returns
returns c = sizes
