use Rattle.unwind_read.proofs.LawLemmas.{are_apart}
use Rattle.unwind_read.proofs.laws.entries_are_apart.Goals as goal

pub returns : goal.returns
returns c = are_apart
