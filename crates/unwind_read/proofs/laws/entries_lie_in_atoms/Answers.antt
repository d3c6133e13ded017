use Rattle.unwind_read.proofs.LawLemmas.{in_atoms}
use Rattle.unwind_read.proofs.laws.entries_lie_in_atoms.Goals as goal

pub returns : goal.returns
returns c = in_atoms
