use Rattle.unwind_read.proofs.LawLemmas.{least_fault}
use Rattle.unwind_read.proofs.laws.the_least_fault_is_told.Goals as goal

pub returns : goal.returns
returns c = least_fault
