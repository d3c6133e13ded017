use Rattle.input_read.proofs.LawLemmas.{told}
use Rattle.input_read.proofs.laws.the_first_fault_is_told.Goals as goal

pub returns : goal.returns
returns c = told
