use Rattle.input_read.proofs.PlaceLemmas.{input_faulty}
use Rattle.input_read.proofs.laws.a_fault_is_told.Goals as goal

pub returns : goal.returns
returns c = input_faulty
