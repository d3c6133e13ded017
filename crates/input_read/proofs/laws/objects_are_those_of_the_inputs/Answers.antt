use Rattle.input_read.proofs.OpenedLemmas.{objects_read}
use Rattle.input_read.proofs.laws.objects_are_those_of_the_inputs.Goals as goal

pub returns : goal.returns
returns c = objects_read
