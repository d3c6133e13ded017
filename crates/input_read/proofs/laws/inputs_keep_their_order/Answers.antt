use Rattle.input_read.proofs.OpenedLemmas.{keeps_order}
use Rattle.input_read.proofs.laws.inputs_keep_their_order.Goals as goal

pub returns : goal.returns
returns c = keeps_order
