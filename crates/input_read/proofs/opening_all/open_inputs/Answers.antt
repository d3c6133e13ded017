use Rattle.input_read.proofs.OpenedLemmas.{opened_objects}
use Rattle.input_read.proofs.opening_all.open_inputs.Goals as goal

pub returns-clause-objects : goal.returns-clause-objects
returns-clause-objects g c = opened_objects c.args.inputs.now c.in_ok-openings.openings c.in_ok-sort.field-0 c.in_ok-openings.ensures.exact c.in_ok-openings.ensures.sound c.in_ok-sort.ensures
