use Rattle.mo_cmd.specs.Command.{input_of}
use Rattle.mo_cmd.specs.Items.{value_of, values_at}
use Rattle.mo_cmd.proofs.ListLemmas.{IsListing}
use Rattle.mo_cmd.proofs.lists.inputs_at.Given as goal

abbrev pub invariant-loop-part : goal.invariant-loop-part
invariant-loop-part l = IsListing (λ part. input_of part.option (value_of (values_at l.words part))) l.parts l.part-index l.inputs
