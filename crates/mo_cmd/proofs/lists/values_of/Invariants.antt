use Rattle.mo_cmd.specs.Items.{value_of, values_at}
use Rattle.mo_cmd.proofs.ListLemmas.{IsListing}
use Rattle.mo_cmd.proofs.lists.values_of.Given as goal

abbrev pub invariant-loop-part : goal.invariant-loop-part
invariant-loop-part l = IsListing (λ part. value_of (values_at l.words part)) l.parts l.part-index l.names
