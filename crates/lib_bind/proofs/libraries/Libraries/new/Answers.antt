use Rattle.lib_bind.proofs.WholeLemmas.{indexed}
use Rattle.lib_bind.proofs.libraries.Libraries.new.Goals as goal

pub invariant_of-result : goal.invariant_of-result
invariant_of-result c =
    indexed c.args.libraries c.as_slice.result.now c.args.documents c.as_slice-2.result.now c.args.links c.as_slice-3.result.now c.in_ok-reach.field-0.reach c.in_ok-reach.field-0.index
    c.as_slice.ensures c.as_slice-2.ensures c.as_slice-3.ensures c.requires.links c.requires.libraries c.in_ok-reach.ensures.reach c.in_ok-reach.ensures.names
