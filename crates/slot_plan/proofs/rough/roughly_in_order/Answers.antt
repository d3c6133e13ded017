use Rattle.slot_plan.proofs.InOrder.{permuted}
use Rattle.slot_plan.proofs.rough.roughly_in_order.Goals as goal

pub returns : goal.returns
returns c = permuted _ _ _ _ c.without_keys.result c.in_ok-keyed.ensures c.sort_unstable_by.ensures.permutation c.as_slice.ensures.value c.without_keys.ensures
