use Rattle.std.proofs.Common.{rules}
use Rattle.std.specs.Ordering.{is_lt}
use Rattle.std.proofs.lemmas.List.Sorted.{ranks_by, answers_always}
use Rattle.tlv_plan.specs.declared.parts.Offset.{Offset}
use Rattle.mo_types.specs.Keys.{compare_keys}
use Rattle.mo_types.proofs.KeyOrder.{compare_keys_total}
use Rattle.tlv_plan.proofs.plan.in_order.Goals as goal

pub from_sorted-requires : goal.from_sorted-requires
from_sorted-requires c =
    c.sort_unstable_by.ensures.sorted (λ (a : Offset) (b : Offset). is_lt (compare_keys a.atom b.atom))
    (ranks_by compare_keys_total (λ (a : Offset). a.atom))
    (answers_always _ _ _ (λ f a r f' k. search rules))
