use Rattle.std.proofs.Common.{rules}
use Rattle.std.specs.Ordering.{is_lt}
use Rattle.std.proofs.lemmas.List.Sorted.{ranks_by, answers_always}
use Rattle.mo_types.specs.Keys.{compare_keys}
use Rattle.mo_types.proofs.KeyOrder.{compare_keys_total}
use Rattle.sect_place.specs.declared.layout.Placed.{Placed}
use Rattle.sect_place.proofs.layout.in_order.Goals as goal

pub returns-clause-rising : goal.returns-clause-rising
returns-clause-rising c =
    c.in_ok-sort_by.ensures.sorted (λ (a : Placed) (b : Placed). is_lt (compare_keys a.atom b.atom))
    (ranks_by compare_keys_total (λ (a : Placed). a.atom))
    (answers_always _ _ _ (λ f a r f' k. search rules))
