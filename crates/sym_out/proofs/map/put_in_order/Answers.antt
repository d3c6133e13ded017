use Rattle.std.proofs.Common.{rules}
use Rattle.std.specs.Ordering.{is_lt}
use Rattle.std.proofs.lemmas.List.Sorted.{ranks_by, answers_always}
use Rattle.sym_out.specs.Map.{MapRow, compare_rows}
use Rattle.sym_out.proofs.Orders.{compare_rows_total}
use Rattle.sym_out.proofs.map.put_in_order.Goals as goal

pub returns-clause-sorted : goal.returns-clause-sorted
returns-clause-sorted c =
    c.sort_unstable_by.ensures.sorted (λ (a : MapRow) (b : MapRow). is_lt (compare_rows a b))
    (ranks_by compare_rows_total (λ (a : MapRow). a))
    (answers_always _ _ _ (λ f a r f' k. search rules))
