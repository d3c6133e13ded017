use Rattle.std.proofs.Common.{rules}
use Rattle.std.specs.Ordering.{is_lt}
use Rattle.std.proofs.lemmas.List.Sorted.{ranks_by, answers_always}
use Rattle.sym_out.specs.Symbols.{Local, compare_locals}
use Rattle.sym_out.proofs.Orders.{compare_locals_total}
use Rattle.sym_out.proofs.locals.put_in_order.Goals as goal

pub returns-clause-sorted : goal.returns-clause-sorted
returns-clause-sorted c =
    c.sort_unstable_by.ensures.sorted (λ (a : Local) (b : Local). is_lt (compare_locals a b))
    (ranks_by compare_locals_total (λ (a : Local). a))
    (answers_always _ _ _ (λ f a r f' k. search rules))
