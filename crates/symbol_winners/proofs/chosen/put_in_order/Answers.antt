use Rattle.std.proofs.Common.{rules}
use Rattle.std.specs.Ordering.{is_lt, nat_cmp}
use Rattle.std.specs.Cmp.Lexicographic.{slice_cmp, nat_list_cmp_total}
use Rattle.std.proofs.lemmas.List.Sorted.{ranks_by, answers_always}
use Rattle.symbol_winners.specs.declared.chosen.Chosen.{Chosen}
use Rattle.symbol_winners.specs.inner.Best.{chosen_name}
use Rattle.symbol_winners.proofs.chosen.put_in_order.Goals as goal

pub returns-clause-sorted : goal.returns-clause-sorted
returns-clause-sorted c =
    c.sort_unstable_by.ensures.sorted (λ (a : Chosen) (b : Chosen). is_lt (slice_cmp nat_cmp (chosen_name a) (chosen_name b)))
    (ranks_by nat_list_cmp_total (λ (a : Chosen). chosen_name a))
    (answers_always _ _ _ (λ f a r f' k. search rules))
