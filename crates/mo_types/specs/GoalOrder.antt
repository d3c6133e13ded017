-- The laws of the order of goals.
use Rattle.std.specs.Ordering.{eq_by_cmp, as_partial_cmp}
use Rattle.std.specs.Cmp.{IsTotalOrder, IsEquivalence, IsPartialOrder, partial_order_from_total}
use Rattle.std.proofs.lemmas.Cmp.{nat_cmp_total, nat_list_cmp_total, on_total, then_total, eq_by_cmp_equiv}
use Rattle.mo_types.specs.Goals.{group_of, name_of, numbers_of, compare_goals}

pub compare_goals_total : IsTotalOrder compare_goals
unfolding compare_goals
compare_goals_total = then_total (on_total group_of nat_cmp_total) (then_total (on_total name_of nat_list_cmp_total) (on_total numbers_of nat_list_cmp_total))

pub compare_goals_equal : IsEquivalence (eq_by_cmp compare_goals)
compare_goals_equal = eq_by_cmp_equiv compare_goals_total

pub compare_goals_partial : IsPartialOrder (eq_by_cmp compare_goals) (as_partial_cmp compare_goals)
compare_goals_partial = partial_order_from_total compare_goals_total
