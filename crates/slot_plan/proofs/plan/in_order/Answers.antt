use Rattle.std.proofs.Common.{rules}
use Rattle.std.specs.Borrow.{Bor}
use Rattle.std.specs.Ordering.{is_lt}
use Rattle.std.proofs.lemmas.List.Sorted.{ranks_by, answers_always}
use Rattle.mo_types.specs.GoalOrder.{compare_goals_total}
use Rattle.mo_types.specs.Goals.{compare_goals}
use Rattle.slot_plan.specs.declared.need.Need.{Need}
use Rattle.slot_plan.specs.inner.Held.{goal_behind}
use Rattle.slot_plan.proofs.InOrder.{same_moved}
use Rattle.slot_plan.proofs.plan.in_order.Goals as goal

pub returns-clause-same : goal.returns-clause-same
returns-clause-same c = same_moved _ _ _ (same_moved _ _ _ c.in_ok-few.ensures (rw c.as_slice.ensures.value at c.in_ok-sorted.ensures)) c.sort_by.ensures.permutation

pub returns-clause-sorted : goal.returns-clause-sorted
returns-clause-sorted c = c.in_ok-sort_by.ensures.sorted (λ (a : Bor Need) (b : Bor Need). is_lt (compare_goals a.now.goal b.now.goal))
    (ranks_by compare_goals_total goal_behind)
    (answers_always _ _ _ (λ f a r f' k. search rules))
