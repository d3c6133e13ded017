-- Needs in the order of their goals, and the goals that are needed so.
use Rattle.std.proofs.Common.{◌≡◌, ℕ, ◌+◌, ◌<◌, Bool, List, [], ◌∷◌, length, map, get_or, sym, subst, arith, IsPermutation, Vec, Global, Result}
use Rattle.std.specs.Borrow.{Bor}
use Rattle.std.specs.Result.{IfOk}
use Rattle.std.specs.List.{filter}
use Rattle.std.specs.List.Sorted.{IsSorted, IsSortedBy}
use Rattle.std.specs.Ordering.{on, is_lt}
use Rattle.std.proofs.lemmas.List.{get_or-map, length-map}
use Rattle.std.proofs.lemmas.List.Kept.{IsSortedBy-filter}
use Rattle.std.proofs.lemmas.Result.{IfOk-weaker}
use Rattle.std.proofs.lemmas.List.Sorted.{Contains-permutation, IsPermutation-map, IsPermutation-sym, ranks_by}
use Rattle.mo_types.specs.declared.goal.Goal.{Goal}
use Rattle.mo_types.specs.Goals.{compare_goals}
use Rattle.mo_types.specs.GoalOrder.{compare_goals_total}
use Rattle.slot_plan.specs.declared.need.Need.{Need}
use Rattle.slot_plan.specs.declared.need.Way.{Way}
use Rattle.slot_plan.specs.Slots.{needed}
use Rattle.mo_types.specs.declared.memory.OutOfMemory.{OutOfMemory}
use Rattle.slot_plan.specs.declared.rough.Keyed.{Keyed}
use Rattle.slot_plan.specs.inner.Held.{HasTheSame, goal_behind, held, held_needs, needs_behind}

some : {X : Type 0} (xs : List X) (i : ℕ) → i < length xs → X
some [] i within = absurd (omega arith)
some (x ∷ xs) i within = x

-- a list is in the order of what a function gives of its elements where the list of those is in order
map_sorted : {X K : Type 0} (f : X → K) (lt : K → K → Bool) (xs : List X) → IsSortedBy (λ x y. lt (f x) (f y)) xs → IsSortedBy lt (map f xs)
map_sorted f lt xs up = λ k d low high.
    let inside : k + 1 < length xs = subst (λ (n : ℕ). k + 1 < n) (length-map xs f) high in
    let x = some xs (k + 1) inside in
    let here : get_or (map f xs) k d ≡ f (get_or xs k x) = get_or-map f xs k x d (omega arith) in
    let next : get_or (map f xs) (k + 1) d ≡ f (get_or xs (k + 1) x) = get_or-map f xs (k + 1) x d inside in
    rw (here, next) (up k x low inside)

needed_sorted : (ways : Way → Bool) (needs : List (Bor Need)) → IsSorted (on goal_behind compare_goals) needs → IsSorted compare_goals (needed ways (held_needs needs))
unfolding needed
needed_sorted ways needs up =
    map_sorted (λ (n : Need). n.goal) (λ a b. is_lt (compare_goals a b)) (filter (λ (n : Need). ways n.way) (held_needs needs))
    (IsSortedBy-filter (λ (a : Need) (b : Need). is_lt (compare_goals a.goal b.goal)) (ranks_by compare_goals_total (λ (n : Need). n.goal)) (λ (n : Need). ways n.way) (held_needs needs)
    (map_sorted (λ (r : Bor Need). r.now) (λ (a : Need) (b : Need). is_lt (compare_goals a.goal b.goal)) needs up))

-- the goals that are needed of needs in order
pub served_sorted : (ways : Way → Bool) (needs : List (Bor Need)) (goals : List (Bor Goal)) → IsSorted (on goal_behind compare_goals) needs → held goals ≡ needed ways (held_needs needs) → IsSorted compare_goals (held goals)
served_sorted ways needs goals up are = subst (IsSorted compare_goals) (sym are) (needed_sorted ways needs up)

-- what is put in order with its numbers stands in another order without them
pub permuted : (old : List (Bor Need)) (keyed sorted read : List Keyed) (result : Result (Vec (Bor Need) Global) OutOfMemory) → needs_behind keyed ≡ old → IsPermutation keyed sorted → read ≡ sorted → IfOk result (λ needs. needs.items ≡ needs_behind read) → IfOk result (λ moved. IsPermutation old moved.items)
permuted old keyed sorted read result held moves is given = IfOk-weaker result (λ needs. needs.items ≡ needs_behind read) (λ moved. IsPermutation old moved.items)
    (λ needs e. rw (e, is, ← held) (IsPermutation-map (λ (each : Keyed). each.need) keyed sorted moves)) given

-- the same in another order
pub same_moved : (needs : List Need) (few moved : List (Bor Need)) → HasTheSame needs (held_needs few) → IsPermutation few moved → HasTheSame needs (held_needs moved)
same_moved needs few moved same moves =
    let shown : IsPermutation (held_needs few) (held_needs moved) = IsPermutation-map (λ (r : Bor Need). r.now) few moved moves in
    record {
      all = λ need h. Contains-permutation (held_needs few) (held_needs moved) need shown (same.all need h);
      only = λ need h. same.only need (Contains-permutation (held_needs moved) (held_needs few) need (IsPermutation-sym (held_needs few) (held_needs moved) shown) h);
    }
