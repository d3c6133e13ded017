-- Goals that are sorted and then left once each are the slots of those goals.
use Rattle.std.proofs.Common.{◌≡◌, ◌≢◌, ℕ, ◌<◌, ◌≤◌, ◌⊎◌, ◌+◌, ◌++◌, Bool, true, false, cond, List, [], ◌∷◌, length, take, map, append-nil, get_or, slice_get, Some, refl, sym, ap, subst, ◌∙◌, inl, inr, arith, Contains, IsPermutation}
use Rattle.std.specs.Borrow.{Bor}
use Rattle.std.specs.List.{filter, dedup, AllPairs, HoldsAt}
use Rattle.std.specs.declared.cmp.Ordering.TheVariants.{Less, Equal, Greater}
use Rattle.std.specs.List.Sorted.{IsStrictlySortedBy, IsSorted, IsNonDecreasingBy, IsPartitionPoint}
use Rattle.std.specs.Ordering.{on, eq_by_cmp, is_lt, ordering_index}
use Rattle.std.proofs.lemmas.Cmp.{on_total, on_equiv, tied_itself}
use Rattle.std.proofs.lemmas.Bool.{cases_lt}
use Rattle.std.proofs.lemmas.Option.{slice_get-get_or}
use Rattle.std.proofs.lemmas.List.Kept.{IsStrictlySortedBy-dedup, Any-dedup, Contains-from_dedup}
use Rattle.std.proofs.lemmas.List.Sorted.{Contains-permutation, IsPermutation-refl, IsPermutation-sym, searchable_from_sorted}
use Rattle.mo_types.specs.declared.goal.Goal.{Goal}
use Rattle.mo_types.specs.Goals.{compare_goals}
use Rattle.mo_types.specs.GoalOrder.{compare_goals_total, compare_goals_equal}
use Rattle.mo_types.proofs.Goals.{same_goal, same_goals}
use Rattle.slot_plan.specs.declared.need.Need.{Need}
use Rattle.slot_plan.specs.declared.need.Way.{Way}
use Rattle.slot_plan.specs.declared.need.Way.TheVariants.{Got, Stub, Tlv}
use Rattle.slot_plan.specs.Slots.{AreSlots, needed, in_got, in_stubs}
use Rattle.std.proofs.lemmas.List.Elements.{filter-append}
use Rattle.std.proofs.lemmas.List.{get_or-map, length-map, map-append, take_more, take_all}
use Rattle.slot_plan.specs.inner.Held.{held, held_needs, HasTheSame}
use Rattle.list_lemmas.proofs.Members.{In, in_from_Contains, Contains_from_in, in_map, from_map, in_filter, from_filter, from_last, in_last, in_left}
use Rattle.list_lemmas.proofs.Rising.{rising_map, rising_apart, rising_same, sorted_from_rising}

abbrev pointed : Bor Goal → Goal
pointed reference = reference.now

ordered : (old sorted new : List (Bor Goal)) → IsPermutation old sorted → IsSorted (on pointed compare_goals) sorted → new ≡ dedup (on pointed (eq_by_cmp compare_goals)) sorted → AreSlots (held old) (held new)
ordered old sorted new moves up is = subst (λ (rs : List (Bor Goal)). AreSlots (held old) (held rs)) (sym is) (record {
  rising = rising_map pointed compare_goals once (IsStrictlySortedBy-dedup (on_total pointed compare_goals_total) (λ x y. refl) sorted up);
  all = λ goal h. stays goal (from_map pointed old goal (in_from_Contains (held old) goal h));
  only = λ goal h. came goal (from_map pointed once goal (in_from_Contains (held once) goal h));
})
  where
    once : List (Bor Goal)
    once = dedup (on pointed (eq_by_cmp compare_goals)) sorted

    stays : (goal : Goal) → (r : Bor Goal) × In r old × (pointed r ≡ goal) → Contains (held once) goal
    stays goal from =
        let there : Contains sorted from.0 = Contains-permutation old sorted from.0 moves (Contains_from_in old from.0 from.1) in
        let kept = Any-dedup (on_equiv pointed compare_goals_equal) sorted from.0 there in
        let same : pointed from.0 ≡ pointed kept.1 = (same_goals (pointed from.0) (pointed kept.1)).0 kept.4 in
        let here : In kept.1 once = in_from_Contains once kept.1 (kept.0, kept.2, kept.3) in
        subst (Contains (held once)) (sym same ∙ from.2) (Contains_from_in (held once) (pointed kept.1) (in_map pointed once kept.1 here))

    came : (goal : Goal) → (r : Bor Goal) × In r once × (pointed r ≡ goal) → Contains (held old) goal
    came goal from =
        let there : Contains sorted from.0 = Contains-from_dedup (on pointed (eq_by_cmp compare_goals)) sorted from.0 (Contains_from_in once from.0 from.1) in
        let before : Contains old from.0 = Contains-permutation sorted old from.0 (IsPermutation-sym old sorted moves) there in
        subst (Contains (held old)) from.2 (Contains_from_in (held old) (pointed from.0) (in_map pointed old from.0 (in_from_Contains old from.0 before)))

sorted_held : (goals : List (Bor Goal)) → IsSorted compare_goals (held goals) → IsSorted (on pointed compare_goals) goals
sorted_held goals up = λ k d low high.
    let inside : k + 1 < length (held goals) = subst (λ (n : ℕ). k + 1 < n) (sym (length-map goals pointed)) high in
    let here : get_or (held goals) k (pointed d) ≡ pointed (get_or goals k d) = get_or-map pointed goals k d (pointed d) (omega arith) in
    let next : get_or (held goals) (k + 1) (pointed d) ≡ pointed (get_or goals (k + 1) d) = get_or-map pointed goals (k + 1) d (pointed d) high in
    ap (λ (g : Goal). is_lt (compare_goals g (pointed (get_or goals k d)))) (sym next) ∙ ap (λ (g : Goal). is_lt (compare_goals (get_or (held goals) (k + 1) (pointed d)) g)) (sym here) ∙ up k (pointed d) low inside

pub left_once : (old new : List (Bor Goal)) → IsSorted compare_goals (held old) → new ≡ dedup (on pointed (eq_by_cmp compare_goals)) old → AreSlots (held old) (held new)
left_once old new up is = ordered old old new (IsPermutation-refl old) (sorted_held old up) is

pub stands_once : (goals slots : List Goal) → AreSlots goals slots → AllPairs (λ a b. a ≢ b) slots
stands_once goals slots are = λ i j d low high. rising_apart compare_goals_total slots i j d are.rising low high

pub one_list : (goals slots other : List Goal) → AreSlots goals slots → AreSlots goals other → slots ≡ other
one_list goals slots other a b = rising_same compare_goals_total slots other a.rising b.rising
    (λ goal h. in_from_Contains other goal (b.all goal (a.only goal (Contains_from_in slots goal h))))
    (λ goal h. in_from_Contains slots goal (a.all goal (b.only goal (Contains_from_in other goal h))))

pub ruleset order_laws = (compare_goals_total, same_goal)

-- ---- the needs that a section serves

needed-append : (ways : Way → Bool) (xs ys : List Need) → needed ways (xs ++ ys) ≡ needed ways xs ++ needed ways ys
unfolding needed
needed-append ways xs ys = ap (map (λ (n : Need). n.goal)) (filter-append (λ (n : Need). ways n.way) xs ys) ∙ map-append (λ (n : Need). n.goal) (filter (λ (n : Need). ways n.way) xs) (filter (λ (n : Need). ways n.way) ys)

one : (ways : Way → Bool) (need : Need) (b : Bool) → ways need.way ≡ b → needed ways (need ∷ []) ≡ cond b (need.goal ∷ []) []
unfolding needed
one ways need true served = rw served refl
one ways need false served = rw served refl

-- what is needed of one need more
more : (ways : Way → Bool) (needs : List (Bor Need)) (i : ℕ) (d : Bor Need) (b : Bool) → i < length needs → ways (get_or needs i d).now.way ≡ b → needed ways (held_needs (take (i + 1) needs)) ≡ needed ways (held_needs (take i needs)) ++ cond b ((get_or needs i d).now.goal ∷ []) []
more ways needs i d b within served =
    ap (λ (rs : List (Bor Need)). needed ways (held_needs rs)) (take_more needs i d within)
    ∙ (ap (needed ways) (map-append (λ (r : Bor Need). r.now) (take i needs) (get_or needs i d ∷ []))
    ∙ (needed-append ways (held_needs (take i needs)) ((get_or needs i d).now ∷ [])
    ∙ ap (λ (gs : List Goal). needed ways (held_needs (take i needs)) ++ gs) (one ways (get_or needs i d).now b served)))

pub starts : (ways : Way → Bool) (front : List (Bor Goal)) → front ≡ [] → held front ≡ needed ways []
unfolding needed
starts ways front e = ap held e

pub serves_more : (ways : Way → Bool) (needs : List (Bor Need)) (i : ℕ) (d : Bor Need) (front new : List (Bor Goal)) (r : Bor Goal) → i < length needs → ways (get_or needs i d).now.way ≡ true → r.now ≡ (get_or needs i d).now.goal → new ≡ front ++ r ∷ [] → held front ≡ needed ways (held_needs (take i needs)) → held new ≡ needed ways (held_needs (take (i + 1) needs))
serves_more ways needs i d front new r within served at grown so_far =
    ap held grown ∙ (map-append pointed front (r ∷ []) ∙ (ap (λ (gs : List Goal). gs ++ r.now ∷ []) so_far ∙ (ap (λ (g : Goal). needed ways (held_needs (take i needs)) ++ g ∷ []) at ∙ sym (more ways needs i d true within served))))

pub serves_less : (ways : Way → Bool) (needs : List (Bor Need)) (i : ℕ) (d : Bor Need) (front : List (Bor Goal)) → i < length needs → ways (get_or needs i d).now.way ≡ false → held front ≡ needed ways (held_needs (take i needs)) → held front ≡ needed ways (held_needs (take (i + 1) needs))
serves_less ways needs i d front within served so_far =
    so_far ∙ (sym (append-nil (needed ways (held_needs (take i needs)))) ∙ sym (more ways needs i d false within served))

-- ---- the needs without repeats

pub same_starts : (few : List (Bor Need)) → few ≡ [] → HasTheSame [] (held_needs few)
same_starts few e = rw e (record { all = λ need h. h; only = λ need h. h })

joined : (front few : List Need) (new : Need) → HasTheSame front few → HasTheSame (front ++ new ∷ []) (few ++ new ∷ [])
joined front few new same = record {
  all = λ need h. Contains_from_in (few ++ new ∷ []) need (moved need front few same.all (from_last front new need (in_from_Contains (front ++ new ∷ []) need h)));
  only = λ need h. Contains_from_in (front ++ new ∷ []) need (moved need few front same.only (from_last few new need (in_from_Contains (few ++ new ∷ []) need h)));
}
  where
    moved : (need : Need) (xs ys : List Need) → ((n : Need) → Contains xs n → Contains ys n) → In need xs ⊎ (new ≡ need) → In need (ys ++ new ∷ [])
    moved need xs ys there (inl h) = in_left ys (new ∷ []) need (in_from_Contains ys need (there need (Contains_from_in xs need h)))
    moved need xs ys there (inr e) = subst (λ (n : Need). In n (ys ++ new ∷ [])) e (in_last ys new)

met : (front few : List Need) (new : Need) → HasTheSame front few → Contains few new → HasTheSame (front ++ new ∷ []) few
met front few new same there = record {
  all = λ need h. known need (from_last front new need (in_from_Contains (front ++ new ∷ []) need h));
  only = λ need h. Contains_from_in (front ++ new ∷ []) need (in_left front (new ∷ []) need (in_from_Contains front need (same.only need h)));
}
  where
    known : (need : Need) → In need front ⊎ (new ≡ need) → Contains few need
    known need (inl h) = same.all need (Contains_from_in front need h)
    known need (inr e) = subst (Contains few) e there

pub same_pushed : (needs : List Need) (i : ℕ) (need : Need) (few new : List (Bor Need)) (r : Bor Need) → HasTheSame (take i needs) (held_needs few) → i < length needs → need ≡ get_or needs i need → r.now ≡ need → new ≡ few ++ r ∷ [] → HasTheSame (take (i + 1) needs) (held_needs new)
same_pushed needs i need few new r same within is at grown =
    let shown : held_needs new ≡ held_needs few ++ need ∷ [] = ap held_needs grown ∙ (map-append (λ (r : Bor Need). r.now) few (r ∷ []) ∙ ap (λ (n : Need). held_needs few ++ n ∷ []) at) in
    let taken : take (i + 1) needs ≡ take i needs ++ need ∷ [] = take_more needs i need within ∙ ap (λ (n : Need). take i needs ++ n ∷ []) (sym is) in
    rw (shown, taken) (joined (take i needs) (held_needs few) need same)

pub same_there : (needs before : List Need) (i : ℕ) (need : Need) (few : List (Bor Need)) → HasTheSame (take i needs) (held_needs few) → i < length needs → need ≡ get_or needs i need → before ≡ take i needs → Contains before need → HasTheSame (take (i + 1) needs) (held_needs few)
same_there needs before i need few same within is are there =
    let taken : take (i + 1) needs ≡ take i needs ++ need ∷ [] = take_more needs i need within ∙ ap (λ (n : Need). take i needs ++ n ∷ []) (sym is) in
    rw taken (met (take i needs) (held_needs few) need same (same.all need (subst (λ (ns : List Need). Contains ns need) are there)))

pub same_ends : (needs : List Need) (i : ℕ) (few : List (Bor Need)) → HasTheSame (take i needs) (held_needs few) → length needs ≤ i → HasTheSame needs (held_needs few)
same_ends needs i few same past = subst (λ (ns : List Need). HasTheSame ns (held_needs few)) (take_all i needs past) same

-- ---- what is needed of the same needs

in_needed : (ways : Way → Bool) (needs : List Need) (need : Need) → In need needs → ways need.way ≡ true → In need.goal (needed ways needs)
unfolding needed
in_needed ways needs need h served = in_map (λ (n : Need). n.goal) (filter (λ (n : Need). ways n.way) needs) need (in_filter (λ (n : Need). ways n.way) needs need h served)

from_needed : (ways : Way → Bool) (needs : List Need) (goal : Goal) → In goal (needed ways needs) → (need : Need) × In need needs × (ways need.way ≡ true) × (need.goal ≡ goal)
unfolding needed
from_needed ways needs goal h =
    let at = from_map (λ (n : Need). n.goal) (filter (λ (n : Need). ways n.way) needs) goal h in
    let kept = from_filter (λ (n : Need). ways n.way) needs at.0 at.1 in
    (at.0, kept.0, kept.1, at.2)

needed_of_same : (ways : Way → Bool) (needs few : List Need) (goal : Goal) → ((need : Need) → Contains needs need → Contains few need) → Contains (needed ways needs) goal → Contains (needed ways few) goal
needed_of_same ways needs few goal there h =
    let at = from_needed ways needs goal (in_from_Contains (needed ways needs) goal h) in
    let kept : In at.0 few = in_from_Contains few at.0 (there at.0 (Contains_from_in needs at.0 at.1)) in
    subst (Contains (needed ways few)) at.3 (Contains_from_in (needed ways few) at.0.goal (in_needed ways few at.0 kept at.2))

pub slots_of_same : (ways : Way → Bool) (needs few : List Need) (slots : List Goal) → HasTheSame needs few → AreSlots (needed ways few) slots → AreSlots (needed ways needs) slots
slots_of_same ways needs few slots same are = record {
  rising = are.rising;
  all = λ goal h. are.all goal (needed_of_same ways needs few goal same.all h);
  only = λ goal h. needed_of_same ways few needs goal same.only (are.only goal h);
}

stub_in_got : (way : Way) → in_stubs way ≡ true → in_got way ≡ true
stub_in_got Got served = cc
stub_in_got Stub served = refl
stub_in_got Tlv served = cc

pub stub_has_slot : (needs : List Need) (got stubs : List Goal) → AreSlots (needed in_got needs) got → AreSlots (needed in_stubs needs) stubs → (goal : Goal) → Contains stubs goal → Contains got goal
stub_has_slot needs got stubs a b goal h =
    let at = from_needed in_stubs needs goal (in_from_Contains (needed in_stubs needs) goal (b.only goal h)) in
    a.all goal (subst (Contains (needed in_got needs)) at.3 (Contains_from_in (needed in_got needs) at.0.goal (in_needed in_got needs at.0 at.1 (stub_in_got at.0.way at.2))))

-- ---- a look-up

pub found : (goals : List Goal) (goal : Goal) (at : ℕ) → at < length goals → HoldsAt (λ (g : Goal). compare_goals g goal ≡ Equal) goals at → slice_get goals at ≡ Some goal
found goals goal at within holds = slice_get-get_or goals at goal within ∙ ap Some (same_goal (get_or goals at goal) goal (holds goal))

two_answers : Less ≡ Equal → ⊥
two_answers e = cc

two_others : Greater ≡ Equal → ⊥
two_others e = cc

pub missing : (goals : List Goal) (goal : Goal) (at : ℕ) → IsStrictlySortedBy compare_goals goals → (IsNonDecreasingBy (λ (g : Goal). ordering_index (compare_goals g goal)) goals → IsPartitionPoint (λ (g : Goal). compare_goals g goal ≡ Less) (λ (g : Goal). compare_goals g goal ≡ Greater) goals at) → Contains goals goal → ⊥
missing goals goal at rising parted h = where_is (cases_lt h.0 at)
  where
    parts : IsPartitionPoint (λ (g : Goal). compare_goals g goal ≡ Less) (λ (g : Goal). compare_goals g goal ≡ Greater) goals at
    parts = parted (searchable_from_sorted compare_goals_total (λ (g : Goal). g) goals goal (sorted_from_rising compare_goals_total goals rising))

    equal : compare_goals (get_or goals h.0 goal) goal ≡ Equal
    equal = ap (λ (g : Goal). compare_goals g goal) h.2 ∙ tied_itself compare_goals_total goal

    lesser : compare_goals (get_or goals h.0 goal) goal ≡ Less → ⊥
    lesser less = two_answers (sym less ∙ equal)

    larger : compare_goals (get_or goals h.0 goal) goal ≡ Greater → ⊥
    larger greater = two_others (sym greater ∙ equal)

    where_is : (h.0 < at) ⊎ (at ≤ h.0) → ⊥
    where_is (inl down) = let less = parts.0 h.0 goal (omega arith) down in lesser less
    where_is (inr up) = let greater = parts.1 h.0 goal up h.1 in larger greater
