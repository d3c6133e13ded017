-- The pairs of a group stand together where pairs are in order.
use Rattle.std.proofs.Common.{◌≡◌, ℕ, suc, ◌+◌, ◌-◌, ◌<◌, ◌≤◌, ◌⊎◌, ◌==◌, ◌++◌, Bool, true, false, List, [], ◌∷◌, length, get_or, take, drop, nat_lt, refl, sym, ap, ap₂, subst, ◌∙◌, inl, inr, arith, append-nil}
use Rattle.std.specs.List.{filter}
use Rattle.std.specs.List.Sorted.{IsPartitionPoint, IsPartitionedBy, IsStrictlySortedBy}
use Rattle.std.specs.Ordering.{nat_cmp, ordering_then}
use Rattle.std.specs.declared.cmp.Ordering.{Ordering}
use Rattle.std.specs.declared.cmp.Ordering.TheVariants.{Less, Equal, Greater}
use Rattle.std.proofs.lemmas.Bool.{cases_Bool, cases_lt, eq-eqb, eqb-true, false≢true, lt-ltb, ltb-true}
use Rattle.std.proofs.lemmas.Cmp.{ranked}
use Rattle.std.proofs.lemmas.List.{get_or-drop, get_or-take, length-drop, length-take, take-append-drop, take_all}
use Rattle.std.proofs.lemmas.List.Elements.{filter-append}
use Rattle.list_lemmas.proofs.Rising.{rising_at}
use Rattle.island_core.specs.Far.{compare_pairs}
use Rattle.island_core.specs.declared.row.Pair.{Pair}

group_below : (a b : Pair) → compare_pairs a b ≡ Less → a.group ≤ b.group
group_below a b e = by (nat_cmp a.group b.group) refl
  where
    by : (o : Ordering) → nat_cmp a.group b.group ≡ o → a.group ≤ b.group
    by Less f = let low = ranked a.group b.group Less (sym f) in omega (arith, low)
    by Equal f = let same = ranked a.group b.group Equal (sym f) in omega (arith, same)
    by Greater f =
        let clash : Greater ≡ Less = sym (ap (λ (o : Ordering). ordering_then o (nat_cmp a.target b.target)) f) ∙ e in
        cc

pub groups_rise : (pairs : List Pair) (i j : ℕ) (d : Pair) → IsStrictlySortedBy compare_pairs pairs → i ≤ j → j < length pairs → (get_or pairs i d).group ≤ (get_or pairs j d).group
groups_rise pairs i j d rises low within = by (cases_lt i j)
  where
    by : (i < j) ⊎ (j ≤ i) → (get_or pairs i d).group ≤ (get_or pairs j d).group
    by (inl less) = group_below (get_or pairs i d) (get_or pairs j d) (rising_at compare_pairs pairs i j d rises less within)
    by (inr up) = let same : i ≡ j = omega (arith, low, up) in subst (λ (k : ℕ). (get_or pairs i d).group ≤ (get_or pairs k d).group) same (omega arith)

pub first_parted : (pairs : List Pair) (group : ℕ) → IsStrictlySortedBy compare_pairs pairs → IsPartitionedBy (λ (pair : Pair). nat_lt pair.group group) pairs
first_parted pairs group rises i j d low within passes =
    let less = ltb-true (get_or pairs j d).group group passes in
    let order = groups_rise pairs i j d rises low within in
    lt-ltb (get_or pairs i d).group group (omega (arith, less, order))

abbrev Parts : (Pair → Bool) → List Pair → ℕ → Type 0
Parts t pairs at = IsPartitionPoint (λ (pair : Pair). t pair ≡ true) (λ (pair : Pair). t pair ≡ false) pairs at

not_less : (a b : ℕ) → nat_lt a b ≡ false → b ≤ a
not_less a b e = elim (cases_lt a b) [ inl less ↦ absurd (false≢true (sym e ∙ lt-ltb a b less)) | inr up ↦ up ]

-- what is left has no group before
left_high : (pairs : List Pair) (group first k : ℕ) (d : Pair) → Parts (λ (pair : Pair). nat_lt pair.group group) pairs first → k < length (drop first pairs) → first ≤ length pairs → group ≤ (get_or (drop first pairs) k d).group
left_high pairs group first k d is within low =
    let size = length-drop first pairs in
    subst (λ (p : Pair). group ≤ p.group) (sym (get_or-drop first pairs k d))
    (not_less (get_or pairs (first + k) d).group group (is.1 (first + k) d (omega arith) (omega (arith, within, size, low))))

pub rest_parted : (pairs rest : List Pair) (group first : ℕ) → IsStrictlySortedBy compare_pairs pairs → Parts (λ (pair : Pair). nat_lt pair.group group) pairs first → first ≤ length pairs → rest ≡ drop first pairs → IsPartitionedBy (λ (pair : Pair). pair.group == group) rest
rest_parted pairs rest group first rises is low same = subst (λ (ps : List Pair). IsPartitionedBy (λ (pair : Pair). pair.group == group) ps) (sym same) here
  where
    here : IsPartitionedBy (λ (pair : Pair). pair.group == group) (drop first pairs)
    here i j d order within passes =
        let size = length-drop first pairs in
        let equal = eqb-true (get_or (drop first pairs) j d).group group passes in
        let high = left_high pairs group first i d is (omega (arith, order, within)) low in
        let up : (get_or (drop first pairs) i d).group ≤ (get_or (drop first pairs) j d).group =
        subst (λ (p : Pair). p.group ≤ (get_or (drop first pairs) j d).group) (sym (get_or-drop first pairs i d))
        (subst (λ (p : Pair). (get_or pairs (first + i) d).group ≤ p.group) (sym (get_or-drop first pairs j d))
        (groups_rise pairs (first + i) (first + j) d rises (omega (arith, order)) (omega (arith, within, size, low)))) in
        eq-eqb (get_or (drop first pairs) i d).group group (omega (arith, equal, high, up))

filter_all : (t : Pair → Bool) (xs : List Pair) → ((k : ℕ) (d : Pair) → k < length xs → t (get_or xs k d) ≡ true) → filter t xs ≡ xs
filter_all t [] all = refl
filter_all t (x ∷ xs) all = rw (all 0 x (omega arith)) (ap (λ (ys : List Pair). x ∷ ys) (filter_all t xs (λ k d low. all (suc k) d (omega (arith, low)))))

filter_none : (t : Pair → Bool) (xs : List Pair) → ((k : ℕ) (d : Pair) → k < length xs → t (get_or xs k d) ≡ false) → filter t xs ≡ []
filter_none t [] none = refl
filter_none t (x ∷ xs) none = rw (none 0 x (omega arith)) (filter_none t xs (λ k d low. none (suc k) d (omega (arith, low))))

-- a list by what passes in the middle of it
filter_at : (t : Pair → Bool) (xs : List Pair) (at : ℕ) → at ≤ length xs → filter t xs ≡ filter t (take at xs) ++ filter t (drop at xs)
filter_at t xs at low = ap (filter t) (sym (take-append-drop at xs)) ∙ filter-append t (take at xs) (drop at xs)

differ : (a b : ℕ) → (a ≡ b → ⊥) → (a == b) ≡ false
differ a b apart = elim (cases_Bool (a == b)) [ inl e ↦ absurd (apart (eqb-true a b e)) | inr e ↦ e ]

pub pairs_there : (pairs rest : List Pair) (group first count : ℕ) → IsStrictlySortedBy compare_pairs pairs → first ≤ length pairs → count ≤ length rest → rest ≡ drop first pairs
    → Parts (λ (pair : Pair). nat_lt pair.group group) pairs first → Parts (λ (pair : Pair). pair.group == group) rest count → take count rest ≡ filter (λ (pair : Pair). pair.group == group) pairs
pairs_there pairs rest group first count rises low few same before here =
    let t : Pair → Bool = λ (pair : Pair). pair.group == group in
    let front : filter t (take first pairs) ≡ [] = filter_none t (take first pairs) (λ k d within.
    let size = length-take first pairs in
    let less = ltb-true (get_or pairs k d).group group (before.0 k d (omega arith) (omega (arith, within, size))) in
    subst (λ (p : Pair). (p.group == group) ≡ false) (sym (get_or-take first pairs k d (omega (arith, within, size)))) (differ (get_or pairs k d).group group (λ e. absurd (omega (arith, e, less))))) in
    let middle : filter t (take count rest) ≡ take count rest = filter_all t (take count rest) (λ k d within.
    let size = length-take count rest in
    subst (λ (p : Pair). (p.group == group) ≡ true) (sym (get_or-take count rest k d (omega (arith, within, size)))) (here.0 k d (omega arith) (omega (arith, within, size)))) in
    let back : filter t (drop count rest) ≡ [] = filter_none t (drop count rest) (λ k d within.
    let size = length-drop count rest in
    subst (λ (p : Pair). (p.group == group) ≡ false) (sym (get_or-drop count rest k d)) (here.1 (count + k) d (omega arith) (omega (arith, within, size, few)))) in
    let rests : filter t rest ≡ take count rest = filter_at t rest count few ∙ (ap₂ (λ (xs ys : List Pair). xs ++ ys) middle back ∙ append-nil (take count rest)) in
    sym (filter_at t pairs first low ∙ (ap₂ (λ (xs ys : List Pair). xs ++ ys) front (ap (filter t) (sym same)) ∙ rests))

pub whole_rest : (pairs : List Pair) (first : ℕ) → take (length pairs - first) (drop first pairs) ≡ drop first pairs
whole_rest pairs first = let size = length-drop first pairs in take_all (length pairs - first) (drop first pairs) (omega (arith, size))
