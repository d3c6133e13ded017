-- The rounds: what they find is in every closed set, and where they find no more it is closed itself.
use Rattle.std.proofs.Common.{Err, Global, IfOk, Ok, Result, Vec, ◌≡◌, ℕ, ◌+◌, ◌<◌, ◌≤◌, ◌⊎◌, ◌++◌, ◌&&◌, ◌==◌, Bool, true, false, not, cond, List, [], ◌∷◌, length, get_or, take, map, append-nil, All, count_by, refl, sym, ap, subst, ◌∙◌, inl, inr, arith}
use Rattle.std.specs.List.{filter}
use Rattle.std.specs.List.Sorted.{IsStrictlySortedBy}
use Rattle.std.proofs.lemmas.Bool.{cases_Bool, eqb-true}
use Rattle.std.proofs.lemmas.List.{map-append, nil_from_length, take_all, take_more}
use Rattle.std.proofs.lemmas.List.Elements.{All-contains, All-from_recursion, filter-append}
use Rattle.std.proofs.lemmas.List.Sums.{sum_by-append}
use Rattle.list_lemmas.proofs.Members.{In, Contains_from_in, all_from_in, from_filter, from_map, in_either, in_filter, in_left, in_map, in_right}
use Rattle.island_core.specs.Far.{ArePairs, IsClosed, IsFar, IsInTurn, IsScale, IsSet, compare_pairs, has, is_grouped, needs, IsRow, in_reach, in_reach_by, takes}
use Rattle.island_core.specs.inner.Rounds.{IsMoves, is_new, new_pairs_of, picked}
use Rattle.island_core.specs.declared.row.Pair.{Pair}
use Rattle.island_core.specs.declared.row.Row.{Row}
use Rattle.island_core.specs.declared.row.Scale.{Scale}
use Rattle.island_core.proofs.PairLemmas.{has_from_in, in_from_has}
use Rattle.island_core.proofs.MoveLemmas.{needs_more}

abbrev IsIn : List Pair → Pair → Type 0
IsIn set pair = has set pair ≡ true

-- a set in order, which every closed set has
pub record IsBelow (scale : Scale) (rows : List Row) (set : List Pair) : Type 0 where
  pub rises : IsStrictlySortedBy compare_pairs set
  pub least : (other : List Pair) → IsSet other → IsClosed scale rows other → All (λ (pair : Pair). has other pair ≡ true) set

pub starts : (scale : Scale) (rows : List Row) → IsBelow scale rows []
unfolding IsStrictlySortedBy
starts scale rows = record { rises = tt; least = λ other once closed. All-from_recursion (IsIn other) [] tt }

new_pair : (scale : Scale) (set : List Pair) (rows : List Row) (pair : Pair) → In pair (new_pairs_of scale set rows) → (row : Row) × In row rows × (needs scale set row ≡ true) × (has set row.pair ≡ false) × (row.pair ≡ pair)
unfolding picked
new_pair scale set rows pair h =
    let found : (row : Row) × In row (filter (is_new scale set) rows) × (row.pair ≡ pair) = from_map (λ (row : Row). row.pair) (filter (is_new scale set) rows) pair h in
    let passed = from_filter (is_new scale set) rows found.0 found.1 in
    let parts = both (needs scale set found.0) (has set found.0.pair) passed.1 in
    (found.0, passed.0, parts.0, parts.1, found.2)
  where
    both : (a b : Bool) → (a && not b) ≡ true → (a ≡ true) × (b ≡ false)
    both true true e = cc
    both true false e = (refl, refl)
    both false b e = cc

pub next : (scale : Scale) (rows : List Row) (set pairs all : List Pair) → IsScale scale → All IsInTurn rows → IsBelow scale rows set → pairs ≡ new_pairs_of scale set rows
    → ((pair : Pair) → has all pair ≡ has (set ++ pairs) pair) → IsStrictlySortedBy compare_pairs all → IsBelow scale rows all
next scale rows set pairs all is turns below new same rises = record {
  rises = rises;
  least = λ other once closed. All-from_recursion (IsIn other) all (all_from_in (IsIn other) all (λ pair h.
      by other closed (below.least other once closed) pair (in_either set pairs pair (in_from_has (set ++ pairs) pair (sym (same pair) ∙ has_from_in all pair h)))));
}
  where
    by : (other : List Pair) → IsClosed scale rows other → All (λ (pair : Pair). has other pair ≡ true) set → (pair : Pair) → In pair set ⊎ In pair pairs → has other pair ≡ true
    by other closed old pair (inl h) = All-contains (IsIn other) set pair old (Contains_from_in set pair h)
    by other closed old pair (inr h) =
        let found : (row : Row) × In row rows × (needs scale set row ≡ true) × (has set row.pair ≡ false) × (row.pair ≡ pair) = new_pair scale set rows pair (subst (λ (ps : List Pair). In pair ps) new h) in
        let turn = All-contains IsInTurn rows found.0 turns (Contains_from_in rows found.0 found.1) in
        let more = needs_more scale set other found.0 is.least_unit is.least_reach (record { rises = below.rises; all = old }) turn found.2 in
        subst (λ (p : Pair). has other p ≡ true) found.4
        (All-contains (λ (row : Row). needs scale other row ≡ true → has other row.pair ≡ true) rows found.0 closed (Contains_from_in rows found.0 found.1) more)

pub ends : (scale : Scale) (rows : List Row) (set pairs : List Pair) → IsBelow scale rows set → pairs ≡ new_pairs_of scale set rows → pairs ≡ [] → IsFar scale rows set
unfolding picked
ends scale rows set pairs below new none = record {
  closed = All-from_recursion (λ (row : Row). needs scale set row ≡ true → has set row.pair ≡ true) rows
      (all_from_in (λ (row : Row). needs scale set row ≡ true → has set row.pair ≡ true) rows (λ row h out. by row h out (cases_Bool (has set row.pair))));
  least = below.least;
  rises = below.rises;
}
  where
    by : (row : Row) → In row rows → needs scale set row ≡ true → (has set row.pair ≡ true) ⊎ (has set row.pair ≡ false) → has set row.pair ≡ true
    by row h out (inl there) = there
    by row h out (inr away) =
        let is : is_new scale set row ≡ true = rw (out, away) refl in
        absurd (subst (λ (ps : List Pair). In row.pair ps) (sym new ∙ none) (in_map (λ (r : Row). r.pair) (filter (is_new scale set) rows) row (in_filter (is_new scale set) rows row h is)))

-- ---- what a round finds, branch by branch

pub by_moves : (scale : Scale) (set : List Pair) (moves : List ℕ) (row : Row) (result : Bool) → IsMoves scale set moves → IsRow scale row
    → result ≡ takes row.case
    (not (in_reach scale.reach (row.from + get_or moves row.pair.group 0) (row.to + get_or moves row.zone 0)))
    (not (in_reach_by scale.reach scale.slack row.from row.to)) → result ≡ needs scale set row
by_moves scale set moves row result is there e = e ∙ rw (is.each row.pair.group there.group, is.each row.zone there.zone) refl

pub is_new_yes : (a b : Bool) → a ≡ true → b ≡ false → (a && not b) ≡ true
is_new_yes true false e f = refl
is_new_yes true true e f = cc
is_new_yes false b e f = cc

pub is_new_had : (a b : Bool) → b ≡ true → (a && not b) ≡ false
is_new_had true true f = refl
is_new_had true false f = cc
is_new_had false b f = refl

pub is_new_no : (a b : Bool) → a ≡ false → (a && not b) ≡ false
is_new_no false b f = refl
is_new_no true b f = cc

pub empty : (xs : List Pair) → true ≡ (length xs == 0) → xs ≡ []
empty xs e = nil_from_length xs (eqb-true (length xs) 0 (sym e))

pub not_empty : (xs : List Pair) → false ≡ (length xs == 0) → xs ≡ [] → ⊥
not_empty [] e none = cc
not_empty (x ∷ xs) e none = cc

pub more_picked : (test : Row → Bool) (rows : List Row) (i : ℕ) (d : Row) (pairs all : List Pair) → i < length rows → test (get_or rows i d) ≡ true
    → pairs ≡ picked test (take i rows) → all ≡ pairs ++ (get_or rows i d).pair ∷ [] → all ≡ picked test (take (i + 1) rows)
unfolding picked
more_picked test rows i d pairs all low passes so pushed =
    let row : Row = get_or rows i d in
    let last : filter test (row ∷ []) ≡ row ∷ [] = rw passes refl in
    pushed ∙ (ap (λ (ps : List Pair). ps ++ row.pair ∷ []) so
    ∙ sym (ap (λ (rs : List Row). map (λ (r : Row). r.pair) (filter test rs)) (take_more rows i d low)
    ∙ (ap (λ (rs : List Row). map (λ (r : Row). r.pair) rs) (filter-append test (take i rows) (row ∷ []))
    ∙ (map-append (λ (r : Row). r.pair) (filter test (take i rows)) (filter test (row ∷ []))
    ∙ ap (λ (rs : List Row). map (λ (r : Row). r.pair) (filter test (take i rows)) ++ map (λ (r : Row). r.pair) rs) last))))

pub none_picked : (test : Row → Bool) (rows : List Row) (i : ℕ) (d : Row) (pairs all : List Pair) → i < length rows → test (get_or rows i d) ≡ false
    → pairs ≡ picked test (take i rows) → all ≡ pairs → all ≡ picked test (take (i + 1) rows)
unfolding picked
none_picked test rows i d pairs all low fails so stays =
    let row : Row = get_or rows i d in
    let last : filter test (row ∷ []) ≡ [] = rw fails refl in
    stays ∙ (so ∙ sym (ap (λ (rs : List Row). map (λ (r : Row). r.pair) (filter test rs)) (take_more rows i d low)
    ∙ (ap (λ (rs : List Row). map (λ (r : Row). r.pair) rs) (filter-append test (take i rows) (row ∷ []))
    ∙ (map-append (λ (r : Row). r.pair) (filter test (take i rows)) (filter test (row ∷ []))
    ∙ (ap (λ (rs : List Row). map (λ (r : Row). r.pair) (filter test (take i rows)) ++ map (λ (r : Row). r.pair) rs) last ∙ append-nil _)))))

pub all_picked : (test : Row → Bool) (rows : List Row) (i : ℕ) (pairs : List Pair) → length rows ≤ i → pairs ≡ picked test (take i rows) → pairs ≡ picked test rows
all_picked test rows i pairs past so = so ∙ ap (picked test) (take_all i rows past)

-- the pairs that were picked, in order and each once
pub set_of : {E : Type 0} (rows : List Row) (pairs : List Pair) (result : Result (Vec Pair Global) E) → pairs ≡ picked (λ (row : Row). is_grouped row.case) rows
    → IfOk result (λ (set : Vec Pair Global). (pair : Pair) → has set.items pair ≡ has pairs pair) → IfOk result (λ (set : Vec Pair Global). IsStrictlySortedBy compare_pairs set.items)
    → IfOk result (λ (set : Vec Pair Global). ArePairs rows set.items)
unfolding picked
set_of rows pairs (Ok set) is same rises = record { rises = rises; same = λ pair. same pair ∙ ap (λ (ps : List Pair). has ps pair) is }
set_of rows pairs (Err e) is same rises = tt

-- ---- each round leaves fewer branches that could be found

-- how many branches' pairs a set doesn't have
abbrev pub missing : List Row → List Pair → ℕ
missing rows set = count_by (λ (row : Row). not (has set row.pair)) rows

one : (Row → Bool) → Row → ℕ
one p x = cond (p x) 1 0

count_cons : (p : Row → Bool) (x : Row) (xs : List Row) → count_by p (x ∷ xs) ≡ one p x + count_by p xs
unfolding one
count_cons p x xs = sum_by-append (λ (y : Row). cond (p y) 1 0) (x ∷ []) xs ∙ omega arith

no_more : (p q : Row → Bool) (x : Row) → (q x ≡ true → p x ≡ true) → one q x ≤ one p x
unfolding one
no_more p q x f = by (q x) (p x) f
  where
    by : (a b : Bool) → (a ≡ true → b ≡ true) → cond a 1 0 ≤ cond b 1 0
    by true true f = omega arith
    by true false f = let e = f refl in cc
    by false b f = omega arith

count_no_more : (p q : Row → Bool) (xs : List Row) → ((x : Row) → q x ≡ true → p x ≡ true) → count_by q xs ≤ count_by p xs
count_no_more p q [] f = omega arith
count_no_more p q (x ∷ xs) f = omega (arith, count_no_more p q xs f, no_more p q x (f x), count_cons p x xs, count_cons q x xs)

count_less : (p q : Row → Bool) (xs : List Row) (x : Row) → ((y : Row) → q y ≡ true → p y ≡ true) → In x xs → p x ≡ true → q x ≡ false → count_by q xs < count_by p xs
unfolding one
count_less p q [] x f h e g = absurd h
count_less p q (y ∷ ys) x f (inl same) e g =
    let e' : one p y ≡ 1 = ap (λ (r : Row). one p r) same ∙ ap (λ (b : Bool). cond b 1 0) e in
    let g' : one q y ≡ 0 = ap (λ (r : Row). one q r) same ∙ ap (λ (b : Bool). cond b 1 0) g in
    omega (arith, e', g', count_no_more p q ys f, count_cons p y ys, count_cons q y ys)
count_less p q (y ∷ ys) x f (inr h) e g = omega (arith, count_less p q ys x f h e g, no_more p q y (f y), count_cons p y ys, count_cons q y ys)

clash : (b : Bool) → b ≡ true → not b ≡ true → ⊥
clash true e g = cc
clash false e g = cc

pub fewer : (scale : Scale) (rows : List Row) (set pairs all : List Pair) → pairs ≡ new_pairs_of scale set rows → ((pair : Pair) → has all pair ≡ has (set ++ pairs) pair) → (pairs ≡ [] → ⊥) → missing rows all < missing rows set
fewer scale rows set [] all new same some = absurd (some refl)
fewer scale rows set (pair ∷ pairs) all new same some =
    let found : (row : Row) × In row rows × (needs scale set row ≡ true) × (has set row.pair ≡ false) × (row.pair ≡ pair) = new_pair scale set rows pair (subst (λ (ps : List Pair). In pair ps) new (inl refl)) in
    let there : has all found.0.pair ≡ true = same found.0.pair ∙ has_from_in (set ++ pair ∷ pairs) found.0.pair (in_right set (pair ∷ pairs) found.0.pair (inl (sym found.4))) in
    count_less (λ (row : Row). not (has set row.pair)) (λ (row : Row). not (has all row.pair)) rows found.0 (λ row e. by row e (cases_Bool (has set row.pair))) found.1 (ap not found.3) (ap not there)
  where
    by : (row : Row) → not (has all row.pair) ≡ true → (has set row.pair ≡ true) ⊎ (has set row.pair ≡ false) → not (has set row.pair) ≡ true
    by row e (inl old) =
        let there : has all row.pair ≡ true = same row.pair ∙ has_from_in (set ++ pair ∷ pairs) row.pair (in_left set (pair ∷ pairs) row.pair (in_from_has set row.pair old)) in
        absurd (clash (has all row.pair) there e)
    by row e (inr away) = rw away refl
