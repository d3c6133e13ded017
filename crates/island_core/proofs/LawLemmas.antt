-- There is a least closed set, and one alone.
use Rattle.std.proofs.Common.{◌≡◌, ◌≢◌, ℕ, zero, suc, ◌<◌, ◌≤◌, ◌++◌, Bool, true, false, not, List, [], ◌∷◌, All, refl, inl, arith}
use Rattle.std.specs.List.{filter}
use Rattle.std.specs.List.Sorted.{IsStrictlySortedBy}
use Rattle.std.proofs.lemmas.List.Elements.{All-contains, All-from_recursion}
use Rattle.std.proofs.lemmas.List.Kept.{AllPairs-filter}
use Rattle.list_lemmas.proofs.Members.{In, Contains_from_in, all_from_in, from_filter}
use Rattle.list_lemmas.proofs.Rising.{rising_apart, rising_same}
use Rattle.sort_lemmas.proofs.Sorting.{rising_exists}
use Rattle.island_core.specs.Far.{IsClosed, IsFar, IsInTurn, IsScale, IsSet, compare_pairs, has, needs, same_pair}
use Rattle.island_core.specs.inner.Rounds.{new_pairs_of}
use Rattle.island_core.specs.declared.row.Pair.{Pair}
use Rattle.island_core.specs.declared.row.Row.{Row}
use Rattle.island_core.specs.declared.row.Scale.{Scale}
use Rattle.island_core.proofs.PairLemmas.{compare_pairs_total, in_from_has, itself, same_has, tied_pairs}
use Rattle.island_core.proofs.RoundLemmas.{IsBelow, ends, fewer, missing, next, starts}

once : (set : List Pair) → IsStrictlySortedBy compare_pairs set → IsSet set
once set rises = λ i j d low high. rising_apart compare_pairs_total set i j d rises low high

-- ---- it is one

member : (set other : List Pair) (pair : Pair) → All (λ (p : Pair). has other p ≡ true) set → In pair set → In pair other
member set other pair all h = in_from_has other pair (All-contains (λ (p : Pair). has other p ≡ true) set pair all (Contains_from_in set pair h))

pub one_set : (scale : Scale) (rows : List Row) (a b : List Pair) → IsFar scale rows a → IsFar scale rows b → a ≡ b
one_set scale rows a b p q =
    rising_same compare_pairs_total a b p.rises q.rises
    (λ t h. member a b t (p.least b (once b q.rises) q.closed) h)
    (λ t h. member b a t (q.least a (once a p.rises) p.closed) h)

-- ---- it exists

-- a round, where the rounds behind it are known
round : (scale : Scale) (rows : List Row) → IsScale scale → All IsInTurn rows → (set pairs : List Pair) → pairs ≡ new_pairs_of scale set rows → IsBelow scale rows set
    → ((all : List Pair) → IsBelow scale rows all → missing rows all < missing rows set → (far : List Pair) × IsFar scale rows far) → (far : List Pair) × IsFar scale rows far
round scale rows is turns set [] new below more = (set, ends scale rows set [] below new refl)
round scale rows is turns set (pair ∷ pairs) new below more =
    let all = rising_exists compare_pairs_total tied_pairs (set ++ pair ∷ pairs) in
    let same : (p : Pair) → has all.0 p ≡ has (set ++ pair ∷ pairs) p = λ p. same_has all.0 (set ++ pair ∷ pairs) p (all.3 p) (all.2 p) in
    more all.0 (next scale rows set (pair ∷ pairs) all.0 is turns below new same all.1) (fewer scale rows set (pair ∷ pairs) all.0 new same (λ e. cc))

rounds : (scale : Scale) (rows : List Row) → IsScale scale → All IsInTurn rows → (most : ℕ) (set : List Pair) → IsBelow scale rows set → missing rows set ≤ most → (far : List Pair) × IsFar scale rows far
rounds scale rows is turns zero set below few = round scale rows is turns set (new_pairs_of scale set rows) refl below (λ all more less. absurd (omega (arith, less, few)))
rounds scale rows is turns (suc most) set below few = round scale rows is turns set (new_pairs_of scale set rows) refl below (λ all more less. rounds scale rows is turns most all more (omega (arith, less, few)))

pub some_set : (scale : Scale) (rows : List Row) → IsScale scale → All IsInTurn rows → (far : List Pair) × IsFar scale rows far
some_set scale rows is turns = rounds scale rows is turns (missing rows []) [] (starts scale rows) (omega arith)

-- ---- none of it can be left out

clash : (b : Bool) → b ≡ true → not b ≡ true → ⊥
clash true e g = cc
clash false e g = cc

pub needed : (scale : Scale) (rows : List Row) (far : List Pair) (pair : Pair) → IsFar scale rows far → has far pair ≡ true → IsClosed scale rows (filter (λ (other : Pair). not (same_pair other pair)) far) → ⊥
needed scale rows far pair is there closed =
    let rest = filter (λ (other : Pair). not (same_pair other pair)) far in
    let all = is.least rest (AllPairs-filter (λ (a : Pair) (b : Pair). a ≢ b) (λ (other : Pair). not (same_pair other pair)) far (once far is.rises)) closed in
    let here = member far rest pair all (in_from_has far pair there) in
    clash (same_pair pair pair) (itself pair) (from_filter (λ (other : Pair). not (same_pair other pair)) far pair here).1

-- ---- nothing far, no islands

none_in : (far : List Pair) → ((pair : Pair) → In pair far → ⊥) → far ≡ []
none_in [] none = refl
none_in (pair ∷ far) none = absurd (none pair (inl refl))

unneeded : (b : Bool) → b ≡ false → b ≡ true → ⊥
unneeded true e f = cc
unneeded false e f = cc

pub no_far : (scale : Scale) (rows : List Row) (far : List Pair) → IsFar scale rows far → All (λ (row : Row). needs scale [] row ≡ false) rows → far ≡ []
no_far scale rows far is all =
    let closed : IsClosed scale rows [] = All-from_recursion (λ (row : Row). needs scale [] row ≡ true → has [] row.pair ≡ true) rows
    (all_from_in (λ (row : Row). needs scale [] row ≡ true → has [] row.pair ≡ true) rows
    (λ row h out. absurd (unneeded (needs scale [] row) (All-contains (λ (r : Row). needs scale [] r ≡ false) rows row all (Contains_from_in rows row h)) out))) in
    none_in far (λ pair h. member far [] pair (is.least [] (λ i j d low high. absurd (omega (arith, high))) closed) h)
