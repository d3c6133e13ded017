-- What holds of each two elements of a list, in either order, holds in any order of these elements.
use Rattle.std.proofs.Common.{◌≡◌, ◌≢◌, ℕ, ◌+◌, ◌<◌, ◌≤◌, ◌⊎◌, ◌-◌, Bool, true, false, not, IsTrue, List, length, get_or, refl, sym, ap, ◌∙◌, inl, inr, arith, IsPermutation}
use Rattle.std.specs.Cmp.{nat_cmp_is}
use Rattle.std.specs.List.{AllAdjacentBelow, AllPairs, IsAllAdjacentAnswer, swap}
use Rattle.std.specs.List.Sorted.{IsStrictlySortedBy, IsNonDecreasingBy}
use Rattle.std.specs.Ordering.{nat_cmp, on}
use Rattle.std.specs.declared.cmp.Ordering.TheVariants.{Less}
use Rattle.std.proofs.lemmas.Bool.{cases_eq, cases_lt, false≢true, lt-ltb}
use Rattle.std.proofs.lemmas.Cmp.{nat_cmp_total, on_total}
use Rattle.std.proofs.lemmas.List.Edits.{length-swap, swapped_from_swap}
use Rattle.std.proofs.lemmas.List.Sorted.{Contains-permutation, IsPermutation-keeps, IsPermutation-sym, IsNonDecreasingBy-from_sort, IsNonDecreasingBy-from_all_adjacent}
use Rattle.list_lemmas.proofs.Members.{Contains_from_in, in_from_Contains}
use Rattle.list_lemmas.proofs.Rising.{rising_same}
use Rattle.symbol_winners.proofs.OneListLemmas.{rising_from_pairs}
use Rattle.sort_lemmas.proofs.Sorting.{sorted_exists}
use Rattle.ref_meet.specs.inner.Apart.{has_eight}

abbrev pub IsMutual : {X : Type 0} → (X → X → Type 0) → Type 0
IsMutual {X = X} R = (a b : X) → R a b → R b a

either_way : {X : Type 0} (R : X → X → Type 0) → IsMutual R → (xs : List X) (p q : ℕ) (d : X) → AllPairs R xs → p ≢ q → p < length xs → q < length xs → R (get_or xs p d) (get_or xs q d)
either_way R both xs p q d all apart low high = elim (cases_lt p q) [
  | inl less ↦ all p q d less high
  | inr more ↦ both (get_or xs q d) (get_or xs p d) (all q p d (omega (arith, more, apart)) low)
]

-- where an element stood before a swap
abbrev Came : {X : Type 0} → List X → List X → ℕ → X → ℕ → Type 0
Came xs ys k d p = (p < length xs) × (get_or ys k d ≡ get_or xs p d)

swapped : {X : Type 0} (R : X → X → Type 0) → IsMutual R → (xs : List X) (i j : ℕ) → i < length xs → j < length xs → AllPairs R xs → AllPairs R (swap xs i j)
swapped {X = X} R both xs i j in_i in_j all = λ m n d low high.
    let size : length (swap xs i j) ≡ length xs = length-swap xs i j in
    let moved = swapped_from_swap xs (swap xs i j) i j d in_i in_j refl in
    from m n d (omega (arith, low)) (elim (cases_eq m i) [
      | inl e ↦ elim (cases_eq n j) [
        | inl f ↦ (j, i, omega (arith, low, e, f), in_j, in_i, ap (λ (k : ℕ). get_or (swap xs i j) k d) e ∙ moved.0, ap (λ (k : ℕ). get_or (swap xs i j) k d) f ∙ moved.1)
        | inr g ↦ (j, n, (λ h. g (sym h)), in_j, omega (arith, high, size), ap (λ (k : ℕ). get_or (swap xs i j) k d) e ∙ moved.0, moved.2 n (λ h. omega (arith, low, e, h)) g)
      ]
      | inr away ↦ elim (cases_eq m j) [
        | inl e ↦ elim (cases_eq n i) [
          | inl f ↦ (i, j, omega (arith, low, e, f), in_i, in_j, ap (λ (k : ℕ). get_or (swap xs i j) k d) e ∙ moved.1, ap (λ (k : ℕ). get_or (swap xs i j) k d) f ∙ moved.0)
          | inr g ↦ (i, n, (λ h. g (sym h)), in_i, omega (arith, high, size), ap (λ (k : ℕ). get_or (swap xs i j) k d) e ∙ moved.1, moved.2 n g (λ h. omega (arith, low, e, h)))
        ]
        | inr off ↦ elim (cases_eq n i) [
          | inl f ↦ (m, j, off, omega (arith, low, high, size), in_j, moved.2 m away off, ap (λ (k : ℕ). get_or (swap xs i j) k d) f ∙ moved.0)
          | inr g ↦ elim (cases_eq n j) [
            | inl f ↦ (m, i, away, omega (arith, low, high, size), in_i, moved.2 m away off, ap (λ (k : ℕ). get_or (swap xs i j) k d) f ∙ moved.1)
            | inr h ↦ (m, n, omega (arith, low), omega (arith, low, high, size), omega (arith, high, size), moved.2 m away off, moved.2 n g h)
          ]
        ]
      ]
    ])
  where
    from : (m n : ℕ) (d : X) → m ≢ n → (p : ℕ) × (q : ℕ) × (p ≢ q) × (p < length xs) × (q < length xs) × (get_or (swap xs i j) m d ≡ get_or xs p d) × (get_or (swap xs i j) n d ≡ get_or xs q d) → R (get_or (swap xs i j) m d) (get_or (swap xs i j) n d)
    from m n d apart (p, q, differ, low, high, is_m, is_n) = rw (is_m, is_n) (either_way R both xs p q d all differ low high)

pub pairs_permuted : {X : Type 0} (R : X → X → Type 0) → IsMutual R → (xs ys : List X) → IsPermutation xs ys → AllPairs R xs → AllPairs R ys
pairs_permuted R both xs ys moves all = IsPermutation-keeps xs (AllPairs R) all (λ l i j in_i in_j here. swapped R both l i j in_i in_j here) ys moves

-- ---- by numbers

-- one of two ends where the other begins or before, each of 8 units from its number on
abbrev pub AreBy : {X : Type 0} → (X → ℕ) → X → X → Type 0
AreBy n a b = (n a + 8 ≤ n b) ⊎ (n b + 8 ≤ n a)

abbrev pub AreUp : {X : Type 0} → (X → ℕ) → List X → Type 0
AreUp n xs = AllPairs (λ a b. n a + 8 ≤ n b) xs

pub by_mutual : {X : Type 0} (n : X → ℕ) → IsMutual (AreBy n)
by_mutual n a b (inl h) = inr h
by_mutual n a b (inr h) = inl h

pub spread_up : {X : Type 0} (n : X → ℕ) (xs : List X) → IsNonDecreasingBy n xs → AllPairs (AreBy n) xs → AreUp n xs
spread_up n xs up spread = λ i j d low high. elim (spread i j d low high) [
  | inl h ↦ h
  | inr h ↦ let rises = up i j d (omega (arith, low)) high in absurd (omega (arith, h, rises))
]

pub sorted_up : {X : Type 0} (n : X → ℕ) (xs ys : List X) → IsPermutation xs ys → IsNonDecreasingBy n ys → AllPairs (AreBy n) xs → AreUp n ys
sorted_up n xs ys moves up spread = spread_up n ys up (pairs_permuted (AreBy n) (by_mutual n) xs ys moves spread)

pub up_exists : {X : Type 0} (n : X → ℕ) (xs : List X) → AllPairs (AreBy n) xs → (ys : List X) × IsPermutation xs ys × AreUp n ys
up_exists n xs spread =
    let is = sorted_exists (on_total n nat_cmp_total) xs in
    (is.0, is.1, sorted_up n xs is.0 is.1 (IsNonDecreasingBy-from_sort n is.0 is.2) spread)

less : (a b : ℕ) → a < b → nat_cmp a b ≡ Less
less a b h = sym (nat_cmp_is a b Less h)

rising : {X : Type 0} (n : X → ℕ) (xs : List X) → AreUp n xs → IsStrictlySortedBy (on n nat_cmp) xs
rising n xs up = rising_from_pairs (on n nat_cmp) xs (λ i j d low high. less (n (get_or xs i d)) (n (get_or xs j d)) (omega (arith, up i j d low high)))

pub one_order : {X : Type 0} (n : X → ℕ) (all xs ys : List X) → AreUp n xs → AreUp n ys → IsPermutation all xs → IsPermutation all ys → xs ≡ ys
one_order n all xs ys up_x up_y moved_x moved_y =
    rising_same (on_total n nat_cmp_total) xs ys (rising n xs up_x) (rising n ys up_y)
    (λ t h. in_from_Contains ys t (Contains-permutation all ys t moved_y (Contains-permutation xs all t (IsPermutation-sym all xs moved_x) (Contains_from_in xs t h))))
    (λ t h. in_from_Contains xs t (Contains-permutation all xs t moved_x (Contains-permutation ys all t (IsPermutation-sym all ys moved_y) (Contains_from_in ys t h))))

-- ---- next to each other

up_from_adjacent : {X : Type 0} (n : X → ℕ) (xs : List X) → AllAdjacentBelow (λ x y. n x + 8 ≤ n y) xs (length xs) → AreUp n xs
up_from_adjacent {X = X} n xs next = λ i j d low high.
    let here : n (get_or xs i d) + 8 ≤ n (get_or xs (i + 1) d) = next i d (omega (arith, low, high)) in
    let later : n (get_or xs (i + 1) d) ≤ n (get_or xs j d) = rises (i + 1) j d (omega (arith, low)) high in
    omega (arith, here, later)
  where
    weaker : AllAdjacentBelow (λ x y. n x ≤ n y) xs (length xs)
    weaker k d low = omega (arith, next k d low)

    rises : IsNonDecreasingBy n xs
    rises = IsNonDecreasingBy-from_all_adjacent n xs weaker

eight : (a b : ℕ) → true ≡ has_eight a b → a + 8 ≤ b
eight a b e = elim (cases_lt (b - a) 8) [
  | inl less ↦ absurd (let low : has_eight a b ≡ false = ap not (lt-ltb (b - a) 8 less) in false≢true (sym low ∙ sym e))
  | inr enough ↦ omega (arith, enough)
]

pub up_answer : {X : Type 0} (n : X → ℕ) (xs : List X) (r : Bool) → IsAllAdjacentAnswer (λ x y b. b ≡ has_eight (n x) (n y)) xs r → IsTrue r → AreUp n xs
up_answer n xs true answer holds = up_from_adjacent n xs (λ k d low. eight (n (get_or xs k d)) (n (get_or xs (k + 1) d)) (answer k d low))
up_answer n xs false answer holds = absurd (false≢true holds)
