-- Each list has its elements in order, and each of them once.
use Rattle.std.proofs.Common.{◌≡◌, ℕ, zero, suc, ◌+◌, ◌<◌, Bool, true, false, List, [], ◌∷◌, ◌++◌, length, get_or, Contains, refl, sym, ap, subst, ◌∙◌, arith, if◌then◌else◌}
use Rattle.std.specs.List.{dedup}
use Rattle.std.specs.List.Sorted.{IsPermutation, IsSorted, IsStrictlySortedBy}
use Rattle.std.specs.declared.cmp.Ordering.{Ordering}
use Rattle.std.specs.declared.cmp.Ordering.TheVariants.{Less, Equal, Greater}
use Rattle.std.specs.Ordering.{eq_by_cmp, is_eq, is_lt, ordering_reverse}
use Rattle.std.specs.Cmp.{IsEquivalence, IsTotalOrder}
use Rattle.std.proofs.lemmas.Cmp.{tied_itself}
use Rattle.std.proofs.lemmas.List.Kept.{Contains-dedup, Contains-from_dedup, IsStrictlySortedBy-dedup}
use Rattle.std.proofs.lemmas.List.Sorted.{Contains-permutation, IsPermutation-cons, IsPermutation-middle, IsPermutation-refl, IsPermutation-sym, IsPermutation-trans}

-- ---- an element in its place

-- before the first element that isn't less
placed : {X : Type 0} (R : X → X → Ordering) → X → List X → List X
placed R x [] = x ∷ []
placed R x (y ∷ ys) = if is_lt (R y x) then y ∷ placed R x ys else x ∷ y ∷ ys

-- the first element of a list, if it has one, isn't less
abbrev IsUnder : {X : Type 0} → (X → X → Ordering) → X → List X → Type 0
IsUnder R x [] = Unit {0}
IsUnder R x (y ∷ ys) = is_lt (R y x) ≡ false

abbrev AreUp : {X : Type 0} → (X → X → Ordering) → List X → Type 0
AreUp R [] = Unit {0}
AreUp R (x ∷ xs) = IsUnder R x xs × AreUp R xs

turned : {X : Type 0} {R : X → X → Ordering} (o : IsTotalOrder R) (x y : X) → is_lt (R y x) ≡ true → is_lt (R x y) ≡ false
turned {R = R} o x y e = ap is_lt (o.antisymm x y) ∙ by (R y x) e
  where
    by : (r : Ordering) → is_lt r ≡ true → is_lt (ordering_reverse r) ≡ false
    by Less f = refl
    by Equal f = refl
    by Greater f = sym f

under_placed : {X : Type 0} {R : X → X → Ordering} (o : IsTotalOrder R) (x y : X) (ys : List X) → is_lt (R y x) ≡ true → IsUnder R y ys → IsUnder R y (placed R x ys)
unfolding placed
under_placed o x y [] less under = turned o x y less
under_placed {R = R} o x y (z ∷ zs) less under = by (is_lt (R z x))
  where
    by : (b : Bool) → IsUnder R y (if b then z ∷ placed R x zs else x ∷ z ∷ zs)
    by true = under
    by false = turned o x y less

up_placed : {X : Type 0} {R : X → X → Ordering} (o : IsTotalOrder R) (x : X) (ys : List X) → AreUp R ys → AreUp R (placed R x ys)
unfolding placed
up_placed o x [] up = (tt, tt)
up_placed {R = R} o x (y ∷ ys) up = by (up_placed o x ys up.1) (is_lt (R y x)) refl
  where
    by : AreUp R (placed R x ys) → (b : Bool) → is_lt (R y x) ≡ b → AreUp R (if b then y ∷ placed R x ys else x ∷ y ∷ ys)
    by rest true e = (under_placed o x y ys e up.0, rest)
    by rest false e = (e, up)

moved_placed : {X : Type 0} (R : X → X → Ordering) (x : X) (ys : List X) → IsPermutation (x ∷ ys) (placed R x ys)
unfolding placed
moved_placed R x [] = IsPermutation-refl (x ∷ [])
moved_placed R x (y ∷ ys) = by (moved_placed R x ys) (is_lt (R y x))
  where
    by : IsPermutation (x ∷ ys) (placed R x ys) → (b : Bool) → IsPermutation (x ∷ y ∷ ys) (if b then y ∷ placed R x ys else x ∷ y ∷ ys)
    by rest true =
        IsPermutation-trans (x ∷ y ∷ ys) (y ∷ x ∷ ys) (y ∷ placed R x ys)
        (IsPermutation-sym (y ∷ x ∷ ys) (x ∷ y ∷ ys) (IsPermutation-middle (y ∷ []) x ys))
        (IsPermutation-cons y (x ∷ ys) (placed R x ys) rest)
    by rest false = IsPermutation-refl (x ∷ y ∷ ys)

-- ---- all of them

up_at : {X : Type 0} (R : X → X → Ordering) (xs : List X) (k : ℕ) (d : X) → AreUp R xs → k + 1 < length xs → is_lt (R (get_or xs (k + 1) d) (get_or xs k d)) ≡ false
up_at R [] k d up low = absurd (omega arith)
up_at R (x ∷ []) k d up low = absurd (omega arith)
up_at {X = X} R (x ∷ y ∷ ys) zero d up low = up.0
up_at {X = X} R (x ∷ y ∷ ys) (suc k) d up low =
    let e : suc k + 1 ≡ suc (k + 1) = omega arith in
    subst (λ (n : ℕ). is_lt (R (get_or (x ∷ y ∷ ys) n d) (get_or (y ∷ ys) k d)) ≡ false) (sym e) (up_at R (y ∷ ys) k d up.1 (omega arith))

-- the elements of a list in order, as often as it has them
pub record IsInOrder {X : Type 0} (R : X → X → Ordering) (xs : List X) : Type 0 where
  pub all : List X
  pub moved : IsPermutation xs all
  pub up : AreUp R all

in_order : {X : Type 0} {R : X → X → Ordering} → IsTotalOrder R → (xs : List X) → IsInOrder R xs
in_order o [] = record { all = []; moved = IsPermutation-refl []; up = tt }
in_order {R = R} o (x ∷ xs) =
    let rest = in_order o xs in
    record {
      all = placed R x rest.all;
      moved = IsPermutation-trans (x ∷ xs) (x ∷ rest.all) (placed R x rest.all) (IsPermutation-cons x xs rest.all rest.moved) (moved_placed R x rest.all);
      up = up_placed o x rest.all rest.up;
    }

pub sorted_exists : {X : Type 0} {R : X → X → Ordering} → IsTotalOrder R → (xs : List X) → (all : List X) × IsPermutation xs all × IsSorted R all
sorted_exists {R = R} o xs = let is = in_order o xs in (is.all, is.moved, (λ k d low high. up_at R is.all k d is.up high))

-- ---- each of them once

equal_of : (r : Ordering) → is_eq r ≡ true → r ≡ Equal
equal_of Less e = cc
equal_of Equal e = refl
equal_of Greater e = cc

same_answer : (a b : Bool) → (a ≡ true → b ≡ true) → (b ≡ true → a ≡ true) → a ≡ b
same_answer true true f g = refl
same_answer true false f g = sym (f refl)
same_answer false true f g = g refl
same_answer false false f g = refl

-- where what ties is the same
pub rising_exists : {K : Type 0} {R : K → K → Ordering} → IsTotalOrder R → ((a b : K) → R a b ≡ Equal → a ≡ b) → (xs : List K)
    → (all : List K) × IsStrictlySortedBy R all × ((x : K) → Contains xs x → Contains all x) × ((x : K) → Contains all x → Contains xs x)
rising_exists {K = K} {R = R} o same xs =
    let is = sorted_exists o xs in (
      dedup (eq_by_cmp R) is.0,
      IsStrictlySortedBy-dedup o (λ x y. refl) is.0 is.2,
      (λ x h. Contains-dedup equivalence one is.0 x (Contains-permutation xs is.0 x is.1 h)),
      (λ x h. Contains-permutation is.0 xs x (IsPermutation-sym xs is.0 is.1) (Contains-from_dedup (eq_by_cmp R) is.0 x h)),
    )
  where
    one : (a b : K) → eq_by_cmp R a b ≡ true → a ≡ b
    one a b e = same a b (equal_of (R a b) e)

    itself : (a : K) → eq_by_cmp R a a ≡ true
    itself a = ap is_eq (tied_itself o a)

    equivalence : IsEquivalence (eq_by_cmp R)
    equivalence = record {
      refl = itself;
      symm = λ a b. same_answer (eq_by_cmp R a b) (eq_by_cmp R b a)
          (λ e. subst (λ (k : K). eq_by_cmp R k a ≡ true) (one a b e) (itself a))
          (λ e. subst (λ (k : K). eq_by_cmp R k b ≡ true) (one b a e) (itself b));
      congr = λ a b c e. ap (λ (k : K). eq_by_cmp R k c) (one a b e);
    }
