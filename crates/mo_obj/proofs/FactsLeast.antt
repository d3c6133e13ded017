-- The least place of which something holds.
use Rattle.std.proofs.Common.{◌≡◌, ◌⊎◌, ℕ, zero, suc, ◌+◌, ◌<◌, ◌≤◌, min, Bool, true, false, cond, List, [], ◌∷◌, filter, find, slice_get, Option, Some, None, inl, inr, ⊎_elim, refl, sym, ap, subst, arith}
use Rattle.mo_obj.specs.Commands.{lesser}
use Rattle.mo_obj.specs.Rules.{IsIn, IsLaterIn}

-- the least place of which something holds was found, or it holds of none
abbrev pub IsLeast : (ℕ → Type 0) → Option ℕ → Type 0
IsLeast P None = (place : ℕ) → P place → ⊥
IsLeast P (Some place) = P place × ((at : ℕ) → at < place → P at → ⊥)

pub both_ways : (b : Bool) → b ≡ true → b ≡ false → ⊥
both_ways b is isnt = cc

pub least_alike : (P Q : ℕ → Type 0) (found : Option ℕ) → ((p : ℕ) → P p → Q p) → ((p : ℕ) → Q p → P p) → IsLeast P found → IsLeast Q found
least_alike P Q None to from is = λ p q. is p (from p q)
least_alike P Q (Some place) to from is = (to place is.0, λ p less q. is.1 p less (from p q))

pub lesser_first : (P Q : ℕ → Type 0) (a b : ℕ) → (a ≤ b) ⊎ (b < a) → P a → Q b → P (min a b) ⊎ Q (min a b)
lesser_first P Q a b (inl before) p q = let e : min a b ≡ a = omega arith in inl (subst P (sym e) p)
lesser_first P Q a b (inr after) p q = let e : min a b ≡ b = omega arith in inr (subst Q (sym e) q)

pub here_or_later : (here there : ℕ) → here ≤ there → (here ≡ there) ⊎ (here + 1 ≤ there)
here_or_later here there low = grind arith

pub either_order : (a b : ℕ) → (a ≤ b) ⊎ (b < a)
either_order a b = grind arith

pub least_of_two : (P Q : ℕ → Type 0) (a b : Option ℕ) → IsLeast P a → IsLeast Q b → IsLeast (λ p. P p ⊎ Q p) (lesser a b)
least_of_two P Q None None p q = λ at either. ⊎_elim (p at) (q at) either
least_of_two P Q None (Some b) p q = (inr q.0, λ at less either. ⊎_elim (p at) (q.1 at less) either)
least_of_two P Q (Some a) None p q = (inl p.0, λ at less either. ⊎_elim (p.1 at less) (q at) either)
least_of_two P Q (Some a) (Some b) p q = (
  lesser_first P Q a b (either_order a b) p.0 q.0,
  λ at less either. ⊎_elim (p.1 at (omega arith)) (q.1 at (omega arith)) either,
)

-- each number isn't below the one before, nor the first one below a bound
abbrev pub Climbs : ℕ → List ℕ → Type 0
Climbs low [] = Unit {0}
Climbs low (x ∷ xs) = (low ≤ x) × Climbs x xs

pub not_below : (low : ℕ) (xs : List ℕ) (i x : ℕ) → Climbs low xs → slice_get xs i ≡ Some x → low ≤ x
not_below low [] i x climbs is = cc
not_below low (y ∷ ys) zero x climbs is = let same : y ≡ x = cc in subst (λ z. low ≤ z) same climbs.0
not_below low (y ∷ ys) (suc i) x climbs is =
    let first : low ≤ y = climbs.0 in
    let rest : y ≤ x = not_below y ys i x climbs.1 is in
    omega arith

from_lower : (low lower : ℕ) (xs : List ℕ) → lower ≤ low → Climbs low xs → Climbs lower xs
from_lower low lower [] less climbs = tt
from_lower low lower (x ∷ xs) less climbs = let first : low ≤ x = climbs.0 in (omega arith, climbs.1)

chosen_climbs : (low x : ℕ) (xs : List ℕ) (test : Bool) → low ≤ x → Climbs x xs → Climbs low (cond test (x ∷ xs) xs)
chosen_climbs low x xs true first climbs = (first, climbs)
chosen_climbs low x xs false first climbs = from_lower x low xs first climbs

pub filter_climbs : (test : ℕ → Bool) (low : ℕ) (xs : List ℕ) → Climbs low xs → Climbs low (filter test xs)
filter_climbs test low [] climbs = tt
filter_climbs test low (x ∷ xs) climbs = chosen_climbs low x (filter test xs) (test x) climbs.0 (filter_climbs test x xs climbs.1)

-- the elements of a list that pass a test
pub record IsPassing (test : ℕ → Bool) (xs : List ℕ) (place : ℕ) : Type 0 where
  pub is : IsIn xs place
  pub passes : test place ≡ true

passing_first : (test : ℕ → Bool) (x : ℕ) (xs : List ℕ) (passes : Bool) → test x ≡ passes → Climbs x xs → IsLeast (IsPassing test xs) (find test xs) → IsLeast (IsPassing test (x ∷ xs)) (cond passes (Some x) (find test xs))
passing_first test x xs true is climbs rest = (record { is = (zero, refl); passes = is }, λ at less has. below at less has.is)
  where
    below : (at : ℕ) → at < x → IsIn (x ∷ xs) at → ⊥
    below at less (i, has) = let above : x ≤ at = not_below x (x ∷ xs) i at (omega arith, climbs) has in absurd (omega arith)
passing_first test x xs false is climbs rest = least_alike (IsPassing test xs) (IsPassing test (x ∷ xs)) (find test xs) later (λ at has. earlier at has.is has.passes) rest
  where
    later : (at : ℕ) → IsPassing test xs at → IsPassing test (x ∷ xs) at
    later at has = record { is = (suc has.is.0, has.is.1); passes = has.passes }

    earlier : (at : ℕ) → IsIn (x ∷ xs) at → test at ≡ true → IsPassing test xs at
    earlier at (zero, has) passes = let same : x ≡ at = cc in let both : test x ≡ test at = ap test same in absurd (cc)
    earlier at (suc i, has) passes = record { is = (i, has); passes = passes }

pub passing_least : (test : ℕ → Bool) (low : ℕ) (xs : List ℕ) → Climbs low xs → IsLeast (IsPassing test xs) (find test xs)
passing_least test low [] climbs = λ at has. (let none : None ≡ Some at = has.is.1 in absurd (cc))
passing_least test low (x ∷ xs) climbs = passing_first test x xs (test x) refl climbs.1 (passing_least test x xs climbs.1)

pub later_least : (low : ℕ) (xs : List ℕ) → Climbs low xs → IsLeast (IsLaterIn xs) (slice_get xs 1)
later_least low [] climbs = λ at has. (let none : None ≡ Some at = has.1 in absurd (cc))
later_least low (x ∷ []) climbs = λ at has. (let none : None ≡ Some at = has.1 in absurd (cc))
later_least low (x ∷ y ∷ ys) climbs = (
  (zero, refl),
  λ at less has.
      let above : y ≤ at = not_below y (y ∷ ys) has.0 at (omega arith, climbs.1.1) has.1 in
      absurd (omega arith),
)
