-- A rising list is the numbers of a range that pass a test, where it has just those.
use Rattle.std.proofs.Common.{◌≡◌, ℕ, zero, suc, ◌+◌, ◌<◌, ◌≤◌, ◌∷◌, [], ◌⊎◌, inl, inr, List, length, get_or, Bool, true, false, cond, filter, refl, sym, ap, ◌∙◌, subst, arith}
use Rattle.std.specs.List.{range_with_len, Contains}
use Rattle.std.specs.List.Sorted.{IsStrictlyIncreasing}
use Rattle.std.proofs.lemmas.Bool.{false≢true, cases_order}

-- a number is among some
abbrev pub Has : ℕ → List ℕ → Type 0
Has y [] = ⊥
Has y (x ∷ xs) = (x ≡ y) ⊎ Has y xs

-- numbers from a bound on, each above the one before
abbrev pub Rises : ℕ → List ℕ → Type 0
Rises low [] = Unit {0}
Rises low (x ∷ xs) = (low ≤ x) × Rises (x + 1) xs

pub has_place : (xs : List ℕ) (k y : ℕ) → k < length xs → get_or xs k y ≡ y → Has y xs
has_place [] k y within here = absurd (omega arith)
has_place (x ∷ xs) zero y within here = inl here
has_place (x ∷ xs) (suc k) y within here = inr (has_place xs k y (omega arith) here)

pub has_from_Contains : (xs : List ℕ) (y : ℕ) → Contains xs y → Has y xs
has_from_Contains xs y contains = has_place xs contains.0 y contains.1 contains.2

pub Contains_from_has : (xs : List ℕ) (y : ℕ) → Has y xs → Contains xs y
Contains_from_has [] y has = absurd has
Contains_from_has (x ∷ xs) y (inl here) = (0, omega arith, here)
Contains_from_has (x ∷ xs) y (inr there) =
    let inside : Contains xs y = Contains_from_has xs y there in
    let below : suc inside.0 < length (x ∷ xs) = omega (arith, inside.1) in
    (suc inside.0, below, inside.2)

pub rises_from_increasing : (low : ℕ) (xs : List ℕ) → IsStrictlyIncreasing xs → (0 < length xs → low ≤ get_or xs 0 0) → Rises low xs
rises_from_increasing low [] increasing first = tt
rises_from_increasing low (x ∷ xs) increasing first =
    let tail : IsStrictlyIncreasing xs = λ k within.
    let e : suc k + 1 ≡ suc (k + 1) = omega arith in
    subst (λ (j : ℕ). get_or (x ∷ xs) (suc k) 0 < get_or (x ∷ xs) j 0) e (increasing (suc k) (omega arith)) in
    (first (omega arith), rises_from_increasing (x + 1) xs tail (λ some. let next : x < get_or xs 0 0 = increasing 0 (omega arith) in omega arith))

above : (low y : ℕ) (xs : List ℕ) → Rises low xs → Has y xs → low ≤ y
above low y [] rises has = absurd has
above low y (x ∷ xs) rises (inl here) = let first : low ≤ x = rises.0 in omega arith
above low y (x ∷ xs) rises (inr there) =
    let first : low ≤ x = rises.0 in
    let rest : x + 1 ≤ y = above (x + 1) y xs rises.1 there in omega arith

-- what a list and a test have to do with each other in a range
pub record Agree (p : ℕ → Bool) (low n : ℕ) (xs : List ℕ) : Type 0 where
  pub inside : (y : ℕ) → Has y xs → (y < low + n) × (p y ≡ true)
  pub all : (y : ℕ) → low ≤ y → y < low + n → p y ≡ true → Has y xs

first_is : (low y : ℕ) (x : ℕ) (xs : List ℕ) → Rises low (x ∷ xs) → Has low (x ∷ xs) → x ≡ low
first_is low y x xs rises (inl here) = here
first_is low y x xs rises (inr there) =
    let first : low ≤ x = rises.0 in
    let rest : x + 1 ≤ low = above (x + 1) low xs rises.1 there in absurd (omega arith)

later : (x y : ℕ) (xs : List ℕ) → x < y → Has y (x ∷ xs) → Has y xs
later x y xs less (inl here) = absurd (omega arith)
later x y xs less (inr there) = there

mutual_step : (p : ℕ → Bool) (low n : ℕ) (xs : List ℕ) (test : Bool) → p low ≡ test → Rises low xs → Agree p low (suc n) xs → ((ys : List ℕ) → Rises (low + 1) ys → Agree p (low + 1) n ys → ys ≡ filter p (range_with_len (low + 1) n)) → xs ≡ cond test (low ∷ filter p (range_with_len (low + 1) n)) (filter p (range_with_len (low + 1) n))
mutual_step p low n [] true e rises agree rest = absurd (agree.all low (omega arith) (omega arith) e)
mutual_step p low n (x ∷ xs) true e rises agree rest =
    let is : x ≡ low = first_is low low x xs rises (agree.all low (omega arith) (omega arith) e) in
    let tail : Rises (low + 1) xs = subst (λ (k : ℕ). Rises (k + 1) xs) is rises.1 in
    let agrees : Agree p (low + 1) n xs = record {
      inside = λ y has. let whole : (y < low + suc n) × (p y ≡ true) = agree.inside y (inr has) in (omega (arith, whole.0), whole.1);
      all = λ y from below pass. later x y xs (omega arith) (agree.all y (omega arith) (omega arith) pass);
    } in
    ap (λ k. k ∷ xs) is ∙ ap (λ ys. low ∷ ys) (rest xs tail agrees)
mutual_step p low n [] false e rises agree rest = rest [] tt (record {
  inside = λ y has. absurd has;
  all = λ y from below pass. agree.all y (omega arith) (omega arith) pass;
})
mutual_step p low n (x ∷ xs) false e rises agree rest =
    let first : low ≤ x = rises.0 in
    let passes : p x ≡ true = (agree.inside x (inl refl)).1 in
    let more : low + 1 ≤ x = elim (cases_order low x) [ inl same ↦ absurd (false≢true (sym e ∙ ap p same ∙ passes)) | inr (inl less) ↦ omega arith | inr (inr more) ↦ absurd (omega arith) ] in
    rest (x ∷ xs) (more, rises.1) (record {
      inside = λ y has. let whole : (y < low + suc n) × (p y ≡ true) = agree.inside y has in (omega (arith, whole.0), whole.1);
      all = λ y from below pass. agree.all y (omega arith) (omega arith) pass;
    })

pub same_as_filter : (p : ℕ → Bool) (low n : ℕ) (xs : List ℕ) → Rises low xs → Agree p low n xs → xs ≡ filter p (range_with_len low n)
same_as_filter p low zero [] rises agree = refl
same_as_filter p low zero (x ∷ xs) rises agree =
    let first : low ≤ x = rises.0 in
    let below : (x < low + zero) × (p x ≡ true) = agree.inside x (inl refl) in
    absurd (omega (arith, below.0))
same_as_filter p low (suc n) xs rises agree = mutual_step p low n xs (p low) refl rises agree (λ ys. same_as_filter p (low + 1) n ys)
