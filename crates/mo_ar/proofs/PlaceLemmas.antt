-- A table from places to numbers.
use Rattle.std.proofs.Common.{tests, ◌≡◌, ℕ, zero, suc, ◌+◌, ◌-◌, ◌*◌, ◌/◌, ◌^◌, ◌<◌, ◌≤◌, ◌==◌, List, [], ◌∷◌, length, get_or, true, false, Some, None, refl, sym, ap, ◌∙◌, ◌⊎◌, inl, inr, arith, below_more}
use Rattle.std.proofs.Math.ListN.{set, length-set}
use Rattle.std.proofs.lemmas.Bool.{cases_lt}
use Rattle.std.proofs.lemmas.List.{get_or-set_same, get_or-set_other, get_or_past}
use Rattle.mo_ar.specs.inner.Tables.{IsRising}
use Rattle.mo_ar.specs.Places.{number_from, number_of}
use Rattle.mo_ar.specs.inner.Tables.{IsNumbered}
use Rattle.mo_ar.specs.inner.Tables.{stands}

-- the places below an index have their numbers
pub record IsFilling (size : ℕ) (places cells : List ℕ) (n : ℕ) : Type 0 where
  pub found : (i : ℕ) → i < n → get_or cells (get_or places i 0 / 60) 0 ≡ i + 1
  pub room : length cells ≡ size / 60 + 1

pub fill_starts : (size : ℕ) (places cells : List ℕ) → length cells ≡ size / 60 + 1 → IsFilling size places cells 0
fill_starts size places cells room = record { found = λ i low. absurd (omega arith); room = room }

pub cell_within : (size : ℕ) (places cells : List ℕ) (n i place : ℕ) → IsFilling size places cells n → IsRising size places → i < length places → place ≡ get_or places i 0 → place / 60 < length cells
cell_within size places cells n i place filling rising low is =
    let within : get_or places i 0 + 60 ≤ size = rising.within i low in
    let room : length cells ≡ size / 60 + 1 = filling.room in
    omega arith

other_cell : (size : ℕ) (places : List ℕ) (n j place : ℕ) → IsRising size places → n < length places → j < n → place ≡ get_or places n 0 → get_or places j 0 / 60 ≡ place / 60 → ⊥
other_cell size places n j place rising low before is same =
    let apart : get_or places j 0 + 60 ≤ get_or places n 0 = rising.apart j n before low in
    omega arith

pub fill_goes_on : (size : ℕ) (places cells : List ℕ) (n place : ℕ) → IsFilling size places cells n → IsRising size places → n < length places → place ≡ get_or places n 0 → IsFilling size places (set cells (place / 60) (n + 1)) (n + 1)
fill_goes_on size places cells n place filling rising low is =
    let inside : place / 60 < length cells = cell_within size places cells n n place filling rising low is in
    record {
      found = λ i below.
          below_more (λ (j : ℕ). get_or (set cells (place / 60) (n + 1)) (get_or places j 0 / 60) 0 ≡ j + 1) n
          (λ j before. get_or-set_other cells (place / 60) (get_or places j 0 / 60) (n + 1) 0 (other_cell size places n j place rising low before is) ∙ filling.found j before)
          (rw (← is) (get_or-set_same cells (place / 60) (n + 1) 0 inside))
          i
          below;
      room = length-set cells (place / 60) (n + 1) ∙ filling.room;
    }

pub fill_ends : (size : ℕ) (places cells : List ℕ) (n : ℕ) → IsFilling size places cells n → length places ≤ n → IsNumbered cells places
fill_ends size places cells n filling past = record { found = λ i low near. filling.found i (omega arith) }

-- no place from one past 2^32 on is that of a pair
pub fill_stops : (size : ℕ) (places cells : List ℕ) (n place : ℕ) → IsFilling size places cells n → IsRising size places → n < length places → place ≡ get_or places n 0 → 2 ^ 32 ≤ place → IsNumbered cells places
fill_stops size places cells n place filling rising low is far = record { found = λ i under near. by i under near (cases_lt i n) }
  where
    by : (i : ℕ) → i < length places → get_or places i 0 < 2 ^ 32 → (i < n) ⊎ (n ≤ i) → get_or cells (get_or places i 0 / 60) 0 ≡ i + 1
    by i under near (inl before) = filling.found i before
    by i under near (inr after) = absurd (elim (cases_lt n i) [
      | inl behind ↦ let apart : get_or places n 0 + 60 ≤ get_or places i 0 = rising.apart n i behind under in omega (arith, apart, near, far, is)
      | inr not_behind ↦ let same : i ≡ n = omega (arith, after, not_behind) in let e : get_or places i 0 ≡ get_or places n 0 = ap (λ (k : ℕ). get_or places k 0) same in omega (arith, e, near, far, is)
    ])

-- no more headers stand before a place than so many bytes hold
headers_before : (size : ℕ) (places : List ℕ) (i : ℕ) → IsRising size places → i < length places → 60 * i ≤ get_or places i 0
headers_before size places zero rising low = omega arith
headers_before size places (suc i) rising low =
    let before : 60 * i ≤ get_or places i 0 = headers_before size places i rising (omega (arith, low)) in
    let apart : get_or places i 0 + 60 ≤ get_or places (suc i) 0 = rising.apart i (suc i) (omega arith) low in
    omega (arith, before, apart)

pub number_fits : (size : ℕ) (places : List ℕ) (i place : ℕ) → IsRising size places → i < length places → place ≡ get_or places i 0 → place < 2 ^ 32 → i + 1 < 2 ^ 32
number_fits size places i place rising low is near = omega (arith, headers_before size places i rising low, is, near)

pub ruleset fills = (fill_starts, cell_within, fill_goes_on, fill_ends, fill_stops)

equal : (a b : ℕ) → a ≡ b → (a == b) ≡ true
equal a b is = grind (arith, tests)

unequal : (a b : ℕ) → (a ≡ b → ⊥) → (a == b) ≡ false
unequal a b is = grind (arith, tests)

first_place : (n : ℕ) (places : List ℕ) (at k : ℕ) → k < length places → get_or places k 0 ≡ at → ((i : ℕ) → i < k → get_or places i 0 ≡ at → ⊥) → number_from n places at ≡ Some (n + k)
first_place n [] at k low is before = absurd (omega arith)
first_place n (place ∷ places) at zero low is before =
    let e : n + 0 ≡ n = omega arith in
    rw (equal place at is, e) refl
first_place n (place ∷ places) at (suc k) low is before =
    let e : n + suc k ≡ n + 1 + k = omega arith in
    rw (unequal place at (before 0 (omega arith)), e)
    (first_place (n + 1) places at k (omega arith) is (λ i below. before (suc i) (omega arith)))

no_place : (n : ℕ) (places : List ℕ) (at : ℕ) → ((i : ℕ) → i < length places → get_or places i 0 ≡ at → ⊥) → number_from n places at ≡ None
no_place n [] at never = refl
no_place n (place ∷ places) at never =
    rw (unequal place at (never 0 (omega arith))) (no_place (n + 1) places at (λ i below. never (suc i) (omega arith)))

pub record IsStanding (places : List ℕ) (number at : ℕ) : Type 0 where
  pub some : 0 < number
  pub among : number ≤ length places
  pub there : get_or places (number - 1) 0 ≡ at

is_standing : (places : List ℕ) (number at : ℕ) → true ≡ stands places number at → IsStanding places number at
is_standing places number at is = record { some = grind (arith, tests); among = grind (arith, tests); there = grind (arith, tests) }

not_standing : (places : List ℕ) (number at : ℕ) → false ≡ stands places number at → 0 < number → number ≤ length places → get_or places (number - 1) 0 ≡ at → ⊥
not_standing places number at is some among there = grind (arith, tests)

found_at : (cells places : List ℕ) (at number : ℕ) → IsNumbered cells places → at < 2 ^ 32 → number ≡ get_or cells (at / 60) 0 → 0 < number → number ≤ length places → get_or places (number - 1) 0 ≡ at → Some number ≡ number_of places at
unfolding number_of
found_at cells places at number numbered near is some within there =
    let here : get_or cells (at / 60) 0 ≡ number - 1 + 1 = rw (← is) (omega arith) in
    let found : number_from 1 places at ≡ Some (1 + (number - 1)) =
    first_place 1 places at (number - 1) (omega arith) there
    (λ i below same. let other : get_or cells (at / 60) 0 ≡ i + 1 = rw same at (numbered.found i (omega arith) (rw same near)) in absurd (omega arith)) in
    let e : 1 + (number - 1) ≡ number = omega arith in
    sym (rw e at found)

pub found_number : (cells places : List ℕ) (at : ℕ) → IsNumbered cells places → at < 2 ^ 32 → true ≡ stands places (get_or cells (at / 60) 0) at → Some (get_or cells (at / 60) 0) ≡ number_of places at
found_number cells places at numbered near is =
    let standing : IsStanding places (get_or cells (at / 60) 0) at = is_standing places (get_or cells (at / 60) 0) at is in
    found_at cells places at (get_or cells (at / 60) 0) numbered near refl standing.some standing.among standing.there

pub no_cell : (cells places : List ℕ) (at : ℕ) → IsNumbered cells places → at < 2 ^ 32 → length cells ≤ at / 60 → None ≡ number_of places at
unfolding number_of
no_cell cells places at numbered near past =
    let empty : get_or cells (at / 60) 0 ≡ 0 = get_or_past cells (at / 60) 0 past in
    sym (no_place 1 places at (λ i below same. let other : get_or cells (at / 60) 0 ≡ i + 1 = rw same at (numbered.found i below (rw same near)) in absurd (omega arith)))

no_number_at : (cells places : List ℕ) (at number : ℕ) → IsNumbered cells places → at < 2 ^ 32 → number ≡ get_or cells (at / 60) 0 → (0 < number → number ≤ length places → get_or places (number - 1) 0 ≡ at → ⊥) → None ≡ number_of places at
unfolding number_of
no_number_at cells places at number numbered near is other =
    sym (no_place 1 places at
    (λ i below same.
    let here : get_or cells (at / 60) 0 ≡ i + 1 = rw same at (numbered.found i below (rw same near)) in
    let e : number - 1 ≡ i = omega arith in
    other (omega arith) (omega arith) (rw e same)))

pub no_number : (cells places : List ℕ) (at : ℕ) → IsNumbered cells places → at < 2 ^ 32 → false ≡ stands places (get_or cells (at / 60) 0) at → None ≡ number_of places at
no_number cells places at numbered near is =
    no_number_at cells places at (get_or cells (at / 60) 0) numbered near refl (not_standing places (get_or cells (at / 60) 0) at is)

pub ruleset finds = (found_number, no_cell, no_number)
