-- Names that begin alike are in the order of what follows.
use Rattle.std.proofs.Common.{◌≡◌, ℕ, zero, suc, ◌+◌, ◌-◌, ◌<◌, ◌≤◌, ◌⊎◌, List, [], ◌∷◌, length, drop, get_or, refl, sym, ap, ◌∙◌, arith, inl, inr}
use Rattle.std.specs.Cmp.Lexicographic.{slice_cmp}
use Rattle.std.specs.Ordering.{nat_cmp}
use Rattle.std.specs.declared.cmp.Ordering.TheVariants.{Equal}
use Rattle.std.proofs.lemmas.Bool.{cases_lt}
use Rattle.std.proofs.lemmas.Cmp.{nat_cmp_total, tied_itself}
use Rattle.std.proofs.lemmas.List.{get_or-drop}
use Rattle.byteorder.specs.Endian.{little_from}
use Rattle.mo_bytes.specs.Number.{number}

-- two names are alike below an index
pub record IsAlike (a b : List ℕ) (at : ℕ) : Type 0 where
  pub first : at ≤ length a
  pub second : at ≤ length b
  pub same : (k : ℕ) → k < at → get_or a k 0 ≡ get_or b k 0

pub alike_starts : (a b : List ℕ) → IsAlike a b 0
alike_starts a b = record { first = omega arith; second = omega arith; same = λ k low. absurd (omega arith) }

-- the bytes of equal numbers are equal
same_bytes : (n i : ℕ) (xs ys : List ℕ) → ((k : ℕ) → get_or xs k 0 < 256) → ((k : ℕ) → get_or ys k 0 < 256) → little_from i n xs ≡ little_from i n ys → (k : ℕ) → i ≤ k → k < i + n → get_or xs k 0 ≡ get_or ys k 0
same_bytes zero i xs ys small low e k after before = absurd (omega arith)
same_bytes (suc n) i xs ys small low e k after before =
    let x : get_or xs i 0 < 256 = small i in
    let y : get_or ys i 0 < 256 = low i in
    let here : get_or xs i 0 ≡ get_or ys i 0 = omega (arith, e, x, y) in
    let rest : little_from (suc i) n xs ≡ little_from (suc i) n ys = omega (arith, e, x, y) in
    elim (cases_lt i k) [
      | inl later ↦ same_bytes n (suc i) xs ys small low rest k (omega arith) (omega arith)
      | inr first ↦ let is : k ≡ i = omega arith in ap (λ j. get_or xs j 0) is ∙ here ∙ ap (λ j. get_or ys j 0) (sym is)
    ]

bytes_below : (xs : List ℕ) (at : ℕ) → ((k : ℕ) → get_or xs k 0 < 256) → (k : ℕ) → get_or (drop at xs) k 0 < 256
bytes_below xs at small k = rw (get_or-drop at xs k 0) (small (at + k))

pub alike_goes_on : (a b : List ℕ) (at : ℕ) → IsAlike a b at → ((k : ℕ) → get_or a k 0 < 256) → ((k : ℕ) → get_or b k 0 < 256) → at + 8 ≤ length a → at + 8 ≤ length b → number 8 a at ≡ number 8 b at → IsAlike a b (at + 8)
unfolding number
alike_goes_on a b at alike small low first second e = record { first = first; second = second; same = λ k below. by k below (cases_lt k at) }
  where
    by : (k : ℕ) → k < at + 8 → (k < at) ⊎ (at ≤ k) → get_or a k 0 ≡ get_or b k 0
    by k below (inl before) = alike.same k before
    by k below (inr after) =
        let place : at + (k - at) ≡ k = omega arith in
        ap (λ j. get_or a j 0) (sym place) ∙ sym (get_or-drop at a (k - at) 0)
        ∙ same_bytes 8 0 (drop at a) (drop at b) (bytes_below a at small) (bytes_below b at low) e (k - at) (omega arith) (omega arith)
        ∙ get_or-drop at b (k - at) 0 ∙ ap (λ j. get_or b j 0) place

-- what follows the bytes in which names are alike decides
cmp_rest : (n : ℕ) (a b : List ℕ) → n ≤ length a → n ≤ length b → ((k : ℕ) → k < n → get_or a k 0 ≡ get_or b k 0) → slice_cmp nat_cmp (drop n a) (drop n b) ≡ slice_cmp nat_cmp a b
cmp_rest zero a b first second same = refl
cmp_rest (suc n) [] b first second same = absurd (omega arith)
cmp_rest (suc n) (x ∷ a) [] first second same = absurd (omega arith)
cmp_rest (suc n) (x ∷ a) (y ∷ b) first second same =
    let here : x ≡ y = same 0 (omega arith) in
    let tie : nat_cmp x y ≡ Equal = ap (λ z. nat_cmp x z) (sym here) ∙ tied_itself nat_cmp_total x in
    cmp_rest n a b (omega arith) (omega arith) (λ k low. same (suc k) (omega arith)) ∙ rw tie refl

pub decided : (a b c d : List ℕ) (n : ℕ) → c ≡ drop n a → d ≡ drop n b → n ≤ length a → n ≤ length b → ((k : ℕ) → k < n → get_or a k 0 ≡ get_or b k 0) → slice_cmp nat_cmp c d ≡ slice_cmp nat_cmp a b
decided a b c d n e f first second same = ap (λ xs. slice_cmp nat_cmp xs d) e ∙ ap (slice_cmp nat_cmp (drop n a)) f ∙ cmp_rest n a b first second same

pub ruleset fronts = (alike_starts, alike_goes_on, decided)
