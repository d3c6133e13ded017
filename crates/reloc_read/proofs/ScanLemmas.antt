-- Numbers of a range that pass a test, and numbers that don't.
use Rattle.std.proofs.Common.{◌≡◌, ℕ, zero, suc, ◌+◌, ◌<◌, ◌≤◌, ◌||◌, inl, inr, Bool, true, false, refl, subst, arith}
use Rattle.std.specs.List.{list_any, range_with_len}
use Rattle.std.proofs.lemmas.Bool.{cases_lt}

-- no number below a bound passes
pub record NoneBelow (test : ℕ → Bool) (bound : ℕ) : Type 0 where
  pub none : (k : ℕ) → k < bound → test k ≡ false

pub none_at_first : (test : ℕ → Bool) → NoneBelow test 0
none_at_first test = record { none = λ k below. absurd (omega arith) }

pub none_so_far : (test : ℕ → Bool) (bound : ℕ) → NoneBelow test bound → test bound ≡ false → NoneBelow test (bound + 1)
none_so_far test bound before here = record { none = λ k below. elim (cases_lt k bound) [ inl less ↦ before.none k less | inr more ↦ let same : bound ≡ k = omega arith in subst (λ (n : ℕ). test n ≡ false) same here ] }

pub any_in_range : (test : ℕ → Bool) (a n k : ℕ) → a ≤ k → k < a + n → test k ≡ true → list_any test (range_with_len a n) ≡ true
any_in_range test a zero k low high pass = absurd (omega arith)
any_in_range test a (suc n) k low high pass =
    elim (cases_lt a k) [
      | inl more ↦ or_right (test a) (list_any test (range_with_len (a + 1) n)) (any_in_range test (a + 1) n k (omega arith) (omega arith) pass)
      | inr less ↦ let same : k ≡ a = omega arith in or_left (test a) (list_any test (range_with_len (a + 1) n)) (subst (λ (n : ℕ). test n ≡ true) same pass)
    ]
  where
    or_right : (a b : Bool) → b ≡ true → (a || b) ≡ true
    or_right true b e = refl
    or_right false b e = e

    or_left : (a b : Bool) → a ≡ true → (a || b) ≡ true
    or_left a b e = rw e refl

pub none_in_range : (test : ℕ → Bool) (a n : ℕ) → ((k : ℕ) → a ≤ k → k < a + n → test k ≡ false) → list_any test (range_with_len a n) ≡ false
none_in_range test a zero none = refl
none_in_range test a (suc n) none =
    let here : test a ≡ false = none a (omega arith) (omega arith) in
    rw here (none_in_range test (a + 1) n (λ k low high. none k (omega arith) (omega arith)))
