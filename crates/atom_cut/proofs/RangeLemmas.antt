-- The numbers of a range that pass a test.
use Rattle.std.proofs.Common.{◌≡◌, ℕ, zero, suc, zero-add, ◌+◌, ◌<◌, ◌≤◌, ◌++◌, ◌∷◌, [], List, Bool, true, false, cond, filter, refl, ap, ◌∙◌, arith}
use Rattle.std.specs.List.{range_with_len}

-- two ranges that follow each other
pub filter_range-add : (p : ℕ → Bool) (a m n b : ℕ) → a + m ≡ b → filter p (range_with_len a (m + n)) ≡ filter p (range_with_len a m) ++ filter p (range_with_len b n)
filter_range-add p a zero n b e =
    let same : a ≡ b = omega arith in
    rw (same, zero-add) refl
filter_range-add p a (suc m) n b e =
    let further : a + 1 + m ≡ b = omega arith in
    let sum : suc m + n ≡ suc (m + n) = omega arith in
    let rest : filter p (range_with_len (a + 1) (m + n)) ≡ filter p (range_with_len (a + 1) m) ++ filter p (range_with_len b n) = filter_range-add p (a + 1) m n b further in
    rw (sum, rest) (first_kept (p a) a (filter p (range_with_len (a + 1) m)) (filter p (range_with_len b n)))
  where
    first_kept : (test : Bool) (x : ℕ) (xs ys : List ℕ) → cond test (x ∷ (xs ++ ys)) (xs ++ ys) ≡ cond test (x ∷ xs) xs ++ ys
    first_kept true x xs ys = refl
    first_kept false x xs ys = refl

-- a range of which no number passes
pub filter_range-none : (p : ℕ → Bool) (a n : ℕ) → ((k : ℕ) → a ≤ k → k < a + n → p k ≡ false) → filter p (range_with_len a n) ≡ []
filter_range-none p a zero none = refl
filter_range-none p a (suc n) none =
    let here : p a ≡ false = none a (omega arith) (omega arith) in
    rw here (filter_range-none p (a + 1) n (λ k low high. none k (omega arith) (omega arith)))

-- a range of which its last number alone passes
pub filter_range-last : (p : ℕ → Bool) (a n b : ℕ) → a + n ≡ b → ((k : ℕ) → a ≤ k → k < b → p k ≡ false) → p b ≡ true → filter p (range_with_len a (n + 1)) ≡ b ∷ []
filter_range-last p a n b e none last =
    filter_range-add p a n 1 b e
    ∙ ap (λ xs. xs ++ filter p (range_with_len b 1)) (filter_range-none p a n (λ k low high. none k low (omega arith)))
    ∙ rw last refl
