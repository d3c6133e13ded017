-- The test of a branch's distance, and what the code's own tests say of it.
use Rattle.std.proofs.Common.{Some, ◌≡◌, ℕ, ◌+◌, ◌*◌, ◌%◌, ◌^◌, ◌<◌, nat_eq, refl, ap, ◌∙◌, arith, ℤ, pos, negsuc, neg_ℤ, ◌*ℤ◌, lit≤, w64, zero, suc, true, false}
use Rattle.std.specs.Int.{cast_unsigned, cast_signed, int_div_euclid}
use Rattle.std.specs.Prelude.{int_le, int_lt, int_rem, FitsSigned}
use Rattle.std.specs.Int.Signed.{shr_z, mag}
use Rattle.std.proofs.lemmas.Bool.Decides.{nat_tests}
use Rattle.std.proofs.lemmas.Int.{ints, to_z-of_z}
use Rattle.arm64_insn.specs.Branch.{IsBranchDelta, is_branch_delta, branch_word, branch_of, put_branch}
use Rattle.arm64_insn.specs.Field.{field_at, with_field, twos_complement, sign_extended, SameBits}
use Rattle.arm64_insn.proofs.FieldLemmas.{field_at-with_field, field_at-lt, sign_extended-lt, with_field-field_at, twos_complement-sign_extended, with_field-with_field, with_field-lt, same_above, twos_complement-lt, sign_extended-twos_complement}

pub tested_in_reach : (delta : ℤ) → is_branch_delta delta ≡ true → IsBranchDelta delta
unfolding is_branch_delta
tested_in_reach (pos n) h = record { least = grind (arith, ints, nat_tests); greatest = grind (arith, ints, nat_tests); whole_words = grind (arith, ints, nat_tests) }
tested_in_reach (negsuc n) h = record { least = grind (arith, ints, nat_tests); greatest = grind (arith, ints, nat_tests); whole_words = grind (arith, ints, nat_tests) }

pub in_reach_tested : (delta : ℤ) → IsBranchDelta delta → is_branch_delta delta ≡ true
unfolding is_branch_delta
in_reach_tested (pos n) h = grind (arith, ints, nat_tests, h.greatest, h.whole_words)
in_reach_tested (negsuc n) h = grind (arith, ints, nat_tests, h.least, h.whole_words)

-- a signed remainder is 0 where its bits are
zero_by_bits : (r : ℕ) → r < 4 → nat_eq (cast_unsigned w64 (neg_ℤ (pos r))) 0 ≡ nat_eq r 0
zero_by_bits zero h = refl
zero_by_bits (suc r) h = grind (arith, nat_tests)

-- the code's test of whole words, where the distance is in range
in_bounds : (delta : ℤ) → int_le (negsuc 134217727) delta ≡ true → int_lt delta (pos 134217728) ≡ true
    → nat_eq (cast_unsigned w64 (int_rem delta (pos 4))) 0 ≡ is_branch_delta delta
unfolding is_branch_delta
in_bounds (pos n) low high = grind (arith, nat_tests)
in_bounds (negsuc n) low high = zero_by_bits (suc n % 4) (omega arith) ∙ grind (arith, nat_tests)

below_reach : (delta : ℤ) → int_le (negsuc 134217727) delta ≡ false → false ≡ is_branch_delta delta
unfolding is_branch_delta
below_reach (pos n) h = grind (arith, nat_tests)
below_reach (negsuc n) h = grind (arith, nat_tests)

above_reach : (delta : ℤ) → int_lt delta (pos 134217728) ≡ false → false ≡ is_branch_delta delta
unfolding is_branch_delta
above_reach (pos n) h = grind (arith, nat_tests)
above_reach (negsuc n) h = grind (arith, nat_tests)

-- the same of a distance that the code holds in 64 bits
pub held_in_bounds : (delta : ℤ) → FitsSigned w64 delta → let z : ℤ = cast_signed w64 (cast_unsigned w64 delta) in
    int_le (negsuc 134217727) z ≡ true → int_lt z (pos 134217728) ≡ true
    → nat_eq (cast_unsigned w64 (int_rem z (pos 4))) 0 ≡ is_branch_delta delta
held_in_bounds delta fits = rw to_z-of_z (in_bounds delta)

pub held_below_reach : (delta : ℤ) → FitsSigned w64 delta
    → int_le (negsuc 134217727) (cast_signed w64 (cast_unsigned w64 delta)) ≡ false → false ≡ is_branch_delta delta
held_below_reach delta fits = rw to_z-of_z (below_reach delta)

pub held_above_reach : (delta : ℤ) → FitsSigned w64 delta
    → int_lt (cast_signed w64 (cast_unsigned w64 delta)) (pos 134217728) ≡ false → false ≡ is_branch_delta delta
held_above_reach delta fits = rw to_z-of_z (above_reach delta)

-- the shift by 2 is the division by 4
quarter_fits : (delta : ℤ) → FitsSigned w64 delta → FitsSigned w64 (int_div_euclid delta (pos 4))
quarter_fits (pos n) h = record { sfits = omega (arith, h.sfits) }
quarter_fits (negsuc n) h = record { sfits = omega (arith, h.sfits) }

quarter_by_shift : (delta : ℤ) → shr_z delta 4 ≡ int_div_euclid delta (pos 4)
quarter_by_shift (pos n) = refl
quarter_by_shift (negsuc n) = refl

pub shifted_by_two : (delta : ℤ) → FitsSigned w64 delta
    → cast_signed w64 (cast_unsigned w64 (shr_z (cast_signed w64 (cast_unsigned w64 delta)) 4)) ≡ int_div_euclid delta (pos 4)
shifted_by_two delta fits =
    ap (λ z. cast_signed w64 (cast_unsigned w64 (shr_z z 4))) (to_z-of_z w64 delta fits)
    ∙ ap (λ z. cast_signed w64 (cast_unsigned w64 z)) (quarter_by_shift delta)
    ∙ to_z-of_z w64 (int_div_euclid delta (pos 4)) (quarter_fits delta fits)

-- the word that the code makes
pub branch_made : (word : ℕ) (delta : ℤ) (value new : ℕ) → FitsSigned w64 delta
    → value ≡ twos_complement 26 (cast_signed w64 (cast_unsigned w64 (shr_z (cast_signed w64 (cast_unsigned w64 delta)) 4)))
    → new ≡ with_field 0 26 word value → new ≡ branch_word word delta
unfolding branch_word
branch_made word delta value new fits is made =
    made ∙ ap (with_field 0 26 word) (is ∙ ap (twos_complement 26) (shifted_by_two delta fits))

-- ---- laws of the definitions

quarter_in_field : (delta : ℤ) → IsBranchDelta delta → mag (int_div_euclid delta (pos 4)) < 2 ^ 25
quarter_in_field (pos n) h = omega (arith, ints, h.greatest)
quarter_in_field (negsuc n) h = omega (arith, ints, h.least)

four_quarters : (delta : ℤ) → IsBranchDelta delta → int_div_euclid delta (pos 4) *ℤ pos 4 ≡ delta
four_quarters (pos n) h = grind (arith, ints, h.whole_words)
four_quarters (negsuc n) h = grind (arith, ints, h.whole_words)

pub branch_of-branch_word : (word : ℕ) (delta : ℤ) → IsBranchDelta delta → branch_of (branch_word word delta) ≡ delta
unfolding branch_of branch_word
branch_of-branch_word word delta h =
    let quarter : ℤ = int_div_euclid delta (pos 4) in
    ap (λ n. sign_extended 26 n *ℤ pos 4) (field_at-with_field 0 26 word (twos_complement 26 quarter) (twos_complement-lt 26 quarter))
    ∙ ap (λ z. z *ℤ pos 4) (sign_extended-twos_complement 26 quarter refl (quarter_in_field delta h))
    ∙ four_quarters delta h

pub branch_word-branch_word : (word : ℕ) (delta later : ℤ)
    → branch_word (branch_word word delta) later ≡ branch_word word later
unfolding branch_word
branch_word-branch_word word delta later =
    with_field-with_field 0 26 word _ _ (twos_complement-lt 26 (int_div_euclid delta (pos 4)))

pub put_branch-branch_word : (word : ℕ) (delta later : ℤ)
    → put_branch (branch_word word delta) later ≡ put_branch word later
put_branch-branch_word word delta later = rw (branch_word-branch_word word delta later)

pub branch_word-same : (word : ℕ) (delta : ℤ) → SameBits 26 32 word (branch_word word delta)
unfolding branch_word
branch_word-same word delta =
    same_above 0 26 word _ 26 32 (twos_complement-lt 26 (int_div_euclid delta (pos 4))) (lit≤ tt)

pub branch_word-lt : (word : ℕ) (delta : ℤ) → word < 2 ^ 32 → branch_word word delta < 2 ^ 32
unfolding branch_word
branch_word-lt word delta small =
    with_field-lt 0 26 word _ (lit≤ tt) small (twos_complement-lt 26 (int_div_euclid delta (pos 4)))

-- ---- what a word's imm26 says

times_four : (n : ℕ) → negsuc n *ℤ pos 4 ≡ negsuc (n * 4 + 3)
times_four n = omega (arith, ints)

in_reach_times : (s : ℤ) → mag s < 2 ^ 25 → IsBranchDelta (s *ℤ pos 4)
in_reach_times (pos n) h = record { least = grind (arith, ints); greatest = grind (arith, ints); whole_words = grind (arith, ints) }
in_reach_times (negsuc n) h =
    rw times_four (record { least = grind (arith, ints); greatest = grind (arith, ints); whole_words = grind (arith, ints) })

quarter_times : (s : ℤ) → int_div_euclid (s *ℤ pos 4) (pos 4) ≡ s
quarter_times (pos n) = grind (arith, ints)
quarter_times (negsuc n) = rw times_four (ap negsuc (omega arith))

steps_fit : (word : ℕ) → mag (sign_extended 26 (field_at 0 26 word)) < 2 ^ 25
steps_fit word = sign_extended-lt 26 (field_at 0 26 word) refl (field_at-lt 0 26 word)

pub branch_of-in_reach : (word : ℕ) → IsBranchDelta (branch_of word)
unfolding branch_of
branch_of-in_reach word = in_reach_times (sign_extended 26 (field_at 0 26 word)) (steps_fit word)

pub branch_word-branch_of : (word : ℕ) → branch_word word (branch_of word) ≡ word
unfolding branch_of branch_word
branch_word-branch_of word =
    ap (λ z. with_field 0 26 word (twos_complement 26 z)) (quarter_times (sign_extended 26 (field_at 0 26 word)))
    ∙ ap (with_field 0 26 word) (twos_complement-sign_extended 26 (field_at 0 26 word) refl (field_at-lt 0 26 word))
    ∙ with_field-field_at 0 26 word

pub put_branch-branch_of : (word : ℕ) → put_branch word (branch_of word) ≡ Some word
put_branch-branch_of word =
    rw (in_reach_tested (branch_of word) (branch_of-in_reach word), branch_word-branch_of word)

-- what the code computes
branch_fits : (s : ℤ) → mag s < 2 ^ 25 → FitsSigned w64 s × FitsSigned w64 (s *ℤ pos 4)
branch_fits (pos n) h = (record { sfits = omega arith }, record { sfits = omega arith })
branch_fits (negsuc n) h = (record { sfits = omega arith }, rw times_four (record { sfits = omega arith }))

pub branch_read : (word : ℕ) (s : ℤ) → s ≡ sign_extended 26 (field_at 0 26 word)
    → cast_signed w64 (cast_unsigned w64 (cast_signed w64 (cast_unsigned w64 s) *ℤ pos 4)) ≡ branch_of word
unfolding branch_of
branch_read word s e =
    let fits = branch_fits (sign_extended 26 (field_at 0 26 word)) (steps_fit word) in
    ap (λ z. cast_signed w64 (cast_unsigned w64 (cast_signed w64 (cast_unsigned w64 z) *ℤ pos 4))) e
    ∙ ap (λ z. cast_signed w64 (cast_unsigned w64 (z *ℤ pos 4))) (to_z-of_z w64 _ fits.0)
    ∙ to_z-of_z w64 _ fits.1
