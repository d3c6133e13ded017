-- Values beyond their fields, and numbers modulo 2^64.
use Rattle.std.proofs.Common.{◌≡◌, ℕ, suc, ◌+◌, ◌-◌, ◌%◌, ◌^◌, ◌<◌, true, false, None, refl, sym, ap, ◌∙◌, arith, ℤ, pos, negsuc, ◌+ℤ◌, ◌-ℤ◌, ◌*◌, FitsSigned, w64, w32}
use Rattle.std.specs.Int.{w128}
use Rattle.std.specs.Int.{cast_unsigned, cast_signed}
use Rattle.std.specs.Prelude.{int_lt, int_le}
use Rattle.std.proofs.lemmas.Bool.Decides.{nat_tests}
use Rattle.std.proofs.lemmas.Int.{ints, to_z-of_z}
use Rattle.arm64_insn.specs.Branch.{is_branch_delta, put_branch}
use Rattle.arm64_insn.specs.Field.{twos_complement}
use Rattle.patch.specs.Field.{is_signed_32}
use Rattle.patch.specs.inner.Writing.{is_in_reach}

pub reach_within : (delta : ℤ) → int_le (negsuc 134217727) delta ≡ true → int_lt delta (pos 134217728) ≡ is_in_reach delta
unfolding is_in_reach
reach_within (pos n) h = grind (arith, nat_tests)
reach_within (negsuc n) h = grind (arith, nat_tests)

pub reach_below : (delta : ℤ) → int_le (negsuc 134217727) delta ≡ false → false ≡ is_in_reach delta
unfolding is_in_reach
reach_below (pos n) h = grind (arith, nat_tests)
reach_below (negsuc n) h = grind (arith, nat_tests)

pub signed_within : (n : ℤ) → int_le (negsuc 2147483647) n ≡ true → int_lt n (pos 2147483648) ≡ is_signed_32 n
unfolding is_signed_32
signed_within (pos n) h = grind (arith, nat_tests)
signed_within (negsuc n) h = grind (arith, nat_tests)

pub signed_below : (n : ℤ) → int_le (negsuc 2147483647) n ≡ false → false ≡ is_signed_32 n
unfolding is_signed_32
signed_below (pos n) h = grind (arith, nat_tests)
signed_below (negsuc n) h = grind (arith, nat_tests)

pub ruleset tests = (reach_within, reach_below, signed_within, signed_below)

not_whole : (delta : ℤ) → is_in_reach delta ≡ false → is_branch_delta delta ≡ false
unfolding is_in_reach is_branch_delta
not_whole (pos n) h = grind (arith, nat_tests)
not_whole (negsuc n) h = grind (arith, nat_tests)

pub beyond_reach : (word : ℕ) (delta : ℤ) → is_in_reach delta ≡ false → None ≡ put_branch word delta
beyond_reach word delta h = let e = not_whole delta h in rw e refl

-- where a whole number of 2^64 more is a natural number
complement_of : (z : ℤ) (k m : ℕ) → z +ℤ pos (k * 2 ^ 64) ≡ pos m → twos_complement 64 z ≡ m % 2 ^ 64
unfolding twos_complement
complement_of (pos n) k m e = omega (arith, ints)
complement_of (negsuc n) k m e = omega (arith, ints)

-- a number plus a signed one, modulo 2^64
pub wrapped_sum : (n : ℕ) (z : ℤ) → n < 2 ^ 64 → FitsSigned w64 z → (n + cast_unsigned w64 z) % 2 ^ 64 ≡ twos_complement 64 (pos n +ℤ z)
wrapped_sum n (pos a) small fits = sym (complement_of (pos n +ℤ pos a) 0 (n + a) (omega (arith, ints)))
wrapped_sum n (negsuc a) small fits =
    sym (complement_of (pos n +ℤ negsuc a) 1 (n + (2 ^ 64 - suc a)) (omega (arith, ints, fits.sfits)))

less_again : (t : ℤ) (minus : ℕ) → minus < 2 ^ 64 → (twos_complement 64 t + (2 ^ 64 - minus)) % 2 ^ 64 ≡ twos_complement 64 (t -ℤ pos minus)
unfolding twos_complement
less_again (pos n) minus small =
    let e : (n % 2 ^ 64 + (2 ^ 64 - minus)) % 2 ^ 64 ≡ (n + (2 ^ 64 - minus)) % 2 ^ 64 = omega arith in
    e ∙ sym (complement_of (pos n -ℤ pos minus) 1 (n + (2 ^ 64 - minus)) (omega (arith, ints)))
less_again (negsuc n) minus small =
    let e : negsuc n -ℤ pos minus ≡ negsuc (n + minus) = omega (arith, ints) in
    let plain : (2 ^ 64 - 1 - n % 2 ^ 64 + (2 ^ 64 - minus)) % 2 ^ 64 ≡ 2 ^ 64 - 1 - (n + minus) % 2 ^ 64 = omega arith in
    plain ∙ sym (ap (twos_complement 64) e)

-- such a number less another one
pub wrapped_less : (t : ℤ) (n minus : ℕ) → n ≡ twos_complement 64 t → minus < 2 ^ 64 → (n + (2 ^ 64 - minus)) % 2 ^ 64 ≡ twos_complement 64 (t -ℤ pos minus)
wrapped_less t n minus e small = ap (λ m. (m + (2 ^ 64 - minus)) % 2 ^ 64) e ∙ less_again t minus small

-- a signed number of 32 bits as its two's complement
complement_32 : (z : ℤ) → is_signed_32 z ≡ true → cast_unsigned w32 z ≡ twos_complement 32 z
unfolding is_signed_32 twos_complement
complement_32 (pos n) h = grind (arith, nat_tests)
complement_32 (negsuc n) h = grind (arith, nat_tests)

pub signed_fits : (z : ℤ) → is_signed_32 z ≡ true → FitsSigned w32 z
unfolding is_signed_32
signed_fits (pos n) h = record { sfits = grind (arith, nat_tests) }
signed_fits (negsuc n) h = record { sfits = grind (arith, nat_tests) }

pub reach_fits : (z : ℤ) → is_in_reach z ≡ true → FitsSigned w64 z
unfolding is_in_reach
reach_fits (pos n) h = record { sfits = grind (arith, nat_tests) }
reach_fits (negsuc n) h = record { sfits = grind (arith, nat_tests) }

pub complement_made : (z : ℤ) (n : ℕ) → is_signed_32 z ≡ true → n ≡ cast_unsigned w32 (cast_signed w32 (cast_unsigned w32 (cast_signed w128 (cast_unsigned w128 z)))) → FitsSigned w128 z → n ≡ twos_complement 32 z
complement_made z n h e fits =
    e ∙ ap (λ x. cast_unsigned w32 (cast_signed w32 (cast_unsigned w32 x))) (to_z-of_z w128 z fits)
    ∙ ap (λ x. cast_unsigned w32 x) (to_z-of_z w32 z (signed_fits z h)) ∙ complement_32 z h

pub signed_cast : (z : ℤ) → is_signed_32 z ≡ true → FitsSigned w128 z → FitsSigned w32 (cast_signed w128 (cast_unsigned w128 z))
signed_cast z h fits = rw (to_z-of_z w128 z fits) (signed_fits z h)

pub reach_cast : (z : ℤ) → is_in_reach z ≡ true → FitsSigned w128 z → FitsSigned w64 (cast_signed w128 (cast_unsigned w128 z))
reach_cast z h fits = rw (to_z-of_z w128 z fits) (reach_fits z h)

pub ruleset branches = (beyond_reach, reach_cast)

pub ruleset signed = (complement_made, signed_cast)
