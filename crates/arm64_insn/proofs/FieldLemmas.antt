-- What shifts and masks leave, as the definitions of fields say it.
use Rattle.std.proofs.Common.{◌≡◌, ℕ, zero, suc, ◌+◌, ◌-◌, ◌*◌, ◌/◌, ◌%◌, ◌^◌, ◌<◌, ◌≤◌, sym, ap, ◌∙◌, arith, rules, lit<, inl, inr, bit_and, bit_or, ℤ, pos, negsuc, ◌-ℤ◌, FitsSigned, w64, mul_comm, mul_assoc, add-zero}
use Rattle.std.proofs.lemmas.Nat.{one_shl, and_mask, shl_whole, and-not, and_comm, mod-pow-add, div-add-mod', or_block, or_shifted, pow-add, pow_pos, shr-shr, pow_below, mod_below, div_below, mod_low, shr_high, mul-add-lt}
use Rattle.std.specs.Int.{cast_unsigned, cast_signed, bit_at}
use Rattle.std.specs.Int.Bits.{or_zero_r}
use Rattle.std.proofs.lemmas.Nat.Bits.{and_high, bit_at_cat_low, bit_at_cat_high, same_from_bits_below}
use Rattle.std.proofs.lemmas.Bool.{lt-ltb, le-ltb, cases_lt, cond-true, cond-false}
use Rattle.std.proofs.Math.Nat.{mod-eq_of_lt, pow-le-pow_right}
use Rattle.std.proofs.lemmas.Int.{ints, to_z-of_z, to_z_pos}
use Rattle.std.specs.Int.Signed.{mag}
use Rattle.arm64_insn.specs.Field.{field_at, with_field, twos_complement, sign_extended, SameBits}

-- the mask of `width` bits
low_mask : (width : ℕ) → width < 32 → 1 * 2 ^ width % 2 ^ 32 - 1 ≡ 2 ^ width - 1
low_mask width h = ap (λ n. n - 1) (one_shl width 32 h)

pub field_by_shift : (low width word : ℕ) → width < 32
    → bit_and (word / 2 ^ low) (1 * 2 ^ width % 2 ^ 32 - 1) ≡ field_at low width word
unfolding field_at
field_by_shift low width word h =
    ap (bit_and (word / 2 ^ low)) (low_mask width h) ∙ and_mask (word / 2 ^ low) width

-- a word from its three parts
pub word_in_parts : (low width word : ℕ)
    → word / 2 ^ (width + low) * 2 ^ (width + low) + (word / 2 ^ low % 2 ^ width) * 2 ^ low + word % 2 ^ low ≡ word
word_in_parts low width word =
    omega (arith, mod-pow-add word width low, div-add-mod' word (2 ^ (width + low)))

times_less_one : (a b : ℕ) → 0 < a → (a - 1) * b ≡ a * b - b
times_less_one zero b h = elim h [ ]
times_less_one (suc a) b h = let e : suc a - 1 ≡ a = omega arith in rw e (omega arith)

-- the mask of the field
field_mask : (low width : ℕ) → low + width ≤ 32 → width < 32
    → (1 * 2 ^ width % 2 ^ 32 - 1) * 2 ^ low % 2 ^ 32 ≡ 2 ^ (width + low) - 2 ^ low
field_mask low width h narrow =
    let fits : 2 ^ width - 1 < 2 ^ width = omega (arith, pow_pos width) in
    ap (λ n. n * 2 ^ low % 2 ^ 32) (low_mask width narrow)
    ∙ shl_whole (2 ^ width - 1) width low 32 fits (omega arith)
    ∙ times_less_one (2 ^ width) (2 ^ low) (pow_pos width)
    ∙ ap (λ n. n - 2 ^ low) (sym (pow-add 2 width low))

-- the word with the field cleared
cleared : (low width word : ℕ) → low + width ≤ 32 → word < 2 ^ 32
    → bit_and word (2 ^ 32 - 1 - (2 ^ (width + low) - 2 ^ low)) ≡ word / 2 ^ (width + low) * 2 ^ (width + low) + word % 2 ^ low
cleared low width word h small =
    let turned : width + low ≤ 32 = omega arith in
    let most : 2 ^ (width + low) ≤ 2 ^ 32 = pow-le-pow_right (lit< tt) turned in
    let m : 2 ^ (width + low) - 2 ^ low < 2 ^ 32 = omega (arith, pow_pos low) in
    omega (arith, and-not 32 (2 ^ (width + low) - 2 ^ low) word m small, and_comm word (2 ^ 32 - 1 - (2 ^ (width + low) - 2 ^ low)), and_comm word (2 ^ (width + low) - 2 ^ low), and_high word width low, word_in_parts low width word)

-- to set a field that is clear
set_clear : (low width high value rest : ℕ) → value < 2 ^ width → rest < 2 ^ low
    → bit_or (high * 2 ^ width * 2 ^ low + rest) (value * 2 ^ low + 0) ≡ (high * 2 ^ width + value) * 2 ^ low + rest
set_clear low width high value rest fits low_fits =
    or_block low (high * 2 ^ width) value rest 0 low_fits (pow_pos low)
    ∙ ap (λ n. n * 2 ^ low + bit_or rest 0) (or_shifted high width value fits)
    ∙ ap (λ n. (high * 2 ^ width + value) * 2 ^ low + n) (or_zero_r rest)

joined : (p q t high value rest : ℕ) → p ≡ q * t
    → (high * q + value) * t + rest ≡ high * p + value * t + rest
joined p q t high value rest e = rw e (omega arith)

pub field_by_mask : (low width word value : ℕ) → low + width ≤ 32 → width < 32 → word < 2 ^ 32 → value < 2 ^ width
    → bit_or (bit_and word (2 ^ 32 - 1 - (1 * 2 ^ width % 2 ^ 32 - 1) * 2 ^ low % 2 ^ 32)) (value * 2 ^ low % 2 ^ 32)
    ≡ with_field low width word value
unfolding with_field
field_by_mask low width word value h narrow small fits =
    let rest : word % 2 ^ low < 2 ^ low = mod_below word (2 ^ low) (pow_pos low) in
    let split : 2 ^ (width + low) ≡ 2 ^ width * 2 ^ low = pow-add 2 width low in
    let turned : 2 ^ (low + width) ≡ 2 ^ (width + low) = ap (λ n. 2 ^ n) (omega arith) in
    let high : ℕ = word / 2 ^ (width + low) in
    ap (λ n. bit_or (bit_and word (2 ^ 32 - 1 - n)) (value * 2 ^ low % 2 ^ 32)) (field_mask low width h narrow)
    ∙ ap (λ n. bit_or n (value * 2 ^ low % 2 ^ 32)) (cleared low width word h small)
    ∙ ap (λ n. bit_or (high * 2 ^ (width + low) + word % 2 ^ low) n) (shl_whole value width low 32 fits (omega arith) ∙ sym (add-zero (value * 2 ^ low)))
    ∙ ap (λ n. bit_or (n + word % 2 ^ low) (value * 2 ^ low + 0)) (ap (λ n. high * n) split ∙ sym (mul_assoc high (2 ^ width) (2 ^ low)))
    ∙ set_clear low width high value (word % 2 ^ low) fits rest
    ∙ joined (2 ^ (width + low)) (2 ^ width) (2 ^ low) high value (word % 2 ^ low) split
    ∙ ap (λ n. word / n * n + value * 2 ^ low + word % 2 ^ low) (sym turned)

-- c * p - 1 - n, where n is a * p + b
complement_in_parts : (p c a b d n whole : ℕ) → d + suc a ≡ c → b < p → n ≡ a * p + b → whole ≡ c * p - suc n
    → whole ≡ d * p + (p - 1 - b)
complement_in_parts p c a b d n whole e h split is = omega (arith, ap (λ k. k * p) e)

mod_of_complement : (width n whole : ℕ) → width < 64 → n < 2 ^ 64 → whole ≡ 2 ^ 64 - suc n
    → whole % 2 ^ width ≡ 2 ^ width - 1 - n % 2 ^ width
mod_of_complement width n whole h small e =
    let b : n % 2 ^ width < 2 ^ width = mod_below n (2 ^ width) (pow_pos width) in
    let whole_width : 64 - width + width ≡ 64 = omega arith in
    let parts : 2 ^ (64 - width) * 2 ^ width ≡ 2 ^ 64 = sym (pow-add 2 (64 - width) width) ∙ ap (λ k. 2 ^ k) whole_width in
    let a_small : n / 2 ^ width < 2 ^ (64 - width) = div_below n (2 ^ width) (2 ^ (64 - width)) (pow_pos width) (omega arith) in
    let d : 2 ^ (64 - width) - suc (n / 2 ^ width) + suc (n / 2 ^ width) ≡ 2 ^ (64 - width) = omega arith in
    let turned : whole ≡ (2 ^ (64 - width) - suc (n / 2 ^ width)) * 2 ^ width + (2 ^ width - 1 - n % 2 ^ width) =
    complement_in_parts (2 ^ width) (2 ^ (64 - width)) (n / 2 ^ width) (n % 2 ^ width) (2 ^ (64 - width) - suc (n / 2 ^ width)) n whole d b
    (omega (arith, div-add-mod' n (2 ^ width))) (omega arith) in
    ap (λ m. m % 2 ^ width) turned ∙ mod_low (2 ^ (64 - width) - suc (n / 2 ^ width)) width (2 ^ width - 1 - n % 2 ^ width) (omega arith)

-- the low bits of a signed number, taken from its two's complement in 64 bits
pub twos_complement_by_mask : (width : ℕ) (number : ℤ) (whole : ℕ) → width < 32 → FitsSigned w64 number
    → whole ≡ cast_unsigned w64 number
    → bit_and whole (1 * 2 ^ width % 2 ^ 64 - 1) ≡ twos_complement width number
unfolding twos_complement
twos_complement_by_mask width (pos n) whole h fits e =
    ap (λ m. bit_and whole (m - 1)) (one_shl width 64 (omega arith)) ∙ and_mask whole width ∙ ap (λ m. m % 2 ^ width) e
twos_complement_by_mask width (negsuc n) whole h fits e =
    ap (λ m. bit_and whole (m - 1)) (one_shl width 64 (omega arith)) ∙ and_mask whole width ∙ mod_of_complement width n whole (omega arith) (omega (arith, fits.sfits)) e

-- ---- laws of the definitions

-- the bits from the field's lowest on, and those below
field_lowest : (low width word value : ℕ)
    → with_field low width word value ≡ (word / 2 ^ (low + width) * 2 ^ width + value) * 2 ^ low + word % 2 ^ low
unfolding with_field
field_lowest low width word value =
    let split : 2 ^ (low + width) ≡ 2 ^ width * 2 ^ low = pow-add 2 low width ∙ mul_comm (2 ^ low) (2 ^ width) in
    sym (joined (2 ^ (low + width)) (2 ^ width) (2 ^ low) (word / 2 ^ (low + width)) value (word % 2 ^ low) split)

rest_below : (low word : ℕ) → word % 2 ^ low < 2 ^ low
rest_below low word = mod_below word (2 ^ low) (pow_pos low)

field_and_rest_below : (low width value rest : ℕ) → value < 2 ^ width → rest < 2 ^ low
    → value * 2 ^ low + rest < 2 ^ (low + width)
field_and_rest_below low width value rest fits small =
    omega (arith, mul-add-lt value (2 ^ low) rest (2 ^ width) fits small, pow-add 2 low width)

-- the bits above the field, and those from there down
field_highest : (low width word value : ℕ)
    → with_field low width word value ≡ word / 2 ^ (low + width) * 2 ^ (low + width) + (value * 2 ^ low + word % 2 ^ low)
unfolding with_field
field_highest low width word value = omega arith

-- what is read after a write is what was written
pub field_at-with_field : (low width word value : ℕ) → value < 2 ^ width
    → field_at low width (with_field low width word value) ≡ value
unfolding field_at
field_at-with_field low width word value fits =
    ap (λ n. n / 2 ^ low % 2 ^ width) (field_lowest low width word value)
    ∙ ap (λ n. n % 2 ^ width) (shr_high (word / 2 ^ (low + width) * 2 ^ width + value) low (word % 2 ^ low) (rest_below low word))
    ∙ mod_low (word / 2 ^ (low + width)) width value fits

above_field : (low width word value : ℕ) → value < 2 ^ width
    → with_field low width word value / 2 ^ (low + width) ≡ word / 2 ^ (low + width)
above_field low width word value fits =
    ap (λ n. n / 2 ^ (low + width)) (field_highest low width word value)
    ∙ shr_high (word / 2 ^ (low + width)) (low + width) (value * 2 ^ low + word % 2 ^ low)
    (field_and_rest_below low width value (word % 2 ^ low) fits (rest_below low word))

below_field : (low width word value : ℕ) → with_field low width word value % 2 ^ low ≡ word % 2 ^ low
below_field low width word value =
    ap (λ n. n % 2 ^ low) (field_lowest low width word value)
    ∙ mod_low (word / 2 ^ (low + width) * 2 ^ width + value) low (word % 2 ^ low) (rest_below low word)

-- the last write counts
pub with_field-with_field : (low width word value later : ℕ) → value < 2 ^ width
    → with_field low width (with_field low width word value) later ≡ with_field low width word later
unfolding with_field
with_field-with_field low width word value later fits =
    let high = above_field low width word value fits in
    let rest = below_field low width word value in
    ap (λ n. n * 2 ^ (low + width) + later * 2 ^ low + with_field low width word value % 2 ^ low) high
    ∙ ap (λ n. word / 2 ^ (low + width) * 2 ^ (low + width) + later * 2 ^ low + n) rest

-- to write what stands there changes nothing
pub with_field-field_at : (low width word : ℕ) → with_field low width word (field_at low width word) ≡ word
unfolding with_field field_at
with_field-field_at low width word =
    let turned : low + width ≡ width + low = omega arith in
    ap (λ k. word / 2 ^ k * 2 ^ k + word / 2 ^ low % 2 ^ width * 2 ^ low + word % 2 ^ low) turned
    ∙ word_in_parts low width word

pub with_field-lt : (low width word value : ℕ) → low + width ≤ 32 → word < 2 ^ 32 → value < 2 ^ width
    → with_field low width word value < 2 ^ 32
with_field-lt low width word value h small fits =
    let rest_width : 32 - (low + width) + (low + width) ≡ 32 = omega arith in
    let whole : 2 ^ (32 - (low + width)) * 2 ^ (low + width) ≡ 2 ^ 32 =
    sym (pow-add 2 (32 - (low + width)) (low + width)) ∙ ap (λ k. 2 ^ k) rest_width in
    let high : word / 2 ^ (low + width) < 2 ^ (32 - (low + width)) =
    div_below word (2 ^ (low + width)) (2 ^ (32 - (low + width))) (pow_pos (low + width)) (omega arith) in
    omega (arith, field_highest low width word value, whole, mul-add-lt (word / 2 ^ (low + width)) (2 ^ (low + width)) (value * 2 ^ low + word % 2 ^ low) (2 ^ (32 - (low + width))) high (field_and_rest_below low width value (word % 2 ^ low) fits (rest_below low word)))

-- the bits of the word that a write leaves: below the field, in it and above it
bit_at_below : (low width word value k : ℕ) → k < low → bit_at (with_field low width word value) k ≡ bit_at word k
bit_at_below low width word value k h =
    ap (λ n. bit_at n k) (field_lowest low width word value)
    ∙ bit_at_cat_low (word / 2 ^ (low + width) * 2 ^ width + value) low (word % 2 ^ low) k h
    ∙ sym (bit_at_cat_low (word / 2 ^ low) low (word % 2 ^ low) k h)
    ∙ ap (λ n. bit_at n k) (div-add-mod' word (2 ^ low))

bit_at_above_field : (low width word value k : ℕ) → value < 2 ^ width → low + width ≤ k
    → bit_at (with_field low width word value) k ≡ bit_at word k
bit_at_above_field low width word value k fits h =
    ap (λ n. bit_at n k) (field_highest low width word value)
    ∙ bit_at_cat_high (word / 2 ^ (low + width)) (low + width) (value * 2 ^ low + word % 2 ^ low) k
    (field_and_rest_below low width value (word % 2 ^ low) fits (rest_below low word)) h
    ∙ sym (bit_at_cat_high (word / 2 ^ (low + width)) (low + width) (word % 2 ^ (low + width)) k (rest_below (low + width) word) h)
    ∙ ap (λ n. bit_at n k) (div-add-mod' word (2 ^ (low + width)))

pub same_below : (low width word value first end : ℕ) → end ≤ low
    → SameBits first end word (with_field low width word value)
same_below low width word value first end h =
    record { same = λ k from to. bit_at_below low width word value k (omega arith) }

pub same_above : (low width word value first end : ℕ) → value < 2 ^ width → low + width ≤ first
    → SameBits first end word (with_field low width word value)
same_above low width word value first end fits h =
    record { same = λ k from to. bit_at_above_field low width word value k fits (omega arith) }

pub same_twice : (first end a b c : ℕ) → SameBits first end a b → SameBits first end b c → SameBits first end a c
same_twice first end a b c p q = record { same = λ k from to. q.same k from to ∙ p.same k from to }

pub field_at-lt : (low width word : ℕ) → field_at low width word < 2 ^ width
unfolding field_at
field_at-lt low width word = mod_below (word / 2 ^ low) (2 ^ width) (pow_pos width)

-- the bits of a field
bit_at_field : (low width word k : ℕ) → k < width → bit_at (field_at low width word) k ≡ bit_at word (low + k)
unfolding field_at
bit_at_field low width word k h =
    sym (bit_at_cat_low (word / 2 ^ low / 2 ^ width) width (word / 2 ^ low % 2 ^ width) k h)
    ∙ ap (λ n. bit_at n k) (div-add-mod' (word / 2 ^ low) (2 ^ width))
    ∙ ap (λ n. n % 2) (shr-shr word low k)

-- a field of which no bit changed
pub same_field : (low width old new : ℕ) → SameBits low (low + width) old new
    → field_at low width new ≡ field_at low width old
same_field low width old new h =
    same_from_bits_below width (field_at low width new) (field_at low width old)
    (field_at-lt low width new) (field_at-lt low width old)
    (λ k small. bit_at_field low width new k small ∙ h.same (low + k) (omega arith) (omega arith) ∙ sym (bit_at_field low width old k small))

pub twos_complement-lt : (width : ℕ) (z : ℤ) → twos_complement width z < 2 ^ width
unfolding twos_complement
twos_complement-lt width (pos n) = mod_below n (2 ^ width) (pow_pos width)
twos_complement-lt width (negsuc n) = omega (arith, pow_pos width)

-- a signed number of `width` bits is read back from its two's complement
pub sign_extended-twos_complement : (width : ℕ) (z : ℤ) → 2 ^ width ≡ 2 * 2 ^ (width - 1) → mag z < 2 ^ (width - 1)
    → sign_extended width (twos_complement width z) ≡ z
unfolding sign_extended twos_complement
sign_extended-twos_complement width (pos n) double fits =
    let whole : n % 2 ^ width ≡ n = mod-eq_of_lt (omega arith) in
    rw (whole, lt-ltb n (2 ^ (width - 1)) fits)
sign_extended-twos_complement width (negsuc n) double fits =
    let whole : n % 2 ^ width ≡ n = mod-eq_of_lt (omega arith) in
    let above : 2 ^ (width - 1) ≤ 2 ^ width - 1 - n = omega arith in
    let back : 2 ^ width - 1 - (2 ^ width - 1 - n) ≡ n = omega arith in
    rw (whole, le-ltb (2 ^ width - 1 - n) (2 ^ (width - 1)) above, back)

-- the two's complement of the signed reading is what was read
pub twos_complement-sign_extended : (width n : ℕ) → 2 ^ width ≡ 2 * 2 ^ (width - 1) → n < 2 ^ width
    → twos_complement width (sign_extended width n) ≡ n
unfolding sign_extended twos_complement
twos_complement-sign_extended width n double fits =
    elim (cases_lt n (2 ^ (width - 1))) [
      | inl below ↦ ap (twos_complement width) (cond-true _ _ _ (lt-ltb n (2 ^ (width - 1)) below)) ∙ mod-eq_of_lt fits
      | inr above ↦
          let small : 2 ^ width - 1 - n < 2 ^ width = omega arith in
          let whole : (2 ^ width - 1 - n) % 2 ^ width ≡ 2 ^ width - 1 - n = mod-eq_of_lt small in
          ap (twos_complement width) (cond-false _ _ _ (le-ltb n (2 ^ (width - 1)) above))
          ∙ omega (arith, whole)
    ]

-- the signed reading fits
pub sign_extended-lt : (width n : ℕ) → 2 ^ width ≡ 2 * 2 ^ (width - 1) → n < 2 ^ width
    → mag (sign_extended width n) < 2 ^ (width - 1)
unfolding sign_extended
sign_extended-lt width n double fits =
    elim (cases_lt n (2 ^ (width - 1))) [
      | inl below ↦ rw lt-ltb below
      | inr above ↦ rw le-ltb (omega arith)
    ]

-- the code's two branches
pub sign_clear : (width bits : ℕ) → width < 32 → bits < 1 * 2 ^ (width - 1) % 2 ^ 32 → pos bits ≡ sign_extended width bits
unfolding sign_extended
sign_clear width bits narrow h =
    let below : bits < 2 ^ (width - 1) = omega (arith, one_shl (width - 1) 32 (omega arith)) in
    sym (cond-true _ _ _ (lt-ltb bits (2 ^ (width - 1)) below))

below_minus : (a p : ℕ) → a < p → pos a -ℤ pos p ≡ negsuc (p - 1 - a)
below_minus a p h = omega (arith, ints)

pub sign_set : (width bits : ℕ) → width < 32 → bits < 2 ^ width → 1 * 2 ^ (width - 1) % 2 ^ 32 ≤ bits
    → pos bits -ℤ pos (2 ^ width) ≡ sign_extended width bits
unfolding sign_extended
sign_set width bits narrow fits h =
    let above : 2 ^ (width - 1) ≤ bits = omega (arith, one_shl (width - 1) 32 (omega arith)) in
    below_minus bits (2 ^ width) fits ∙ sym (cond-false _ _ _ (le-ltb bits (2 ^ (width - 1)) above))

pub sign_clear_held : (width bits : ℕ) (number : ℤ) → width < 32 → bits < 2 ^ 32 → number ≡ pos bits
    → bits < 1 * 2 ^ (width - 1) % 2 ^ 32
    → cast_signed w64 (cast_unsigned w64 number) ≡ sign_extended width bits
sign_clear_held width bits number narrow small is h =
    ap (λ z. cast_signed w64 (cast_unsigned w64 z)) is
    ∙ to_z-of_z w64 (pos bits) (record { sfits = omega arith })
    ∙ sign_clear width bits narrow h

minus_fits : (a p : ℕ) → a < 2 ^ 32 → p < 2 ^ 32 → FitsSigned w64 (pos a -ℤ pos p)
minus_fits a p h k = search rules

pub sign_set_held : (width bits : ℕ) (number : ℤ) → width < 32 → bits < 2 ^ 32 → number ≡ pos bits → bits < 2 ^ width
    → 1 * 2 ^ (width - 1) % 2 ^ 32 ≤ bits
    → cast_signed w64 (cast_unsigned w64 (cast_signed w64 (cast_unsigned w64 number) -ℤ cast_signed w64 (1 * 2 ^ width % 2 ^ 64)))
    ≡ sign_extended width bits
sign_set_held width bits number narrow small is fits h =
    let most : 2 ^ width < 2 ^ 32 = pow_below width 32 narrow in
    let power : 1 * 2 ^ width % 2 ^ 64 ≡ 2 ^ width = one_shl width 64 (omega arith) in
    ap (λ z. cast_signed w64 (cast_unsigned w64 (cast_signed w64 (cast_unsigned w64 z) -ℤ cast_signed w64 (1 * 2 ^ width % 2 ^ 64)))) is
    ∙ ap (λ z. cast_signed w64 (cast_unsigned w64 (z -ℤ cast_signed w64 (1 * 2 ^ width % 2 ^ 64)))) (to_z-of_z w64 (pos bits) (record { sfits = omega arith }))
    ∙ ap (λ n. cast_signed w64 (cast_unsigned w64 (pos bits -ℤ cast_signed w64 n))) power
    ∙ ap (λ z. cast_signed w64 (cast_unsigned w64 (pos bits -ℤ z))) (to_z_pos w64 (2 ^ width) (omega arith))
    ∙ to_z-of_z w64 _ (minus_fits bits (2 ^ width) small most)
    ∙ sign_set width bits narrow fits h
