-- The laws of imm12: a write leaves the scale as it was, and is read back.
use Rattle.std.proofs.Common.{◌≡◌, ℕ, ◌+◌, ◌*◌, ◌/◌, ◌%◌, ◌^◌, ◌<◌, ◌≤◌, sym, ap, ◌∙◌, arith, lit≤, Some, bit_and, eq-eqb}
use Rattle.std.proofs.Math.Nat.{mod-eq_of_lt, mul-mod_left, div-le_self}
use Rattle.std.proofs.lemmas.Nat.{div-add-mod', shl-shr, shl_whole, one_shl, and_mask}
use Rattle.arm64_insn.specs.Low12.{imm12_scale, IsWholeSteps, low12_word, put_low12, low12_of}
use Rattle.arm64_insn.specs.Field.{field_at, with_field, SameBits}
use Rattle.arm64_insn.proofs.FieldLemmas.{field_at-with_field, field_at-lt, with_field-with_field, with_field-field_at, with_field-lt, same_above, same_below, same_field}

kept_above : (word value low width : ℕ) → value < 2 ^ 12 → 22 ≤ low
    → field_at low width (with_field 10 12 word value) ≡ field_at low width word
kept_above word value low width fits h =
    same_field low width word _ (same_above 10 12 word value low (low + width) fits h)

pub imm12_scale-with_field : (word value : ℕ) → value < 2 ^ 12
    → imm12_scale (with_field 10 12 word value) ≡ imm12_scale word
unfolding imm12_scale
imm12_scale-with_field word value fits =
    let load_store = kept_above word value 27 3 fits (lit≤ tt) in
    let addressing = kept_above word value 24 2 fits (lit≤ tt) in
    let size = kept_above word value 30 2 fits (lit≤ tt) in
    let vector = kept_above word value 26 1 fits (lit≤ tt) in
    let opc_high = kept_above word value 23 1 fits (lit≤ tt) in
    rw (load_store, addressing, size, vector, opc_high)

steps-lt : (word target : ℕ) → target % 2 ^ 12 / 2 ^ imm12_scale word < 2 ^ 12
steps-lt word target = omega (arith, div-le_self (target % 2 ^ 12) (2 ^ imm12_scale word))

pub imm12_scale-low12_word : (word target : ℕ) → imm12_scale (low12_word word target) ≡ imm12_scale word
unfolding low12_word
imm12_scale-low12_word word target = imm12_scale-with_field word _ (steps-lt word target)

pub low12_of-low12_word : (word target : ℕ) → IsWholeSteps word target
    → low12_of (low12_word word target) ≡ target % 2 ^ 12
unfolding low12_of low12_word
low12_of-low12_word word target whole =
    ap (λ n. n * 2 ^ imm12_scale (low12_word word target)) (field_at-with_field 10 12 word _ (steps-lt word target))
    ∙ ap (λ n. target % 2 ^ 12 / 2 ^ imm12_scale word * 2 ^ n) (imm12_scale-low12_word word target)
    ∙ omega (arith, div-add-mod' (target % 2 ^ 12) (2 ^ imm12_scale word), whole)

pub low12_word-low12_word : (word target later : ℕ)
    → low12_word (low12_word word target) later ≡ low12_word word later
unfolding low12_word
low12_word-low12_word word target later =
    ap (λ n. with_field 10 12 (low12_word word target) (later % 2 ^ 12 / 2 ^ n)) (imm12_scale-low12_word word target)
    ∙ with_field-with_field 10 12 word _ _ (steps-lt word target)

pub put_low12-low12_word : (word target later : ℕ) → put_low12 (low12_word word target) later ≡ put_low12 word later
put_low12-low12_word word target later = rw (imm12_scale-low12_word word target, low12_word-low12_word word target later)

pub low12_word-same : (word target : ℕ)
    → SameBits 0 10 word (low12_word word target) × SameBits 22 32 word (low12_word word target)
unfolding low12_word
low12_word-same word target =
    (same_below 10 12 word _ 0 10 (lit≤ tt), same_above 10 12 word _ 22 32 (steps-lt word target) (lit≤ tt))

pub low12_word-lt : (word target : ℕ) → word < 2 ^ 32 → low12_word word target < 2 ^ 32
unfolding low12_word
low12_word-lt word target small = with_field-lt 10 12 word _ (lit≤ tt) small (steps-lt word target)

low12_word-low12_of : (word : ℕ) → low12_of word < 2 ^ 12 → low12_word word (low12_of word) ≡ word
unfolding low12_of low12_word
low12_word-low12_of word fits =
    let low : low12_of word % 2 ^ 12 ≡ low12_of word = mod-eq_of_lt fits in
    ap (λ n. with_field 10 12 word (n / 2 ^ imm12_scale word)) low
    ∙ ap (with_field 10 12 word) (shl-shr (field_at 10 12 word) (imm12_scale word))
    ∙ with_field-field_at 10 12 word

low12_of-whole : (word : ℕ) → low12_of word < 2 ^ 12 → IsWholeSteps word (low12_of word)
unfolding low12_of
low12_of-whole word fits =
    let low : low12_of word % 2 ^ 12 ≡ low12_of word = mod-eq_of_lt fits in
    ap (λ n. n % 2 ^ imm12_scale word) low ∙ mul-mod_left (field_at 10 12 word) (2 ^ imm12_scale word)

pub put_low12-low12_of : (word n : ℕ) → n ≡ low12_of word → n < 2 ^ 12 → put_low12 word n ≡ Some word
put_low12-low12_of word n is fits =
    let small : low12_of word < 2 ^ 12 = omega arith in
    ap (put_low12 word) is
    ∙ rw (eq-eqb _ _ (low12_of-whole word small), low12_word-low12_of word small)

-- the word that the code makes
pub low12_made : (word target scale new : ℕ) → scale ≡ imm12_scale word → scale ≤ 4
    → bit_and target 4095 % (1 * 2 ^ scale % 2 ^ 32) ≡ 0
    → new ≡ with_field 10 12 word (bit_and target 4095 / (1 * 2 ^ scale % 2 ^ 32))
    → IsWholeSteps word target × (new ≡ low12_word word target)
unfolding low12_word
low12_made word target scale new is small whole made =
    let step : 1 * 2 ^ scale % 2 ^ 32 ≡ 2 ^ imm12_scale word = one_shl scale 32 (omega arith) ∙ ap (λ n. 2 ^ n) is in
    let low : bit_and target 4095 ≡ target % 2 ^ 12 = and_mask target 12 in (
      ap (λ n. n % 2 ^ imm12_scale word) (sym low) ∙ ap (λ n. bit_and target 4095 % n) (sym step) ∙ whole,
      made ∙ ap (λ n. with_field 10 12 word (bit_and target 4095 / n)) step
          ∙ ap (λ n. with_field 10 12 word (n / 2 ^ imm12_scale word)) low,
    )

-- what the code reads
pub low12_by_shift : (word field scale : ℕ) → field ≡ field_at 10 12 word → scale ≡ imm12_scale word → scale ≤ 4
    → field * 2 ^ scale % 2 ^ 64 ≡ low12_of word
unfolding low12_of
low12_by_shift word field scale is_field is_scale small =
    let narrow : field < 2 ^ 12 = omega (arith, field_at-lt 10 12 word) in
    let fits : 12 + scale ≤ 64 = omega arith in
    shl_whole field 12 scale 64 narrow fits
    ∙ ap (λ n. n * 2 ^ scale) is_field
    ∙ ap (λ n. field_at 10 12 word * 2 ^ n) is_scale
