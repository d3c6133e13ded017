-- The test of a distance in pages, and the laws of the field that holds it.
use Rattle.std.proofs.Common.{◌≡◌, ℕ, ◌+◌, ◌*◌, ◌/◌, ◌%◌, ◌^◌, ◌<◌, ◌≤◌, refl, ap, ◌∙◌, arith, lit≤, ℤ, pos, negsuc, w64, true, false, Some, bit_and, bit_or, inl, inr, ◌⊎◌}
use Rattle.std.specs.Int.{cast_unsigned, cast_signed}
use Rattle.std.specs.Int.Signed.{mag}
use Rattle.std.specs.Prelude.{int_le, int_lt, FitsSigned}
use Rattle.std.proofs.lemmas.Bool.Decides.{nat_tests}
use Rattle.std.proofs.lemmas.Int.{ints, to_z-of_z}
use Rattle.std.proofs.lemmas.Nat.{or_shifted, and_mask}
use Rattle.arm64_insn.specs.Page.{IsPageDelta, is_page_delta, with_immhi_immlo, immhi_immlo, page_word, put_page, page_of}
use Rattle.arm64_insn.specs.Field.{field_at, with_field, twos_complement, sign_extended, SameBits}
use Rattle.arm64_insn.proofs.FieldLemmas.{field_at-with_field, field_at-lt, with_field-with_field, with_field-field_at, with_field-lt, same_above, same_below, same_twice, same_field, twos_complement-lt, sign_extended-twos_complement, twos_complement-sign_extended, sign_extended-lt}

pub tested_in_pages : (pages : ℤ) → is_page_delta pages ≡ true → IsPageDelta pages
unfolding is_page_delta
tested_in_pages (pos n) h = record { least = grind (arith, ints, nat_tests); greatest = grind (arith, ints, nat_tests) }
tested_in_pages (negsuc n) h = record { least = grind (arith, ints, nat_tests); greatest = grind (arith, ints, nat_tests) }

pub pages_tested : (pages : ℤ) → IsPageDelta pages → is_page_delta pages ≡ true
unfolding is_page_delta
pages_tested (pos n) h = grind (arith, ints, nat_tests, h.greatest)
pages_tested (negsuc n) h = grind (arith, ints, nat_tests, h.least)

-- the code's two tests
above_least : (pages : ℤ) → int_le (negsuc 1048575) pages ≡ true → int_lt pages (pos 1048576) ≡ is_page_delta pages
unfolding is_page_delta
above_least (pos n) h = refl
above_least (negsuc n) h = grind (arith, nat_tests)

below_least : (pages : ℤ) → int_le (negsuc 1048575) pages ≡ false → int_le (negsuc 1048575) pages ≡ is_page_delta pages
unfolding is_page_delta
below_least (pos n) h = grind (arith, nat_tests)
below_least (negsuc n) h = grind (arith, nat_tests)

pub held_above_least : (pages : ℤ) → FitsSigned w64 pages
    → int_le (negsuc 1048575) (cast_signed w64 (cast_unsigned w64 pages)) ≡ true
    → int_lt (cast_signed w64 (cast_unsigned w64 pages)) (pos 1048576) ≡ is_page_delta pages
held_above_least pages fits = rw to_z-of_z (above_least pages)

pub held_below_least : (pages : ℤ) → FitsSigned w64 pages
    → int_le (negsuc 1048575) (cast_signed w64 (cast_unsigned w64 pages)) ≡ false
    → int_le (negsuc 1048575) (cast_signed w64 (cast_unsigned w64 pages)) ≡ is_page_delta pages
held_below_least pages fits = rw to_z-of_z (below_least pages)

pub ruleset page_tests = (held_above_least, held_below_least)

-- ---- immhi:immlo

quarter-lt : (value : ℕ) → value < 2 ^ 21 → value / 4 < 2 ^ 19
quarter-lt value h = omega arith

rest-lt : (value : ℕ) → value % 4 < 2 ^ 2
rest-lt value = omega arith

immhi_kept : (word value : ℕ) → value < 2 ^ 2 → field_at 5 19 (with_field 29 2 word value) ≡ field_at 5 19 word
immhi_kept word value fits = same_field 5 19 word _ (same_below 29 2 word value 5 24 (lit≤ tt))

pub immhi_immlo-with : (word value : ℕ) → value < 2 ^ 21 → immhi_immlo (with_immhi_immlo word value) ≡ value
unfolding immhi_immlo with_immhi_immlo
immhi_immlo-with word value fits =
    ap (λ n. n * 4 + field_at 29 2 (with_field 29 2 (with_field 5 19 word (value / 4)) (value % 4)))
    (immhi_kept (with_field 5 19 word (value / 4)) (value % 4) (rest-lt value) ∙ field_at-with_field 5 19 word (value / 4) (quarter-lt value fits))
    ∙ ap (λ n. value / 4 * 4 + n) (field_at-with_field 29 2 (with_field 5 19 word (value / 4)) (value % 4) (rest-lt value))
    ∙ omega arith

pub immhi_immlo-lt : (word : ℕ) → immhi_immlo word < 2 ^ 21
unfolding immhi_immlo
immhi_immlo-lt word = omega (arith, field_at-lt 5 19 word, field_at-lt 29 2 word)

pub with-immhi_immlo : (word : ℕ) → with_immhi_immlo word (immhi_immlo word) ≡ word
unfolding immhi_immlo with_immhi_immlo
with-immhi_immlo word =
    let high : (field_at 5 19 word * 4 + field_at 29 2 word) / 4 ≡ field_at 5 19 word = omega (arith, field_at-lt 29 2 word) in
    let low : (field_at 5 19 word * 4 + field_at 29 2 word) % 4 ≡ field_at 29 2 word = omega (arith, field_at-lt 29 2 word) in
    ap (λ n. with_field 29 2 (with_field 5 19 word n) ((field_at 5 19 word * 4 + field_at 29 2 word) % 4)) high
    ∙ ap (with_field 29 2 (with_field 5 19 word (field_at 5 19 word))) low
    ∙ ap (λ n. with_field 29 2 n (field_at 29 2 word)) (with_field-field_at 5 19 word)
    ∙ with_field-field_at 29 2 word

-- the two writes in either order
exchanged : (word high low : ℕ) → high < 2 ^ 19 → low < 2 ^ 2
    → with_field 5 19 (with_field 29 2 word low) high ≡ with_field 29 2 (with_field 5 19 word high) low
unfolding with_field
exchanged word high low h l = omega arith

pub with-with_immhi_immlo : (word value later : ℕ) → value < 2 ^ 21 → later < 2 ^ 21
    → with_immhi_immlo (with_immhi_immlo word value) later ≡ with_immhi_immlo word later
unfolding with_immhi_immlo
with-with_immhi_immlo word value later fits more =
    ap (λ n. with_field 29 2 n (later % 4)) (exchanged (with_field 5 19 word (value / 4)) (later / 4) (value % 4) (quarter-lt later more) (rest-lt value))
    ∙ with_field-with_field 29 2 _ (value % 4) (later % 4) (rest-lt value)
    ∙ ap (λ n. with_field 29 2 n (later % 4)) (with_field-with_field 5 19 word (value / 4) (later / 4) (quarter-lt value fits))

-- ---- pages

page_fits : (pages : ℤ) → IsPageDelta pages → mag pages < 2 ^ 20
page_fits (pos n) h = omega (arith, ints, h.greatest)
page_fits (negsuc n) h = omega (arith, ints, h.least)

fits_page : (s : ℤ) → mag s < 2 ^ 20 → IsPageDelta s
fits_page (pos n) h = record { least = grind (arith, ints); greatest = grind (arith, ints) }
fits_page (negsuc n) h = record { least = grind (arith, ints); greatest = grind (arith, ints) }

pub page_of-page_word : (word : ℕ) (pages : ℤ) → IsPageDelta pages → page_of (page_word word pages) ≡ pages
unfolding page_of page_word
page_of-page_word word pages h =
    ap (sign_extended 21) (immhi_immlo-with word (twos_complement 21 pages) (twos_complement-lt 21 pages))
    ∙ sign_extended-twos_complement 21 pages refl (page_fits pages h)

pub page_word-page_word : (word : ℕ) (pages later : ℤ) → page_word (page_word word pages) later ≡ page_word word later
unfolding page_word
page_word-page_word word pages later =
    with-with_immhi_immlo word _ _ (twos_complement-lt 21 pages) (twos_complement-lt 21 later)

with_immhi_immlo-same : (word value first end : ℕ) → value < 2 ^ 21
    → ((end ≤ 5) ⊎ ((24 ≤ first) × (end ≤ 29))) ⊎ (31 ≤ first)
    → SameBits first end word (with_immhi_immlo word value)
unfolding with_immhi_immlo
with_immhi_immlo-same word value first end fits h =
    let middle : ℕ = with_field 5 19 word (value / 4) in
    same_twice first end word middle (with_field 29 2 middle (value % 4))
    (elim h [
      | inl p ↦ elim p [ inl q ↦ same_below 5 19 word (value / 4) first end q | inr q ↦ same_above 5 19 word (value / 4) first end (quarter-lt value fits) q.0 ]
      | inr p ↦ same_above 5 19 word (value / 4) first end (quarter-lt value fits) (omega arith)
    ])
    (elim h [
      | inl p ↦ elim p [ inl q ↦ same_below 29 2 middle (value % 4) first end (omega arith) | inr q ↦ same_below 29 2 middle (value % 4) first end q.1 ]
      | inr p ↦ same_above 29 2 middle (value % 4) first end (rest-lt value) p
    ])

pub page_word-same : (word : ℕ) (pages : ℤ)
    → SameBits 0 5 word (page_word word pages) × SameBits 24 29 word (page_word word pages) × SameBits 31 32 word (page_word word pages)
unfolding page_word
page_word-same word pages =
    let fits = twos_complement-lt 21 pages in (
      with_immhi_immlo-same word _ 0 5 fits (inl (inl (lit≤ tt))),
      with_immhi_immlo-same word _ 24 29 fits (inl (inr (lit≤ tt, lit≤ tt))),
      with_immhi_immlo-same word _ 31 32 fits (inr (lit≤ tt)),
    )

pub page_of-in_reach : (word : ℕ) → IsPageDelta (page_of word)
unfolding page_of
page_of-in_reach word = fits_page _ (sign_extended-lt 21 (immhi_immlo word) refl (immhi_immlo-lt word))

pub page_word-page_of : (word : ℕ) → page_word word (page_of word) ≡ word
unfolding page_of page_word
page_word-page_of word =
    ap (with_immhi_immlo word) (twos_complement-sign_extended 21 (immhi_immlo word) refl (immhi_immlo-lt word))
    ∙ with-immhi_immlo word

pub put_page-page_of : (word : ℕ) → put_page word (page_of word) ≡ Some word
put_page-page_of word = rw (pages_tested (page_of word) (page_of-in_reach word), page_word-page_of word)

pub put_page-page_word : (word : ℕ) (pages later : ℤ) → put_page (page_word word pages) later ≡ put_page word later
put_page-page_word word pages later = rw (page_word-page_word word pages later)

pub page_word-lt : (word : ℕ) (pages : ℤ) → word < 2 ^ 32 → page_word word pages < 2 ^ 32
unfolding page_word with_immhi_immlo
page_word-lt word pages small =
    with_field-lt 29 2 _ _ (lit≤ tt) (with_field-lt 5 19 word _ (lit≤ tt) small (quarter-lt _ (twos_complement-lt 21 pages))) (rest-lt _)

-- the word that the code makes
pub page_made : (word : ℕ) (pages : ℤ) (imm high new : ℕ) → FitsSigned w64 pages
    → imm ≡ twos_complement 21 (cast_signed w64 (cast_unsigned w64 pages))
    → high ≡ with_field 5 19 word (imm / 4) → new ≡ with_field 29 2 high (bit_and imm 3)
    → new ≡ page_word word pages
unfolding page_word with_immhi_immlo
page_made word pages imm high new fits is upper lower =
    let value : imm ≡ twos_complement 21 pages = is ∙ ap (twos_complement 21) (to_z-of_z w64 pages fits) in
    lower
    ∙ ap (with_field 29 2 high) (and_mask imm 2)
    ∙ ap (λ n. with_field 29 2 n (imm % 4)) upper
    ∙ ap (λ n. with_field 29 2 (with_field 5 19 word (n / 4)) (n % 4)) value

-- what the code reads
page_held : (s : ℤ) → mag s < 2 ^ 20 → cast_signed w64 (cast_unsigned w64 s) ≡ s
page_held s h = to_z-of_z w64 s (record { sfits = omega arith })

immhi_immlo_by_shift : (word high low : ℕ) → high ≡ field_at 5 19 word → low ≡ field_at 29 2 word
    → bit_or (high * 4 % 4294967296) low ≡ immhi_immlo word
unfolding immhi_immlo
immhi_immlo_by_shift word high low is_high is_low =
    let h : high < 2 ^ 19 = omega (arith, field_at-lt 5 19 word) in
    let l : low < 2 ^ 2 = omega (arith, field_at-lt 29 2 word) in
    let whole : high * 4 % 4294967296 ≡ high * 2 ^ 2 = omega arith in
    ap (λ n. bit_or n low) whole
    ∙ or_shifted high 2 low l
    ∙ ap (λ n. n * 4 + low) is_high
    ∙ ap (λ n. field_at 5 19 word * 4 + n) is_low

pub page_read : (word high low : ℕ) (s : ℤ) → high ≡ field_at 5 19 word → low ≡ field_at 29 2 word
    → s ≡ sign_extended 21 (bit_or (high * 4 % 4294967296) low)
    → cast_signed w64 (cast_unsigned w64 s) ≡ page_of word
unfolding page_of
page_read word high low s is_high is_low e =
    ap (λ z. cast_signed w64 (cast_unsigned w64 z)) (e ∙ ap (sign_extended 21) (immhi_immlo_by_shift word high low is_high is_low))
    ∙ page_held _ (sign_extended-lt 21 (immhi_immlo word) refl (immhi_immlo-lt word))
