-- What the three instructions of a stub do.
use Rattle.std.proofs.Common.{◌≡◌, ℕ, ◌/◌, ◌%◌, ◌^◌, ◌<◌, List, [], ◌++◌, length, refl, sym, ap, ◌∙◌, arith, append_assoc, ℤ, pos, ◌+ℤ◌}
use Rattle.std.proofs.lemmas.Int.{ints}
use Rattle.std.proofs.lemmas.List.{append-nil, drop_at, length-append}
use Rattle.byteorder.specs.Endian.{little_number}
use Rattle.arm64_insn.specs.Field.{field_at, twos_complement, with_field}
use Rattle.arm64_insn.specs.Low12.{IsWholeSteps, imm12_scale, low12_of, low12_word}
use Rattle.arm64_insn.specs.Page.{IsPageDelta, page_of, page_word, with_immhi_immlo}
use Rattle.arm64_insn.proofs.FieldLemmas.{twos_complement-lt, with_field-with_field}
use Rattle.arm64_insn.proofs.Low12Lemmas.{low12_of-low12_word, low12_word-lt}
use Rattle.arm64_insn.proofs.PageLemmas.{page_of-page_word, page_word-lt, with-with_immhi_immlo}
use Rattle.image_read.specs.Reaches.{ADRP_X16, BR_X16, LDR_X16, without_low12, without_page}
use Rattle.mo_bytes.specs.Number.{number, number_bytes}
use Rattle.mo_bytes.proofs.Numbers.{length-number_bytes, number-number_bytes}
use Rattle.slot_place.specs.Stubs.{LoadsSlot, pages_between, stub_bytes}

moved : (at slot : ℕ) → pos (at / 0x1000) +ℤ pages_between at slot ≡ pos (slot / 0x1000)
unfolding pages_between
moved at slot = omega (arith, ints)

bare_page : (pages : ℤ) → without_page (page_word ADRP_X16 pages) ≡ ADRP_X16
unfolding page_word with_immhi_immlo with_field
bare_page pages = with-with_immhi_immlo ADRP_X16 (twos_complement 21 pages) 0 (twos_complement-lt 21 pages) (omega arith)

bare_low : (slot : ℕ) → without_low12 (low12_word LDR_X16 slot) ≡ LDR_X16
unfolding low12_word imm12_scale field_at with_field
bare_low slot = with_field-with_field 10 12 LDR_X16 (slot % 2 ^ 12 / 8) 0 (omega arith)

-- a word behind others
second : (a b : List ℕ) (n : ℕ) → length a ≡ n → number 4 (a ++ b) n ≡ number 4 b 0
unfolding number
second a b n e = ap (little_number 4) (drop_at a b n e)

first : (n : ℕ) (rest : List ℕ) → n < 2 ^ 32 → number 4 (number_bytes 4 n ++ rest) 0 ≡ n
first n rest low = number-number_bytes 4 n rest (omega (arith, low))

three : (a b c : ℕ) → a < 2 ^ 32 → b < 2 ^ 32 → c < 2 ^ 32 → (bytes : List ℕ) → bytes ≡ number_bytes 4 a ++ (number_bytes 4 b ++ number_bytes 4 c) → (length bytes ≡ 12) × (number 4 bytes 0 ≡ a) × (number 4 bytes 4 ≡ b) × (number 4 bytes 8 ≡ c)
three a b c low low' low'' bytes is =
    let la = length-number_bytes 4 a in
    let lb = length-number_bytes 4 b in
    let lc = length-number_bytes 4 c in
    let later : length (number_bytes 4 b ++ number_bytes 4 c) ≡ 8 = length-append (number_bytes 4 b) (number_bytes 4 c) ∙ omega (arith, lb, lc) in
    let front : length (number_bytes 4 a ++ number_bytes 4 b) ≡ 8 = length-append (number_bytes 4 a) (number_bytes 4 b) ∙ omega (arith, la, lb) in
    rw is (
      length-append (number_bytes 4 a) (number_bytes 4 b ++ number_bytes 4 c) ∙ omega (arith, la, later),
      first a (number_bytes 4 b ++ number_bytes 4 c) low,
      second (number_bytes 4 a) (number_bytes 4 b ++ number_bytes 4 c) 4 la ∙ first b (number_bytes 4 c) low',
      ap (λ (z : List ℕ). number 4 z 8) (sym (append_assoc (number_bytes 4 a) (number_bytes 4 b) (number_bytes 4 c)))
          ∙ second (number_bytes 4 a ++ number_bytes 4 b) (number_bytes 4 c) 8 front
          ∙ ap (λ (z : List ℕ). number 4 z 0) (sym (append-nil (number_bytes 4 c))) ∙ first c [] low'',
    )

pub loads : (at slot : ℕ) → IsPageDelta (pages_between at slot) → IsWholeSteps LDR_X16 slot → LoadsSlot at slot (stub_bytes at slot)
unfolding stub_bytes
loads at slot near whole =
    let words = three (page_word ADRP_X16 (pages_between at slot)) (low12_word LDR_X16 slot) BR_X16 (page_word-lt ADRP_X16 (pages_between at slot) (omega arith)) (low12_word-lt LDR_X16 slot (omega arith)) (omega arith) _ refl in
    record {
      size = words.0;
      adrp = ap without_page words.1 ∙ bare_page (pages_between at slot);
      page = ap (λ (w : ℕ). pos (at / 0x1000) +ℤ page_of w) words.1 ∙ ap (λ (d : ℤ). pos (at / 0x1000) +ℤ d) (page_of-page_word ADRP_X16 (pages_between at slot) near) ∙ moved at slot;
      ldr = ap without_low12 words.2 ∙ bare_low slot;
      low = ap low12_of words.2 ∙ low12_of-low12_word LDR_X16 slot whole;
      br = words.3;
    }
