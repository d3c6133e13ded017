-- What a number in memory tells, kind by kind.
use Rattle.std.proofs.Common.{◌≡◌, ℕ, ◌*◌, ◌/◌, ◌%◌, ◌<◌, ◌^◌, ℤ, pos, negsuc, ◌+ℤ◌, List, Some, refl, arith}
use Rattle.std.specs.Int.{cast_signed, w32, w64}
use Rattle.std.proofs.lemmas.Bool.{lt-ltb}
use Rattle.arm64_insn.specs.Branch.{branch_of}
use Rattle.arm64_insn.specs.Field.{twos_complement}
use Rattle.arm64_insn.specs.Low12.{low12_of}
use Rattle.arm64_insn.specs.Page.{page_of}
use Rattle.mo_types.specs.declared.reference.RefKind.TheVariants.{Diff32, Diff64, Branch, GotDelta, GotPage, GotPageOff, Page, PageOff, TlvPage, TlvPageOff}
use Rattle.image_read.specs.Meaning.{denote, long_in, word_in}
use Rattle.image_read.specs.declared.meaning.Meaning.TheVariants.{Address, Difference, Low12}

module _ (image : List ℕ) (at word : ℕ) (read : word_in image at ≡ Some word) where
  pub branch_told : (target : ℕ) → target < 2 ^ 64 → pos at +ℤ branch_of word ≡ pos target → denote image at Branch ≡ Address target
  unfolding denote
  branch_told target low reached = rw (read, reached, lt-ltb target (2 ^ 64) low) refl

  pub page_told : (target : ℕ) → target < 2 ^ 64 → pos (at / 0x1000) +ℤ page_of word ≡ pos (target / 0x1000) → denote image at Page ≡ Address (target / 0x1000 * 0x1000)
  unfolding denote
  page_told target low reached =
      rw (read, reached, lt-ltb (target / 0x1000) (2 ^ 64) (omega arith)) (rw (lt-ltb (target / 0x1000 * 0x1000) (2 ^ 64) (omega arith)) refl)

  pub got_page_told : (target : ℕ) → target < 2 ^ 64 → pos (at / 0x1000) +ℤ page_of word ≡ pos (target / 0x1000) → denote image at GotPage ≡ Address (target / 0x1000 * 0x1000)
  unfolding denote
  got_page_told target low reached =
      rw (read, reached, lt-ltb (target / 0x1000) (2 ^ 64) (omega arith)) (rw (lt-ltb (target / 0x1000 * 0x1000) (2 ^ 64) (omega arith)) refl)

  pub tlv_page_told : (target : ℕ) → target < 2 ^ 64 → pos (at / 0x1000) +ℤ page_of word ≡ pos (target / 0x1000) → denote image at TlvPage ≡ Address (target / 0x1000 * 0x1000)
  unfolding denote
  tlv_page_told target low reached =
      rw (read, reached, lt-ltb (target / 0x1000) (2 ^ 64) (omega arith)) (rw (lt-ltb (target / 0x1000 * 0x1000) (2 ^ 64) (omega arith)) refl)

  pub low12_told : denote image at PageOff ≡ Low12 (low12_of word)
  unfolding denote
  low12_told = rw read refl

  pub got_low12_told : denote image at GotPageOff ≡ Low12 (low12_of word)
  unfolding denote
  got_low12_told = rw read refl

  pub tlv_low12_told : denote image at TlvPageOff ≡ Low12 (low12_of word)
  unfolding denote
  tlv_low12_told = rw read refl

  pub delta_told : (target : ℕ) → target < 2 ^ 64 → pos at +ℤ cast_signed w32 word ≡ pos target → denote image at GotDelta ≡ Address target
  unfolding denote
  delta_told target low reached = rw (read, reached, lt-ltb target (2 ^ 64) low) refl

  pub diff32_told : denote image at Diff32 ≡ Difference (cast_signed w32 word)
  unfolding denote
  diff32_told = rw read refl

pub diff64_told : (image : List ℕ) (at long : ℕ) → long_in image at ≡ Some long → denote image at Diff64 ≡ Difference (cast_signed w64 long)
unfolding denote
diff64_told image at long read = rw read refl

-- the low 12 bits of an address of 64 bits
pub low12_same : (number : ℤ) → twos_complement 64 number % 2 ^ 12 ≡ twos_complement 12 number
unfolding twos_complement
low12_same (pos n) = omega arith
low12_same (negsuc n) = omega arith
