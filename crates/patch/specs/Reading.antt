-- What a field that was written tells a reader of images (`mach-o/arm64/reloc.h`; the Arm Architecture Reference
-- Manual for instructions).
use Rattle.std.specs.Prelude.{ℕ, ◌/◌, ◌%◌, ◌^◌, ◌≡◌, ◌<◌, pos, ◌+ℤ◌}
use Rattle.std.specs.Int.{cast_signed, w32}
use Rattle.arm64_insn.specs.Branch.{branch_of}
use Rattle.arm64_insn.specs.Field.{SameBits, twos_complement}
use Rattle.arm64_insn.specs.Low12.{low12_of}
use Rattle.arm64_insn.specs.Page.{page_of}
use Rattle.mo_types.specs.declared.reference.RefKind.{RefKind}
use Rattle.mo_types.specs.declared.reference.RefKind.TheVariants.{Pointer, Diff32, Diff64, Branch, Page, PageOff, GotPage, GotPageOff, GotDelta, GotPointer, TlvPage, TlvPageOff}
use Rattle.patch.specs.declared.met.Met.{Met}
use Rattle.patch.specs.Field.{difference_of, target_of}

-- a branch from an address leads to the target, which is an address
pub record LeadsTo (at word : ℕ) (met : Met) : Type 0 where
  pub target : ℕ
  pub is_target : pos target ≡ target_of met
  pub is_address : target < 2 ^ 64
  pub reached : pos at +ℤ branch_of word ≡ pos target

-- `ADRP` at an address gives the page of the target, which is an address
pub record GivesPage (at word : ℕ) (met : Met) : Type 0 where
  pub target : ℕ
  pub is_target : pos target ≡ target_of met
  pub is_address : target < 2 ^ 64
  pub reached : pos (at / 0x1000) +ℤ page_of word ≡ pos (target / 0x1000)

-- What the number of a field at an address tells of the target and of what is subtracted from it.
abbrev pub Tells : RefKind → ℕ → ℕ → Met → Type 0
Tells Pointer at number met = number ≡ twos_complement 64 (target_of met)
Tells GotPointer at number met = number ≡ twos_complement 64 (target_of met)
Tells Diff64 at number met = number ≡ twos_complement 64 (difference_of met)
Tells Diff32 at number met = cast_signed w32 number ≡ difference_of met
Tells GotDelta at number met = pos at +ℤ cast_signed w32 number ≡ target_of met
Tells Branch at word met = LeadsTo at word met
Tells Page at word met = GivesPage at word met
Tells GotPage at word met = GivesPage at word met
Tells TlvPage at word met = GivesPage at word met
Tells PageOff at word met = low12_of word ≡ twos_complement 64 (target_of met) % 2 ^ 12
Tells GotPageOff at word met = low12_of word ≡ twos_complement 64 (target_of met) % 2 ^ 12
Tells TlvPageOff at word met = low12_of word ≡ twos_complement 64 (target_of met) % 2 ^ 12

-- the bits of an instruction outside its field are as they were
abbrev pub KeepsBits : RefKind → ℕ → ℕ → Type 0
KeepsBits Branch old new = SameBits 26 32 old new
KeepsBits Page old new = SameBits 0 5 old new × SameBits 24 29 old new × SameBits 31 32 old new
KeepsBits GotPage old new = SameBits 0 5 old new × SameBits 24 29 old new × SameBits 31 32 old new
KeepsBits TlvPage old new = SameBits 0 5 old new × SameBits 24 29 old new × SameBits 31 32 old new
KeepsBits PageOff old new = SameBits 0 10 old new × SameBits 22 32 old new
KeepsBits GotPageOff old new = SameBits 0 10 old new × SameBits 22 32 old new
KeepsBits TlvPageOff old new = SameBits 0 10 old new × SameBits 22 32 old new
KeepsBits _ old new = Unit {0}
