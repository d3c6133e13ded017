-- What the field of a reference holds, by its kind (`mach-o/arm64/reloc.h`; the Arm Architecture Reference
-- Manual for instructions).
use Rattle.std.specs.Prelude.{ℕ, ◌+◌, ◌/◌, ◌%◌, ◌^◌, nat_lt, Bool, ℤ, pos, negsuc, ◌+ℤ◌, ◌-ℤ◌, List, Option, Some, None, Result, Ok, Err, if◌then◌else◌}
use Rattle.arm64_insn.specs.Branch.{put_branch}
use Rattle.arm64_insn.specs.Field.{twos_complement}
use Rattle.arm64_insn.specs.Low12.{put_low12}
use Rattle.arm64_insn.specs.Page.{put_page}
use Rattle.mo_bytes.specs.Number.{number}
use Rattle.mo_types.specs.Gives.{◌>>=◌}
use Rattle.mo_types.specs.declared.cause.RangeKind.{RangeKind}
use Rattle.mo_types.specs.declared.cause.RangeKind.TheVariants as range_kind
use Rattle.mo_types.specs.declared.reference.RefKind.{RefKind}
use Rattle.mo_types.specs.declared.reference.RefKind.TheVariants.{Pointer, Diff32, Diff64, Branch, Page, PageOff, GotPage, GotPageOff, GotDelta, GotPointer, TlvPage, TlvPageOff}
use Rattle.patch.specs.declared.met.Met.{Met}
use Rattle.patch.specs.declared.met.RangeFault.{RangeFault}

-- the target with its addend
unfoldable pub target_of : Met → ℤ
target_of met = pos met.value +ℤ met.addend

-- an address of 64 bits
abbrev pub address_of : ℤ → Option ℕ
address_of (pos n) = if nat_lt n (2 ^ 64) then Some n else None
address_of (negsuc n) = None

-- the distance in pages of 4,096 bytes from the page of one address to that of another
unfoldable pub pages_between : ℕ → ℕ → ℤ
pages_between from to = pos (to / 0x1000) -ℤ pos (from / 0x1000)

-- 32 bits hold the number in two's complement
unfoldable pub is_signed_32 : ℤ → Bool
is_signed_32 (pos n) = nat_lt n (2 ^ 31)
is_signed_32 (negsuc n) = nat_lt n (2 ^ 31)

-- what was found, or the value that doesn't fit
abbrev pub or_range : {A : Type 0} → Met → RangeKind → ℤ → Option A → Result A RangeFault
or_range met kind value None = Err (record { file_place = met.file_place; kind = kind; value = value })
or_range met kind value (Some x) = Ok x

-- a branch at an address, to the target: the distance in bytes
unfoldable pub branch_field : ℕ → ℕ → Met → Result ℕ RangeFault
branch_field at word met = do
  target ← or_range met range_kind.Branch (target_of met) (address_of (target_of met))
  or_range met range_kind.Branch (pos target -ℤ pos at) (put_branch word (pos target -ℤ pos at))

-- `ADRP` at an address, to the target's page: the distance in pages
unfoldable pub page_field : ℕ → ℕ → Met → Result ℕ RangeFault
page_field at word met = do
  target ← or_range met range_kind.Page (target_of met) (address_of (target_of met))
  or_range met range_kind.Page (pages_between at target) (put_page word (pages_between at target))

-- the target modulo 2^64
unfoldable pub wrapped_target : Met → ℕ
wrapped_target met = twos_complement 64 (target_of met)

-- the low 12 bits of the target, in steps of what is loaded or stored
unfoldable pub low12_field : ℕ → Met → Result ℕ RangeFault
low12_field word met = or_range met range_kind.LowBits (pos (wrapped_target met % 2 ^ 12)) (put_low12 word (wrapped_target met))

-- the two's complement of a number in 32 bits
unfoldable pub signed_32 : ℤ → Option ℕ
signed_32 number = if is_signed_32 number then Some (twos_complement 32 number) else None

-- a difference in 32 bits
unfoldable pub signed_field : RangeKind → ℤ → Met → Result ℕ RangeFault
signed_field kind difference met = or_range met kind difference (signed_32 difference)

-- the target less what is subtracted from it
unfoldable pub difference_of : Met → ℤ
difference_of met = target_of met -ℤ pos met.minus

-- What a field at an address holds, by its kind and the instruction that is there.
unfoldable pub field_by : RefKind → ℕ → ℕ → Met → Result ℕ RangeFault
field_by Pointer at word met = Ok (wrapped_target met)
field_by GotPointer at word met = Ok (wrapped_target met)
field_by Diff64 at word met = Ok (twos_complement 64 (difference_of met))
field_by Diff32 at word met = signed_field range_kind.Diff32 (difference_of met) met
field_by GotDelta at word met = signed_field range_kind.GotDelta (target_of met -ℤ pos at) met
field_by Branch at word met = branch_field at word met
field_by Page at word met = page_field at word met
field_by GotPage at word met = page_field at word met
field_by TlvPage at word met = page_field at word met
field_by PageOff at word met = low12_field word met
field_by GotPageOff at word met = low12_field word met
field_by TlvPageOff at word met = low12_field word met

-- The number that the field of a reference holds in an atom's bytes, which begin at an address, or the value
-- that doesn't fit it.
unfoldable pub field_of : ℕ → List ℕ → Met → Result ℕ RangeFault
field_of address bytes met = field_by met.kind (address + met.place) (number 4 bytes met.place) met
