-- A field that can't hold its value tells the place of its reference.
use Rattle.std.proofs.Common.{◌≡◌, ℕ, ◌+◌, ◌%◌, ◌^◌, ℤ, pos, ◌-ℤ◌, Option, Some, None, Err, List}
use Rattle.arm64_insn.specs.Branch.{put_branch}
use Rattle.arm64_insn.specs.Low12.{put_low12}
use Rattle.arm64_insn.specs.Page.{put_page}
use Rattle.mo_bytes.specs.Number.{number}
use Rattle.mo_types.specs.declared.cause.RangeKind.{RangeKind}
use Rattle.mo_types.specs.declared.cause.RangeKind.TheVariants as range_kind
use Rattle.mo_types.specs.declared.reference.RefKind.{RefKind}
use Rattle.mo_types.specs.declared.reference.RefKind.TheVariants.{Pointer, Diff32, Diff64, Branch, Page, PageOff, GotPage, GotPageOff, GotDelta, GotPointer, TlvPage, TlvPageOff}
use Rattle.patch.specs.Field.{address_of, branch_field, difference_of, field_by, field_of, low12_field, or_range, page_field, pages_between, signed_32, signed_field, target_of, wrapped_target}
use Rattle.patch.specs.declared.met.Met.{Met}
use Rattle.patch.specs.declared.met.RangeFault.{RangeFault}

range_place : {A : Type 0} (met : Met) (kind : RangeKind) (value : ℤ) (o : Option A) (fault : RangeFault) → or_range met kind value o ≡ Err fault → fault.file_place ≡ met.file_place
range_place met kind value None fault e = cc
range_place met kind value (Some x) fault e = cc

branch_place : (at word : ℕ) (met : Met) (fault : RangeFault) → branch_field at word met ≡ Err fault → fault.file_place ≡ met.file_place
unfolding branch_field
branch_place at word met fault e = by (address_of (target_of met)) e
  where
    by : (o : Option ℕ) → Rattle.mo_types.specs.Gives.◌>>=◌ (or_range met range_kind.Branch (target_of met) o) (λ (target : ℕ). or_range met range_kind.Branch (pos target -ℤ pos at) (put_branch word (pos target -ℤ pos at))) ≡ Err fault → fault.file_place ≡ met.file_place
    by None f = cc
    by (Some target) f = range_place met range_kind.Branch (pos target -ℤ pos at) (put_branch word (pos target -ℤ pos at)) fault f

page_place : (at word : ℕ) (met : Met) (fault : RangeFault) → page_field at word met ≡ Err fault → fault.file_place ≡ met.file_place
unfolding page_field
page_place at word met fault e = by (address_of (target_of met)) e
  where
    by : (o : Option ℕ) → Rattle.mo_types.specs.Gives.◌>>=◌ (or_range met range_kind.Page (target_of met) o) (λ (target : ℕ). or_range met range_kind.Page (pages_between at target) (put_page word (pages_between at target))) ≡ Err fault → fault.file_place ≡ met.file_place
    by None f = cc
    by (Some target) f = range_place met range_kind.Page (pages_between at target) (put_page word (pages_between at target)) fault f

low_place : (word : ℕ) (met : Met) (fault : RangeFault) → low12_field word met ≡ Err fault → fault.file_place ≡ met.file_place
unfolding low12_field
low_place word met fault e = range_place met range_kind.LowBits (pos (wrapped_target met % 2 ^ 12)) (put_low12 word (wrapped_target met)) fault e

signed_place : (kind : RangeKind) (difference : ℤ) (met : Met) (fault : RangeFault) → signed_field kind difference met ≡ Err fault → fault.file_place ≡ met.file_place
unfolding signed_field
signed_place kind difference met fault e = range_place met kind difference (signed_32 difference) fault e

by_kind : (kind : RefKind) (at word : ℕ) (met : Met) (fault : RangeFault) → field_by kind at word met ≡ Err fault → fault.file_place ≡ met.file_place
unfolding field_by
by_kind Pointer at word met fault e = cc
by_kind GotPointer at word met fault e = cc
by_kind Diff64 at word met fault e = cc
by_kind Diff32 at word met fault e = signed_place range_kind.Diff32 (difference_of met) met fault e
by_kind GotDelta at word met fault e = signed_place range_kind.GotDelta (target_of met -ℤ pos at) met fault e
by_kind Branch at word met fault e = branch_place at word met fault e
by_kind Page at word met fault e = page_place at word met fault e
by_kind GotPage at word met fault e = page_place at word met fault e
by_kind TlvPage at word met fault e = page_place at word met fault e
by_kind PageOff at word met fault e = low_place word met fault e
by_kind GotPageOff at word met fault e = low_place word met fault e
by_kind TlvPageOff at word met fault e = low_place word met fault e

pub field_place : (address : ℕ) (bytes : List ℕ) (met : Met) (fault : RangeFault) → field_of address bytes met ≡ Err fault → fault.file_place ≡ met.file_place
unfolding field_of
field_place address bytes met fault e = by_kind met.kind (address + met.place) (number 4 bytes met.place) met fault e
