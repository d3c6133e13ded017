-- What a field of an image tells, by its kind (`mach-o/arm64/reloc.h`; the Arm Architecture Reference Manual for instructions).
use Rattle.std.specs.Prelude.{ℕ, ◌+◌, ◌*◌, ◌/◌, ◌^◌, ◌&&◌, nat_eq, nat_le, nat_lt, ℤ, pos, negsuc, ◌+ℤ◌, List, codes, Option, Some, None, if◌then◌else◌}
use Rattle.std.specs.Int.{cast_signed, w32, w64}
use Rattle.std.specs.List.{starts_with}
use Rattle.std.specs.Option.{option_and_then, option_map}
use Rattle.arm64_insn.specs.Branch.{branch_of}
use Rattle.arm64_insn.specs.Low12.{low12_of}
use Rattle.arm64_insn.specs.Page.{page_of}
use Rattle.mo_format.specs.Segment.{segment_command_at}
use Rattle.mo_format.specs.declared.segment.SegmentCommand.{SegmentCommand}
use Rattle.mo_types.specs.Rows.{when}
use Rattle.mo_types.specs.Scan.{first_some}
use Rattle.mo_types.specs.declared.reference.RefKind.{RefKind}
use Rattle.mo_types.specs.declared.reference.RefKind.TheVariants.{Pointer, Diff32, Diff64, Branch, Page, GotPage, GotDelta, GotPointer, TlvPage}
use Rattle.image_read.specs.Commands.{commands_of, fits}
use Rattle.image_read.specs.Fixups.{fixup_at, long_at, word_at}
use Rattle.image_read.specs.Mapped.{is_segment}
use Rattle.image_read.specs.declared.fixups.FixupRead.{FixupRead}
use Rattle.image_read.specs.declared.fixups.FixupRead.TheVariants as fixup
use Rattle.image_read.specs.declared.meaning.Meaning.{Meaning}
use Rattle.image_read.specs.declared.meaning.Meaning.TheVariants.{Address, Imported, Difference, Low12, Broken}

-- how the name of the segment begins that the image's addresses count from
abbrev pub SEG_TEXT : List ℕ
SEG_TEXT = codes "__TEXT\0"

-- the segment at a place, where it has that name
unfoldable pub text_at : List ℕ → ℕ → Option SegmentCommand
text_at image at =
    when (is_segment image at && starts_with nat_eq (segment_command_at image at).segname SEG_TEXT) (segment_command_at image at)

-- the first segment of that name
unfoldable pub text_of : List ℕ → Option SegmentCommand
text_of image = first_some (text_at image) (commands_of image)

-- the address that the image's addresses count from
unfoldable pub base_of : List ℕ → Option ℕ
base_of image = if fits image then option_map (λ segment. segment.vmaddr) (text_of image) else None

-- an address of 64 bits
abbrev pub in_range : ℤ → Option ℕ
in_range (pos n) = if nat_lt n (2 ^ 64) then Some n else None
in_range (negsuc n) = None

-- an address at a signed distance from another one
abbrev pub moved : ℕ → ℤ → Option ℕ
moved address distance = in_range (pos address +ℤ distance)

-- where a page of 4,096 bytes begins, by its number
abbrev pub page_address : ℕ → Option ℕ
page_address page = if nat_lt (page * 0x1000) (2 ^ 64) then Some (page * 0x1000) else None

-- the numbers at an address, which lie within 64 bits
abbrev pub word_in : List ℕ → ℕ → Option ℕ
word_in image address = if nat_le (address + 4) (2 ^ 64) then word_at image address else None

abbrev pub long_in : List ℕ → ℕ → Option ℕ
long_in image address = if nat_le (address + 8) (2 ^ 64) then long_at image address else None

abbrev pub address_or_broken : Option ℕ → Meaning
address_or_broken None = Broken
address_or_broken (Some address) = Address address

-- a pointer that is rebased: the offset counts from the image's first address
abbrev pub rebased : List ℕ → ℕ → Option ℕ
rebased image offset = option_and_then (λ base. in_range (pos (base + offset))) (base_of image)

-- a pointer, by its number and the fixup at its address
abbrev pub pointer_with : List ℕ → ℕ → FixupRead → Meaning
pointer_with image number fixup.Plain = Difference (cast_signed w64 number)
pointer_with image number (fixup.Rebase offset) = address_or_broken (rebased image offset)
pointer_with image number (fixup.Bind import ordinal addend optional) = Imported import addend
pointer_with image number fixup.Broken = Broken

abbrev pub pointer_or_broken : List ℕ → ℕ → Option ℕ → Meaning
pointer_or_broken image address None = Broken
pointer_or_broken image address (Some number) = pointer_with image number (fixup_at image address)

abbrev pub difference_or_broken : Option ℕ → Meaning
difference_or_broken None = Broken
difference_or_broken (Some number) = Difference (cast_signed w64 number)

-- a field of 4 bytes, by its address and its number
abbrev pub word_with : ℕ → RefKind → ℕ → Meaning
word_with address Diff32 word = Difference (cast_signed w32 word)
word_with address GotDelta word = address_or_broken (moved address (cast_signed w32 word))
word_with address Branch word = address_or_broken (moved address (branch_of word))
word_with address Page word = address_or_broken (option_and_then page_address (moved (address / 0x1000) (page_of word)))
word_with address GotPage word = address_or_broken (option_and_then page_address (moved (address / 0x1000) (page_of word)))
word_with address TlvPage word = address_or_broken (option_and_then page_address (moved (address / 0x1000) (page_of word)))
word_with address _ word = Low12 (low12_of word)

abbrev pub word_or_broken : ℕ → RefKind → Option ℕ → Meaning
word_or_broken address kind None = Broken
word_or_broken address kind (Some word) = word_with address kind word

-- what the field at an address tells
unfoldable pub denote : List ℕ → ℕ → RefKind → Meaning
denote image address Pointer = pointer_or_broken image address (long_in image address)
denote image address GotPointer = pointer_or_broken image address (long_in image address)
denote image address Diff64 = difference_or_broken (long_in image address)
denote image address kind = word_or_broken address kind (word_in image address)
