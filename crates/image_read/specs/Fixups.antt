-- The fixups of an image, as the loader finds them on the chains of its pages (`mach-o/fixup-chains.h`).
use Rattle.std.specs.Prelude.{ℕ, zero, suc, ◌+◌, ◌-◌, ◌*◌, ◌/◌, ◌%◌, ◌^◌, ◌==◌, ◌||◌, nat_le, nat_lt, ℤ, pos, negsuc, List, [], ◌∷◌, Option, Some, None, Result, Ok, Err, if◌then◌else◌}
use Rattle.std.specs.Int.{cast_signed, w64}
use Rattle.mo_bytes.specs.Number.{number_at}
use Rattle.mo_types.specs.Gives.{◌>>=◌}
use Rattle.mo_format.specs.Segment.{segment_command_at}
use Rattle.image_read.specs.Commands.{cmdsize, fits, ncmds}
use Rattle.image_format.specs.declared.fixup_chains.TheConstants.{DYLD_CHAINED_IMPORT, DYLD_CHAINED_IMPORT_ADDEND64, DYLD_CHAINED_PTR_START_NONE}
use Rattle.image_read.specs.Imports.{fixups_command, header_by}
use Rattle.image_read.specs.Mapped.{holds, is_segment, mapped}
use Rattle.image_read.specs.declared.fixups.FixupRead.{FixupRead}
use Rattle.image_read.specs.declared.fixups.FixupRead.TheVariants.{Plain, Rebase, Bind, Broken}
use Rattle.image_read.specs.declared.fixups.Import.{Import}
use Rattle.image_read.specs.declared.fixups.Holding.{Holding}
use Rattle.image_read.specs.declared.imports.FixupsHeader.{FixupsHeader}

-- a number that the reading needs
abbrev pub known : {A : Type 0} → Option A → Result A FixupRead
known None = Err Broken
known (Some x) = Ok x

-- two numbers side by side in memory, the lower one first
abbrev pub joined : ℕ → Option ℕ → Option ℕ → Option ℕ
joined scale None high = None
joined scale (Some low) None = None
joined scale (Some low) (Some high) = Some (low + scale * high)

-- the numbers of 2, 4 and 8 bytes at an address
unfoldable pub short_at : List ℕ → ℕ → Option ℕ
short_at image address = joined 0x100 (mapped image address) (mapped image (address + 1))

unfoldable pub word_at : List ℕ → ℕ → Option ℕ
word_at image address = joined 0x10000 (short_at image address) (short_at image (address + 2))

unfoldable pub long_at : List ℕ → ℕ → Option ℕ
long_at image address = joined 0x100000000 (word_at image address) (word_at image (address + 4))

abbrev pub formed : FixupsHeader → Result FixupsHeader FixupRead
formed header =
    if header.imports_format == DYLD_CHAINED_IMPORT || header.imports_format == DYLD_CHAINED_IMPORT_ADDEND64 then Ok header
    else Err Broken

abbrev pub header_for : List ℕ → Option ℕ → Result FixupsHeader FixupRead
header_for image None = Err Plain
header_for image (Some command) = known (header_by image command) >>= formed

-- the header of an image's fixups, whose imports have a format that is known
unfoldable pub header_read : List ℕ → Result FixupsHeader FixupRead
header_read image = if fits image then header_for image (fixups_command image) else Err Plain

-- the first segment that holds an address, by its index among the segments of n commands
unfoldable pub holding_from : List ℕ → ℕ → ℕ → ℕ → ℕ → Option Holding
holding_from image address index zero at = None
holding_from image address index (suc n) at =
    if is_segment image at
    then (if holds address (segment_command_at image at)
    then Some (record { index = index; vmaddr = (segment_command_at image at).vmaddr })
    else holding_from image address (index + 1) n (at + cmdsize image at))
    else holding_from image address index n (at + cmdsize image at)

abbrev pub or_plain : {A : Type 0} → Option A → Result A FixupRead
or_plain None = Err Plain
or_plain (Some x) = Ok x

unfoldable pub holding_of : List ℕ → ℕ → Option Holding
holding_of image address = holding_from image address 0 (ncmds image) 32

-- a page is one of those before n
abbrev pub below : ℕ → ℕ → Result (Unit {0}) FixupRead
below index n = if nat_lt index n then Ok tt else Err Plain

abbrev pub unless : ℕ → ℕ → Result ℕ FixupRead
unless none number = if number == none then Err Plain else Ok number

-- dyld_chained_starts_in_image: where the starts of a segment stand, by its index
unfoldable pub starts_of : List ℕ → FixupsHeader → ℕ → Result ℕ FixupRead
starts_of image header index = do
  count ← known (number_at 4 image (header.at + header.starts_offset))
  among ← below index count
  offset ← known (number_at 4 image (header.at + header.starts_offset + 4 + 4 * index))
  some ← unless 0 offset
  Ok (header.at + header.starts_offset + some)

-- DYLD_CHAINED_PTR_64_OFFSET
abbrev pub is_offset : ℕ → Result (Unit {0}) FixupRead
is_offset format = if format == 6 then Ok tt else Err Broken

-- dyld_chained_starts_in_segment: where the chain of a page begins; DYLD_CHAINED_PTR_START_NONE where it has none
unfoldable pub page_start : List ℕ → ℕ → ℕ → Result ℕ FixupRead
page_start image starts page = do
  format ← known (number_at 2 image (starts + 6))
  form ← is_offset format
  count ← known (number_at 2 image (starts + 20))
  among ← below page count
  start ← known (number_at 2 image (starts + 22 + 2 * page))
  unless DYLD_CHAINED_PTR_START_NONE start

-- the bytes of a page
abbrev pub PAGE : ℕ
PAGE = 0x4000

-- the distance from a pointer to the next one of its chain, in steps of 4 bytes
abbrev pub next_of : ℕ → ℕ
next_of word = word / 2 ^ 51 % 2 ^ 12

-- the pointer at a place of a page, where the page and addresses of 64 bits have room for it
abbrev pub pointer_at : List ℕ → ℕ → ℕ → Option ℕ
pointer_at image base at =
    if nat_lt PAGE (at + 8) || nat_lt (2 ^ 64) (base + at + 8) then None else long_at image (base + at)

-- The pointers of a chain, by their places in the page and what they hold, from a place on: at most n of them, which
-- is more than a page has room for.
unfoldable pub chain_from : List ℕ → ℕ → ℕ → ℕ → Result (List (ℕ × ℕ)) FixupRead
chain_from image base zero at = Err Broken
chain_from image base (suc n) at =
    known (pointer_at image base at) >>= λ word.
    if next_of word == 0 then Ok ((at, word) ∷ [])
    else chain_from image base n (at + 4 * next_of word) >>= λ rest. Ok ((at, word) ∷ rest)

-- what the pointer at a place holds, if it is one of these
abbrev pub held_at : ℕ → List (ℕ × ℕ) → Option ℕ
held_at place [] = None
held_at place (pointer ∷ rest) = if pointer.0 == place then Some pointer.1 else held_at place rest

-- what is held at a place that is sought, once the pointer at a place is passed
abbrev pub taken : ℕ → ℕ → ℕ → Option ℕ → Option ℕ
taken place at word None = if at == place then Some word else None
taken place at word (Some other) = Some other

-- an ordinal, where the uppermost ones are those below 0
abbrev pub ordinal_of : ℕ → ℕ → ℕ → ℤ
ordinal_of low high number = if nat_lt low number then negsuc (high - number) else pos number

abbrev pub narrow_import : ℕ → Import
narrow_import word = record { ordinal = ordinal_of 0xf0 0xff (word % 0x100); optional = word / 0x100 % 2 == 1; addend = 0 }

abbrev pub wide_import : ℕ → ℕ → Import
wide_import word addend =
    record { ordinal = ordinal_of 0xfff0 0xffff (word % 0x10000); optional = word / 0x10000 % 2 == 1; addend = addend }

-- the places of imports by their numbers, of 4 and of 16 bytes
abbrev pub narrow_at : List ℕ → ℕ → Result Import FixupRead
narrow_at image at = known (number_at 4 image at) >>= λ word. Ok (narrow_import word)

abbrev pub wide_at : List ℕ → ℕ → Result Import FixupRead
wide_at image at = do
  word ← known (number_at 8 image at)
  addend ← known (number_at 8 image (at + 8))
  Ok (wide_import word addend)

-- an import, by its number
unfoldable pub import_at : List ℕ → FixupsHeader → ℕ → Result Import FixupRead
import_at image header import =
    if nat_le header.imports_count import then Err Broken
    else if header.imports_format == DYLD_CHAINED_IMPORT then narrow_at image (header.at + header.imports_offset + 4 * import)
    else wide_at image (header.at + header.imports_offset + 16 * import)

abbrev pub bind_of : ℕ → Import → FixupRead
bind_of word import =
    Bind (word % 2 ^ 24) import.ordinal (cast_signed w64 ((word / 2 ^ 24 % 2 ^ 8 + import.addend) % 2 ^ 64)) import.optional

-- dyld_chained_ptr_64_rebase and dyld_chained_ptr_64_bind
unfoldable pub fixup_of : List ℕ → FixupsHeader → ℕ → Result FixupRead FixupRead
fixup_of image header word =
    if nat_lt word (2 ^ 63) then Ok (Rebase (word % 2 ^ 36))
    else import_at image header (word % 2 ^ 24) >>= λ import. Ok (bind_of word import)

-- What the chain of a page holds at a place of the page.
unfoldable pub held_on : List ℕ → ℕ → ℕ → ℕ → Result (Option ℕ) FixupRead
held_on image base start place = chain_from image base 0x1001 start >>= λ pointers. Ok (held_at place pointers)

unfoldable pub fixup_read : List ℕ → ℕ → Result FixupRead FixupRead
fixup_read image address = do
  header ← header_read image
  holding ← or_plain (holding_of image address)
  starts ← starts_of image header holding.index
  start ← page_start image starts ((address - holding.vmaddr) / PAGE)
  held ← held_on image (address - (address - holding.vmaddr) % PAGE) start ((address - holding.vmaddr) % PAGE)
  word ← or_plain held
  fixup_of image header word

-- an answer, early or not
abbrev pub answer : Result FixupRead FixupRead → FixupRead
answer (Ok fixup) = fixup
answer (Err fixup) = fixup

-- the fixup at an address
unfoldable pub fixup_at : List ℕ → ℕ → FixupRead
fixup_at image address = answer (fixup_read image address)
