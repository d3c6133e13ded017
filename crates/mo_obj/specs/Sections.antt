-- The sections of an object (`loader.h`: section_64; `reloc.h`: relocation_info).
use Rattle.std.specs.Prelude.{ℕ, ◌+◌, ◌-◌, ◌*◌, ◌%◌, ◌^◌, ◌≡◌, ◌<◌, ◌==◌, ◌&&◌, ◌||◌, Bool, false, not, nat_lt, nat_le, min, bit_and, List, [], length, map, slice_get, Option, Result, if◌then◌else◌}
use Rattle.std.specs.List.{position, range_with_len}
use Rattle.std.specs.Option.{option_map, option_map_or}
use Rattle.mo_types.specs.Whole.{is_dropped, is_zerofill, is_strings, literal_size}
use Rattle.mo_types.specs.declared.cause.Rule.{Rule}
use Rattle.mo_types.specs.declared.object_fault.ObjFault.{ObjFault}
use Rattle.mo_types.specs.declared.object.RawReloc.{RawReloc}
use Rattle.mo_types.specs.declared.object.Section.{Section}
use Rattle.mo_format.specs.Relocation.{relocation_info_at}
use Rattle.mo_format.specs.Segment.{section_header_at}
use Rattle.mo_format.specs.declared.loader.TheConstants.{SECTION_ATTRIBUTES, SECTION_TYPE}
use Rattle.mo_format.specs.declared.relocation.RelocationInfo.{RelocationInfo}
use Rattle.mo_format.specs.declared.segment.SectionHeader.{SectionHeader}
use Rattle.mo_obj.specs.Each.{Each}
use Rattle.mo_obj.specs.Faults.{keeps}
use Rattle.mo_obj.specs.Names.{name_text, part}
use Rattle.mo_obj.specs.declared.commands.Frame.{Frame}

-- the place of the header with a number from 0
abbrev pub header_place : Frame → ℕ → ℕ
header_place frame i = frame.headers + 80 * i

unfoldable pub header_at : List ℕ → Frame → ℕ → SectionHeader
header_at bytes frame i = section_header_at bytes (header_place frame i)

-- the headers of the sections
unfoldable pub headers_of : List ℕ → Frame → List SectionHeader
headers_of bytes frame = map (header_at bytes frame) (range_with_len 0 frame.count)

-- the section's type, in the low 8 bits of the flags
abbrev pub type_of : SectionHeader → ℕ
type_of header = bit_and header.flags SECTION_TYPE

-- Section: contents outside a file of a size, or addresses that reach 2^63
abbrev pub is_outside : ℕ → SectionHeader → Bool
is_outside size header =
    (not (is_zerofill (type_of header)) && nat_lt size (header.offset + header.size)) || nat_le (2 ^ 63) (header.addr + header.size)

-- Relocations: relocations outside a file of a size
abbrev pub has_relocs_outside : ℕ → SectionHeader → Bool
has_relocs_outside size header = nat_lt size (header.reloff + 8 * header.nreloc)

-- Literals: strings whose last byte isn't NUL, or literals that aren't whole
abbrev pub has_broken_literals : Section → Bool
has_broken_literals section =
    if is_strings section.kind then option_map_or (λ byte. not (byte == 0)) (slice_get section.bytes (length section.bytes - 1)) false
    else option_map_or (λ size. not (section.size % size == 0)) (literal_size section.kind) false

-- a rule of sections fails at the header with a number from 0
abbrev pub keeps_at : Rule → Frame → Option ℕ → Result (Unit {0}) ObjFault
keeps_at rule frame found = keeps rule (option_map (header_place frame) found) tt

-- a rule of sections, which fails at the first header whose section it finds at fault
abbrev pub each_keeps : {A : Type 0} → Rule → Frame → (A → Bool) → List A → Result (Unit {0}) ObjFault
each_keeps rule frame is_at_fault xs = keeps_at rule frame (position is_at_fault xs)

abbrev pub raw_of : RelocationInfo → RawReloc
raw_of info = record {
  address = info.r_address;
  number = info.r_symbolnum;
  pcrel = info.r_pcrel;
  length = info.r_length;
  external = info.r_extern;
  kind = info.r_type;
}

-- the relocation of a section with a number from 0
unfoldable pub reloc_at : List ℕ → SectionHeader → ℕ → RawReloc
reloc_at bytes header i = raw_of (relocation_info_at bytes (header.reloff + 8 * i))

-- the relocations of a section
unfoldable pub relocs_of : List ℕ → SectionHeader → List RawReloc
relocs_of bytes header = map (reloc_at bytes header) (range_with_len 0 header.nreloc)

-- the contents of a section; one without bytes in the file has none
abbrev pub contents_of : List ℕ → SectionHeader → List ℕ
contents_of bytes header = if is_zerofill (type_of header) then [] else part bytes header.offset header.size

-- a section with a given alignment
abbrev pub aligned : List ℕ → SectionHeader → ℕ → Section
aligned bytes header align = record {
  segment = name_text header.segname;
  name = name_text header.sectname;
  address = header.addr;
  size = header.size;
  align = align;
  kind = type_of header;
  attributes = bit_and header.flags SECTION_ATTRIBUTES;
  file_offset = header.offset;
  reloc_offset = header.reloff;
  bytes = contents_of bytes header;
  relocs = relocs_of bytes header;
}

-- The section of a header, each field the number at its place. The alignment of a section that isn't linked is 0.
-- An exponent above 255 counts as 255; the linker has neither.
unfoldable pub section_of : List ℕ → SectionHeader → Section
section_of bytes header =
    aligned bytes header (if is_dropped (aligned bytes header 0) then 0 else min 255 header.align)

-- a number of 24 bits
pub record IsNumbered (reloc : RawReloc) : Type 0 where
  pub number : reloc.number < 2 ^ 24

-- what holds of a section whose contents and relocations lie within its file
pub record IsRoomy (section : Section) : Type 0 where
  pub addresses : section.address + section.size < 2 ^ 63
  pub contents : section.file_offset + section.size < 2 ^ 64
  pub relocations : section.reloc_offset + 8 * length section.relocs < 2 ^ 64
  pub bytes : length section.bytes ≡ (if is_zerofill section.kind then 0 else section.size)
  pub numbers : Each IsNumbered section.relocs

unfoldable pub sections_of : List ℕ → List SectionHeader → List Section
sections_of bytes headers = map (section_of bytes) headers
