-- The commands of segments, each with the headers of its sections (`loader.h`: segment_command_64, section_64).
use Rattle.std.specs.Prelude.{ℕ, ◌+◌, ◌-◌, ◌*◌, ◌/◌, ◌==◌, ◌&&◌, nat_lt, List, [], ◌∷◌, ◌++◌, length, take, drop, Bool, true, false, Option, unwrap_or, if◌then◌else◌}
use Rattle.std.specs.List.{flat_map}
use Rattle.mo_bytes.specs.Rounding.{least_multiple}
use Rattle.mo_format.specs.Segment.{segment_command_bytes, section_header_bytes}
use Rattle.mo_format.specs.declared.loader.TheConstants.{LC_SEGMENT_64, S_NON_LAZY_SYMBOL_POINTERS, S_SYMBOL_STUBS, S_THREAD_LOCAL_VARIABLE_POINTERS}
use Rattle.mo_format.specs.declared.segment.SectionHeader.{SectionHeader}
use Rattle.mo_format.specs.declared.segment.SegmentCommand.{SegmentCommand}
use Rattle.mo_types.specs.Rows.{when}
use Rattle.mo_types.specs.Scan.{first_some}
use Rattle.sect_place.specs.declared.layout.PlacedSection.{PlacedSection}
use Rattle.sect_place.specs.declared.layout.Segment.{Segment}
use Rattle.load_cmds.specs.Names.{name_field, u32_of, u64_of}
use Rattle.load_cmds.specs.declared.parts.PartPlace.{PartPlace}
use Rattle.load_cmds.specs.declared.parts.PartSizes.{PartSizes}

-- the end of a part that is there, or a place behind it
abbrev pub past : Bool → PartPlace → ℕ → ℕ
past there part place = if there && nat_lt place (part.offset + part.size) then part.offset + part.size else place

-- where the parts of `__LINKEDIT` end that are there, which begins at an offset of the file
unfoldable pub parts_end : PartSizes → ℕ → ℕ
parts_end parts start =
    past parts.there.signature parts.signature
    (past parts.there.symbols parts.strings
    (past parts.there.symbols parts.indirect
    (past parts.there.symbols parts.symbols
    (past parts.there.trie parts.trie
    (past parts.there.fixups parts.fixups start)))))

-- the bytes of `__LINKEDIT` in the file
abbrev pub linkedit_size : PartSizes → Segment → ℕ
linkedit_size parts segment = parts_end parts segment.file_offset - segment.file_offset

-- the command of a segment with its bytes in memory and in the file
abbrev pub sized_command : Segment → ℕ → ℕ → SegmentCommand
sized_command segment memory file = record {
  cmd = LC_SEGMENT_64;
  cmdsize = u32_of (72 + 80 * segment.sections);
  segname = name_field segment.name;
  vmaddr = segment.address;
  vmsize = memory;
  fileoff = segment.file_offset;
  filesize = file;
  maxprot = segment.protection;
  initprot = segment.protection;
  nsects = segment.sections;
  flags = segment.flags;
}

-- the last segment is `__LINKEDIT`, whose parts come behind the layout: in memory it has whole pages of 0x4000 bytes
abbrev pub segment_command : PartSizes → Bool → Segment → SegmentCommand
segment_command parts true segment =
    sized_command segment (u64_of (least_multiple 0x4000 (linkedit_size parts segment))) (u64_of (linkedit_size parts segment))
segment_command parts false segment = sized_command segment segment.vmsize segment.file_size

abbrev pub is_empty : {A : Type 0} → List A → Bool
is_empty [] = true
is_empty (x ∷ xs) = false

-- the linker's own section of a type: it has no atoms
abbrev pub is_own : ℕ → PlacedSection → Bool
is_own kind placed = (placed.section.kind == kind) && is_empty placed.section.atoms

-- the bytes of a section, where it is the linker's own one of a type
unfoldable pub size_if_own : ℕ → PlacedSection → Option ℕ
size_if_own kind placed = when (is_own kind placed) placed.size

-- the bytes of the linker's own section of a type, 0 where there is none
unfoldable pub own_size : ℕ → List PlacedSection → ℕ
own_size kind sections = unwrap_or (first_some (size_if_own kind) sections) 0

-- how many stubs there are, of 12 bytes each
abbrev pub stub_count : List PlacedSection → ℕ
stub_count sections = own_size S_SYMBOL_STUBS sections / 12

-- how many slots of `__got` there are, of 8 bytes each
abbrev pub slot_count : List PlacedSection → ℕ
slot_count sections = own_size S_NON_LAZY_SYMBOL_POINTERS sections / 8

-- The first entry of a section in the table of indirect symbols, which has those of `__stubs`, then those of `__got`,
-- then those of `__thread_ptrs`.
abbrev pub first_indirect : ℕ → ℕ → PlacedSection → ℕ
first_indirect stubs slots placed =
    if is_own S_NON_LAZY_SYMBOL_POINTERS placed then stubs
    else if is_own S_THREAD_LOCAL_VARIABLE_POINTERS placed then stubs + slots
    else 0

-- the bytes of one entry of `__stubs`
abbrev pub entry_size : PlacedSection → ℕ
entry_size placed = if is_own S_SYMBOL_STUBS placed then 12 else 0

abbrev pub section_header : ℕ → ℕ → PlacedSection → SectionHeader
section_header stubs slots placed = record {
  sectname = name_field placed.section.name;
  segname = name_field placed.section.segment;
  addr = placed.address;
  size = placed.size;
  offset = u32_of placed.file_offset;
  align = placed.section.align;
  reloff = 0;
  nreloc = 0;
  flags = placed.section.flags;
  reserved1 = u32_of (first_indirect stubs slots placed);
  reserved2 = entry_size placed;
  reserved3 = 0;
}

abbrev pub section_bytes : ℕ → ℕ → PlacedSection → List ℕ
section_bytes stubs slots placed = section_header_bytes (section_header stubs slots placed)

-- the command of a segment with the headers of its sections
abbrev pub segment_with : SegmentCommand → ℕ → ℕ → List PlacedSection → List ℕ
segment_with command stubs slots sections = segment_command_bytes command ++ flat_map (section_bytes stubs slots) sections

-- the segments, each with its sections, which are the next ones
abbrev pub segments_with : PartSizes → ℕ → ℕ → List Segment → List PlacedSection → List ℕ
segments_with parts stubs slots [] sections = []
segments_with parts stubs slots (segment ∷ segments) sections =
    segment_with (segment_command parts (is_empty segments) segment) stubs slots (take segment.sections sections)
    ++ segments_with parts stubs slots segments (drop segment.sections sections)

unfoldable pub segments_bytes : PartSizes → List Segment → List PlacedSection → List ℕ
segments_bytes parts segments sections =
    segments_with parts (stub_count sections) (slot_count sections) segments sections
