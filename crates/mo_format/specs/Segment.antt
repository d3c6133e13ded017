-- Segments and their sections.
use Rattle.std.specs.Prelude.{ℕ, ◌+◌, List, [], ◌∷◌}
use Rattle.mo_bytes.specs.Number.{number}
use Rattle.mo_format.specs.Fields.{Field, Number, Name, name_at, spelled}
use Rattle.mo_format.specs.declared.segment.SegmentCommand.{SegmentCommand}
use Rattle.mo_format.specs.declared.segment.SectionHeader.{SectionHeader}

-- loader.h: segment_command_64, 72 bytes
abbrev pub segment_command_at : List ℕ → ℕ → SegmentCommand
segment_command_at bytes at = record {
  cmd = number 4 bytes at;
  cmdsize = number 4 bytes (at + 4);
  segname = name_at bytes (at + 8);
  vmaddr = number 8 bytes (at + 24);
  vmsize = number 8 bytes (at + 32);
  fileoff = number 8 bytes (at + 40);
  filesize = number 8 bytes (at + 48);
  maxprot = number 4 bytes (at + 56);
  initprot = number 4 bytes (at + 60);
  nsects = number 4 bytes (at + 64);
  flags = number 4 bytes (at + 68);
}

abbrev pub segment_command_fields : SegmentCommand → List Field
segment_command_fields s =
    Number 4 s.cmd
    ∷ Number 4 s.cmdsize
    ∷ Name s.segname
    ∷ Number 8 s.vmaddr
    ∷ Number 8 s.vmsize
    ∷ Number 8 s.fileoff
    ∷ Number 8 s.filesize
    ∷ Number 4 s.maxprot
    ∷ Number 4 s.initprot
    ∷ Number 4 s.nsects
    ∷ Number 4 s.flags
    ∷ []

abbrev pub segment_command_bytes : SegmentCommand → List ℕ
segment_command_bytes s = spelled (segment_command_fields s)

-- loader.h: section_64, 80 bytes
abbrev pub section_header_at : List ℕ → ℕ → SectionHeader
section_header_at bytes at = record {
  sectname = name_at bytes at;
  segname = name_at bytes (at + 16);
  addr = number 8 bytes (at + 32);
  size = number 8 bytes (at + 40);
  offset = number 4 bytes (at + 48);
  align = number 4 bytes (at + 52);
  reloff = number 4 bytes (at + 56);
  nreloc = number 4 bytes (at + 60);
  flags = number 4 bytes (at + 64);
  reserved1 = number 4 bytes (at + 68);
  reserved2 = number 4 bytes (at + 72);
  reserved3 = number 4 bytes (at + 76);
}

abbrev pub section_header_fields : SectionHeader → List Field
section_header_fields s =
    Name s.sectname
    ∷ Name s.segname
    ∷ Number 8 s.addr
    ∷ Number 8 s.size
    ∷ Number 4 s.offset
    ∷ Number 4 s.align
    ∷ Number 4 s.reloff
    ∷ Number 4 s.nreloc
    ∷ Number 4 s.flags
    ∷ Number 4 s.reserved1
    ∷ Number 4 s.reserved2
    ∷ Number 4 s.reserved3
    ∷ []

abbrev pub section_header_bytes : SectionHeader → List ℕ
section_header_bytes s = spelled (section_header_fields s)
