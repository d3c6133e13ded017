-- The header of a file.
use Rattle.std.specs.Prelude.{ℕ, ◌+◌, List, [], ◌∷◌}
use Rattle.mo_bytes.specs.Number.{number}
use Rattle.mo_format.specs.Fields.{Field, Number, spelled}
use Rattle.mo_format.specs.declared.header.MachHeader.{MachHeader}

-- loader.h: mach_header_64, 32 bytes
abbrev pub mach_header_at : List ℕ → ℕ → MachHeader
mach_header_at bytes at = record {
  magic = number 4 bytes at;
  cputype = number 4 bytes (at + 4);
  cpusubtype = number 4 bytes (at + 8);
  filetype = number 4 bytes (at + 12);
  ncmds = number 4 bytes (at + 16);
  sizeofcmds = number 4 bytes (at + 20);
  flags = number 4 bytes (at + 24);
  reserved = number 4 bytes (at + 28);
}

abbrev pub mach_header_fields : MachHeader → List Field
mach_header_fields s =
    Number 4 s.magic
    ∷ Number 4 s.cputype
    ∷ Number 4 s.cpusubtype
    ∷ Number 4 s.filetype
    ∷ Number 4 s.ncmds
    ∷ Number 4 s.sizeofcmds
    ∷ Number 4 s.flags
    ∷ Number 4 s.reserved
    ∷ []

abbrev pub mach_header_bytes : MachHeader → List ℕ
mach_header_bytes s = spelled (mach_header_fields s)
