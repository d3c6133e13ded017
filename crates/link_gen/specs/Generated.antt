-- The bytes of an object (`loader.h`).
use Rattle.std.specs.Prelude.{ℕ, ◌+◌, ◌-◌, ◌*◌, ◌≤◌, List, ◌++◌, codes, length, replicate}
use Rattle.std.specs.List.{flat_map}
use Rattle.mo_bytes.specs.Number.{number_bytes}
use Rattle.mo_bytes.specs.Rounding.{least_multiple}
use Rattle.mo_format.specs.Header.{mach_header_bytes}
use Rattle.mo_format.specs.Relocation.{relocation_info_bytes}
use Rattle.mo_format.specs.Segment.{segment_command_bytes, section_header_bytes}
use Rattle.mo_format.specs.Symbol.{nlist_bytes, symtab_command_bytes}
use Rattle.mo_format.specs.declared.header.MachHeader.{MachHeader}
use Rattle.mo_format.specs.declared.loader.TheConstants.{CPU_SUBTYPE_ARM64_ALL, CPU_TYPE_ARM64, LC_SEGMENT_64, LC_SYMTAB, MH_MAGIC_64, MH_OBJECT, MH_SUBSECTIONS_VIA_SYMBOLS, S_ATTR_PURE_INSTRUCTIONS, S_ATTR_SOME_INSTRUCTIONS, VM_PROT_EXECUTE, VM_PROT_READ, VM_PROT_WRITE}
use Rattle.mo_format.specs.declared.segment.SectionHeader.{SectionHeader}
use Rattle.mo_format.specs.declared.segment.SegmentCommand.{SegmentCommand}
use Rattle.mo_format.specs.declared.symbol.SymtabCommand.{SymtabCommand}
use Rattle.link_gen.specs.Calls.{function_count}
use Rattle.link_gen.specs.Parts.{instructions, relocations, text_size}
use Rattle.link_gen.specs.Symbols.{entries_from, strings_of, symbols_of}
use Rattle.link_gen.specs.declared.calls.MadeObject.{MadeObject}
use Rattle.link_gen.specs.declared.front.Places.{Places}
use Rattle.link_gen.specs.declared.front.TheConstants.{COMMANDS_SIZE, TEXT_PLACE}

-- how many bytes the parts have, and how many relocations and symbols there are
abbrev pub places_of : MadeObject → Places
places_of made = record {
  text_size = text_size made;
  relocations = 3 * function_count made;
  symbols = length (symbols_of made);
  strings_size = length (strings_of (symbols_of made));
}

-- the parts are small
pub record AreFew (places : Places) : Type 0 where
  pub text : places.text_size ≤ 2000
  pub relocations : places.relocations ≤ 1000
  pub symbols : places.symbols ≤ 1000
  pub strings : places.strings_size ≤ 10000

-- the relocations stand at the next multiple of 8 behind the section, then the symbols, then the strings
abbrev pub relocation_place : Places → ℕ
relocation_place places = least_multiple 8 (TEXT_PLACE + places.text_size)

abbrev pub symbol_place : Places → ℕ
symbol_place places = relocation_place places + 8 * places.relocations

abbrev pub string_place : Places → ℕ
string_place places = symbol_place places + 16 * places.symbols

-- an object for arm64 whose sections may be cut at symbols, with two commands
abbrev pub header : MachHeader
header = record {
  magic = MH_MAGIC_64;
  cputype = CPU_TYPE_ARM64;
  cpusubtype = CPU_SUBTYPE_ARM64_ALL;
  filetype = MH_OBJECT;
  ncmds = 2;
  sizeofcmds = COMMANDS_SIZE;
  flags = MH_SUBSECTIONS_VIA_SYMBOLS;
  reserved = 0;
}

-- the one segment of an object, which has no name
abbrev pub segment : Places → SegmentCommand
segment places = record {
  cmd = LC_SEGMENT_64;
  cmdsize = 152;
  segname = replicate 16 0;
  vmaddr = 0;
  vmsize = places.text_size;
  fileoff = TEXT_PLACE;
  filesize = places.text_size;
  maxprot = VM_PROT_READ + VM_PROT_WRITE + VM_PROT_EXECUTE;
  initprot = VM_PROT_READ + VM_PROT_WRITE + VM_PROT_EXECUTE;
  nsects = 1;
  flags = 0;
}

-- `__TEXT,__text`, aligned to 2^2
abbrev pub section : Places → SectionHeader
section places = record {
  sectname = codes "__text" ++ replicate 10 0;
  segname = codes "__TEXT" ++ replicate 10 0;
  addr = 0;
  size = places.text_size;
  offset = TEXT_PLACE;
  align = 2;
  reloff = relocation_place places;
  nreloc = places.relocations;
  flags = S_ATTR_PURE_INSTRUCTIONS + S_ATTR_SOME_INSTRUCTIONS;
  reserved1 = 0;
  reserved2 = 0;
  reserved3 = 0;
}

abbrev pub symtab : Places → SymtabCommand
symtab places = record {
  cmd = LC_SYMTAB;
  cmdsize = 24;
  symoff = symbol_place places;
  nsyms = places.symbols;
  stroff = string_place places;
  strsize = places.strings_size;
}

-- the header and the commands
unfoldable pub front_bytes : Places → List ℕ
front_bytes places =
    mach_header_bytes header
    ++ (segment_command_bytes (segment places) ++ (section_header_bytes (section places) ++ symtab_command_bytes (symtab places)))

-- zeros behind the section, up to the relocations
abbrev pub padding : Places → List ℕ
padding places = replicate (relocation_place places - (TEXT_PLACE + places.text_size)) 0

-- the object
unfoldable pub generated : MadeObject → List ℕ
generated made =
    front_bytes (places_of made)
    ++ (flat_map (number_bytes 4) (instructions made)
    ++ (padding (places_of made)
    ++ (flat_map relocation_info_bytes (relocations made)
    ++ (flat_map nlist_bytes (entries_from 1 (symbols_of made)) ++ strings_of (symbols_of made)))))
