-- Where the parts of an object stand in its file, each as a function of all bytes. Of a file that breaks a rule it
-- answers what the fields say, which then means nothing.
use Rattle.std.specs.Prelude.{ℕ, zero, suc, ◌+◌, Bool, List, [], ◌∷◌, map, unwrap_or}
use Rattle.std.specs.List.{range_with_len}
use Rattle.std.specs.Option.{option_map_or}
use Rattle.mo_types.specs.declared.object.Object.{Object}
use Rattle.mo_types.specs.declared.object.Section.{Section}
use Rattle.mo_types.specs.declared.object.Symbol.{Symbol}
use Rattle.mo_format.specs.Header.{mach_header_at}
use Rattle.mo_format.specs.Symbol.{symtab_command_at}
use Rattle.mo_format.specs.declared.header.MachHeader.{MachHeader}
use Rattle.mo_format.specs.declared.segment.SectionHeader.{SectionHeader}
use Rattle.mo_format.specs.declared.symbol.SymtabCommand.{SymtabCommand}
use Rattle.mo_obj.specs.Commands.{frame_at, segments, size_at, symtabs}
use Rattle.mo_strings.specs.Strings.{string_at}
use Rattle.mo_obj.specs.Object.{may_be_cut}
use Rattle.mo_obj.specs.Sections.{headers_of, sections_of}
use Rattle.mo_obj.specs.Symbols.{any_foreign, entry_at, no_symtab, strings_of, symbol_with}
use Rattle.mo_obj.specs.declared.commands.Frame.{Frame}

-- the header (`loader.h`: mach_header_64)
unfoldable pub header_in : List ℕ → MachHeader
header_in bytes = mach_header_at bytes 0

-- the places of n commands, each of which begins where the one before it ends
abbrev pub places_from : List ℕ → ℕ → ℕ → List ℕ
places_from bytes zero at = []
places_from bytes (suc n) at = at ∷ places_from bytes n (at + size_at bytes at)

-- the places of the load commands, which follow the header's 32 bytes
unfoldable pub commands_in : List ℕ → List ℕ
commands_in bytes = places_from bytes (header_in bytes).ncmds 32

-- LC_SEGMENT_64, LC_SYMTAB
abbrev pub segments_in : List ℕ → List ℕ
segments_in bytes = segments bytes (commands_in bytes)

abbrev pub symtabs_in : List ℕ → List ℕ
symtabs_in bytes = symtabs bytes (commands_in bytes)

-- where the first segment has its sections' headers, and where the first symbol table's command stands
unfoldable pub frame_in : List ℕ → Frame
frame_in bytes = frame_at bytes (commands_in bytes)

-- the sections, of which each has a header
unfoldable pub headers_in : List ℕ → List SectionHeader
headers_in bytes = headers_of bytes (frame_in bytes)

unfoldable pub sections_in : List ℕ → List Section
sections_in bytes = sections_of bytes (headers_in bytes)

-- the symbol table, which has no entries where there is none
unfoldable pub symtab_in : List ℕ → SymtabCommand
symtab_in bytes = option_map_or (symtab_command_at bytes) (frame_in bytes).symtab no_symtab

-- the symbol of the entry with a number from 0, with the name that the strings have for it
unfoldable pub symbol_named : List ℕ → SymtabCommand → ℕ → Symbol
symbol_named bytes symtab i =
    symbol_with (entry_at bytes symtab i) (unwrap_or (string_at (strings_of bytes symtab) (entry_at bytes symtab i).n_strx) [])

-- the symbols, of which each has an entry
unfoldable pub symbols_in : List ℕ → List Symbol
symbols_in bytes = map (symbol_named bytes (symtab_in bytes)) (range_with_len 0 (symtab_in bytes).nsyms)

unfoldable pub object_in : List ℕ → Object
object_in bytes =
    record { subsections = may_be_cut (header_in bytes); sections = sections_in bytes; symbols = symbols_in bytes }

-- a symbol is of a kind that isn't linked
unfoldable pub foreign_in : List ℕ → Bool
foreign_in bytes = any_foreign bytes (symtab_in bytes)
