-- The symbols of an object (`loader.h`: symtab_command; `nlist.h`: nlist_64).
use Rattle.std.specs.Prelude.{ℕ, ◌+◌, ◌*◌, ◌/◌, ◌%◌, ◌≤◌, ◌==◌, ◌&&◌, ◌||◌, Bool, false, not, nat_le, bit_and, List, length, Option, Some, None, Result, Ok, Err, if◌then◌else◌}
use Rattle.std.specs.List.{list_any, range_with_len}
use Rattle.std.specs.Option.{option_map_or}
use Rattle.mo_types.specs.Gives.{guarded, each_from}
use Rattle.mo_types.specs.RelocationRules.{section_numbered, is_within}
use Rattle.mo_types.specs.Whole.{IsDefinedWithin}
use Rattle.mo_types.specs.declared.cause.Rule.TheVariants as rule
use Rattle.mo_types.specs.declared.object_fault.ObjFault.{ObjFault}
use Rattle.mo_types.specs.declared.object_fault.ObjFault.TheVariants.{Malformed}
use Rattle.mo_types.specs.declared.object.Section.{Section}
use Rattle.mo_types.specs.declared.object.Symbol.{Symbol}
use Rattle.mo_types.specs.declared.object.SymbolKind.{SymbolKind}
use Rattle.mo_types.specs.declared.object.SymbolKind.TheVariants.{Undefined, Common, Defined, Absolute, Passed}
use Rattle.mo_format.specs.Symbol.{symtab_command_at, nlist_at}
use Rattle.mo_format.specs.declared.nlist.TheConstants.{N_ABS, N_ALT_ENTRY, N_EXT, N_NO_DEAD_STRIP, N_PEXT, N_SECT, N_STAB, N_SYMBOL_RESOLVER, N_TYPE, N_UNDF, N_WEAK_DEF, N_WEAK_REF}
use Rattle.mo_format.specs.declared.symbol.SymtabCommand.{SymtabCommand}
use Rattle.mo_format.specs.declared.symbol.Nlist.{Nlist}
use Rattle.mo_strings.specs.Strings.{string_at}
use Rattle.mo_obj.specs.Names.{part}
use Rattle.mo_obj.specs.declared.commands.Frame.{Frame}

-- a symbol table of 24 bytes whose entries and strings lie within the file
abbrev pub is_within_file : ℕ → SymtabCommand → Bool
is_within_file size symtab =
    symtab.cmdsize == 24 && nat_le (symtab.symoff + 16 * symtab.nsyms) size && nat_le (symtab.stroff + symtab.strsize) size

abbrev pub is_symtab : List ℕ → ℕ → Bool
is_symtab bytes at = nat_le (at + 24) (length bytes) && is_within_file (length bytes) (symtab_command_at bytes at)

-- the table of an object without one
abbrev pub no_symtab : SymtabCommand
no_symtab = record { cmd = 0; cmdsize = 0; symoff = 0; nsyms = 0; stroff = 0; strsize = 0 }

-- the symbol table
unfoldable pub symtab_of : List ℕ → Frame → Result SymtabCommand ObjFault
symtab_of bytes frame =
    option_map_or (λ at. guarded (is_symtab bytes at) (Malformed at rule.Symbols) (symtab_command_at bytes at)) frame.symtab (Ok no_symtab)

-- the entries and the strings lie within a file of a size
pub record IsTable (size : ℕ) (symtab : SymtabCommand) : Type 0 where
  pub entries : symtab.symoff + 16 * symtab.nsyms ≤ size
  pub strings : symtab.stroff + symtab.strsize ≤ size

abbrev pub entry_place : SymtabCommand → ℕ → ℕ
entry_place symtab i = symtab.symoff + 16 * i

unfoldable pub entry_at : List ℕ → SymtabCommand → ℕ → Nlist
entry_at bytes symtab i = nlist_at bytes (entry_place symtab i)

abbrev pub strings_of : List ℕ → SymtabCommand → List ℕ
strings_of bytes symtab = part bytes symtab.stroff symtab.strsize

-- a bit of a mask is set
abbrev pub has : ℕ → ℕ → Bool
has word mask = not (bit_and word mask == 0)

-- a debugging entry, whose other fields mean something else
abbrev pub is_stab : Nlist → Bool
is_stab entry = has entry.n_type N_STAB

-- a bit of n_type or n_desc, which counts where the symbol is no debugging entry
abbrev pub marked : Nlist → ℕ → ℕ → Bool
marked entry word mask = not (is_stab entry) && has word mask

-- what the symbol stands for
abbrev pub type_of : Nlist → ℕ
type_of entry = bit_and entry.n_type N_TYPE

-- seen by other objects
abbrev pub is_external : Nlist → Bool
is_external entry = has entry.n_type N_EXT

-- an address of the section of a number from 1, its end included
abbrev pub is_defined_within : List Section → Nlist → Bool
is_defined_within sections entry = option_map_or (λ section. is_within section entry.n_value) (section_numbered sections entry.n_sect) false

-- an external symbol without a section: undefined, or common with its size and GET_COMM_ALIGN
abbrev pub common_or_undefined : Nlist → SymbolKind
common_or_undefined entry = if entry.n_value == 0 then Undefined else Common (entry.n_desc / 0x100 % 0x10) entry.n_value

-- What a symbol that is no debugging entry stands for, by N_TYPE. Those that aren't named here
-- (N_INDR, N_PBUD) are defined elsewhere, if anywhere.
abbrev pub kind_by_type : Nlist → SymbolKind
kind_by_type entry =
    if type_of entry == N_SECT then Defined entry.n_sect entry.n_value
    else if type_of entry == N_ABS then Absolute
    else if type_of entry == N_UNDF then (if is_external entry then common_or_undefined entry else Passed)
    else Undefined

unfoldable pub kind_of : Nlist → SymbolKind
kind_of entry = if is_stab entry then Passed else kind_by_type entry

-- Symbol: a name outside the strings or without its NUL, or a definition outside its section
abbrev pub is_placed : List Section → Nlist → Bool
is_placed sections entry = is_stab entry || not (type_of entry == N_SECT) || is_defined_within sections entry

abbrev pub symbol_with : Nlist → List ℕ → Symbol
symbol_with entry name = record {
  name = name;
  kind = kind_of entry;
  external = marked entry entry.n_type N_EXT;
  hidden = marked entry entry.n_type N_PEXT;
  weak_def = marked entry entry.n_desc N_WEAK_DEF;
  weak_ref = marked entry entry.n_desc N_WEAK_REF;
  no_strip = marked entry entry.n_desc N_NO_DEAD_STRIP;
  alt = type_of entry == N_SECT && marked entry entry.n_desc N_ALT_ENTRY;
}

-- a symbol whose definition, if it is one, lies in its section
pub record IsInPlace (sections : List Section) (symbol : Symbol) : Type 0 where
  pub placed : IsDefinedWithin sections symbol.kind

unfoldable pub symbol_of : List ℕ → List Section → Nlist → Option Symbol
symbol_of strings sections entry =
    option_map_or (λ name. if is_placed sections entry then Some (symbol_with entry name) else None) (string_at strings entry.n_strx) None

unfoldable pub symbol_at : List ℕ → SymtabCommand → List Section → ℕ → Result Symbol ObjFault
symbol_at bytes symtab sections i =
    option_map_or Ok (symbol_of (strings_of bytes symtab) sections (entry_at bytes symtab i)) (Err (Malformed (entry_place symtab i) rule.Symbol))

-- all symbols, in their order
unfoldable pub symbols_of : List ℕ → SymtabCommand → List Section → Result (List Symbol) ObjFault
symbols_of bytes symtab sections = each_from (symbol_at bytes symtab sections) 0 symtab.nsyms

-- a symbol that the linker doesn't have: of another N_TYPE, or a definition that is a resolver
abbrev pub is_foreign : Nlist → Bool
is_foreign entry =
    not (is_stab entry)
    && (if type_of entry == N_SECT then has entry.n_desc N_SYMBOL_RESOLVER else not (type_of entry == N_UNDF) && not (type_of entry == N_ABS))

unfoldable pub is_foreign_at : List ℕ → SymtabCommand → ℕ → Bool
is_foreign_at bytes symtab i = is_foreign (entry_at bytes symtab i)

unfoldable pub any_foreign : List ℕ → SymtabCommand → Bool
any_foreign bytes symtab = list_any (is_foreign_at bytes symtab) (range_with_len 0 symtab.nsyms)
