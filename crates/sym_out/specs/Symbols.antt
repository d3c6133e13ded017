-- The symbols of an image, in three ranges (`loader.h`: dysymtab_command): local ones, those that other images see, and
-- those that other images have; and the table that tells which symbol each stub and slot is for.
use Rattle.std.specs.Prelude.{ℕ, ◌+◌, ◌*◌, ◌%◌, ◌^◌, ◌≡◌, List, ◌++◌, length, map, slice_get, Option, Some, None, IsPermutation, if◌then◌else◌}
use Rattle.std.specs.List.{filter_map, flat_map}
use Rattle.std.specs.List.Sorted.{IsSorted}
use Rattle.std.specs.Option.{option_and_then, option_map, option_map_or}
use Rattle.std.specs.Ordering.{nat_cmp, ordering_then}
use Rattle.std.specs.declared.cmp.Ordering.{Ordering}
use Rattle.literal_merge.specs.Standing.{stands_for}
use Rattle.literal_merge.specs.declared.representative.Representative.{Representative}
use Rattle.mo_bytes.specs.Number.{number_bytes}
use Rattle.mo_format.specs.declared.loader.TheConstants.{INDIRECT_SYMBOL_LOCAL}
use Rattle.mo_format.specs.declared.nlist.TheConstants.{DYNAMIC_LOOKUP_ORDINAL, NO_SECT, N_ALT_ENTRY, N_EXT, N_PEXT, N_SECT, N_UNDF, N_WEAK_DEF, N_WEAK_REF}
use Rattle.mo_types.specs.Keys.{compare_files, compare_keys}
use Rattle.mo_types.specs.declared.goal.Goal.{Goal}
use Rattle.mo_types.specs.declared.goal.Goal.TheVariants.{Def, Flat, Header, Import, Nobody, WeakSelf}
use Rattle.mo_types.specs.declared.loaded.LoadedFile.{LoadedFile}
use Rattle.sect_place.specs.declared.layout.Layout.{Layout}
use Rattle.slot_plan.specs.declared.list.Slots.{Slots}
use Rattle.symbol_winners.specs.SymbolTable.{SymbolTable}
use Rattle.symbol_winners.specs.Winners.{is_own}
use Rattle.symbol_winners.specs.declared.places.Place.{Place}
use Rattle.symbol_winners.specs.declared.winner.Winner.{Winner}
use Rattle.sym_out.specs.Entries.{Entry, in_32, place_named, strings_bytes, symbols_bytes}
use Rattle.sym_out.specs.Files.{FileSymbol, file_of, stands, symbols_of}
use Rattle.sym_out.specs.Sites.{Site, site_of}
use Rattle.sym_out.specs.declared.parts.SymbolParts.{SymbolParts}

-- the address of a place in an atom: what a field of 64 bits holds of it
abbrev pub address_at : Site → ℕ → ℕ
address_at site offset = (site.address + offset) % 2 ^ 64

-- ---- local symbols

-- a symbol of a file, and where in the image it stands
pub record Local : Type 0 where
  pub symbol : FileSymbol
  pub site : Site
  pub offset : ℕ

-- a symbol at a place of the image, unless an assembler or a compiler gave its name for its own use, or the atom isn't kept
unfoldable pub local_at : Layout → FileSymbol → Place → Option Local
local_at layout s place =
    if is_own s.symbol.name then None
    else option_map (λ site. record { symbol = s; site = site; offset = place.offset }) (site_of layout place.atom)

-- a symbol that no other file sees
unfoldable pub own_local : Layout → FileSymbol → Option Local
own_local layout s = if s.symbol.external then None else option_and_then (local_at layout s) (stands s)

-- the symbol that won: a candidate's word ends in its index
unfoldable pub winning_symbol : List LoadedFile → Winner → Option FileSymbol
winning_symbol files winner =
    let index = winner.word % 2 ^ 24 in
    option_and_then
    (λ file. option_map (λ symbol. record { file = file; index = index; symbol = symbol }) (slice_get file.object.symbols index))
    (file_of files winner.file)

-- where a winner stands: one in a literal at that which stands for it
abbrev pub winner_place : List Representative → Winner → Place
winner_place literals winner = record { atom = stands_for literals winner.atom; offset = winner.offset }

-- the winner of a name, where no other image sees it
unfoldable pub hidden_local : Layout → SymbolTable → List LoadedFile → Winner → Option Local
hidden_local layout symbols files winner =
    if winner.exported then None
    else option_and_then (λ s. local_at layout s (winner_place symbols.literals winner)) (winning_symbol files winner)

unfoldable pub locals_of : Layout → SymbolTable → List LoadedFile → List Local
locals_of layout symbols files =
    filter_map (own_local layout) (symbols_of files) ++ filter_map (hidden_local layout symbols files) symbols.winners

-- symbols by their files, and then in the order of a file's table
abbrev pub compare_symbols : FileSymbol → FileSymbol → Ordering
compare_symbols a b = ordering_then (compare_files a.file.id b.file.id) (nat_cmp a.index b.index)

-- those at one address by their atoms in the image, and then by the symbols themselves
abbrev pub compare_there : Local → Local → Ordering
compare_there a b = ordering_then (compare_keys a.site.atom b.site.atom) (compare_symbols a.symbol b.symbol)

-- by the address of the atom, and then those at one address
abbrev pub compare_locals : Local → Local → Ordering
compare_locals a b = ordering_then (nat_cmp a.site.address b.site.address) (compare_there a b)

-- what other files see has a bit that says so (`nlist.h`: N_PEXT)
abbrev pub local_entry : Local → Entry
local_entry l = record {
  name = l.symbol.symbol.name;
  n_type = if l.symbol.symbol.external then N_SECT + N_PEXT else N_SECT;
  n_sect = l.site.section;
  n_desc = if l.symbol.symbol.alt then N_ALT_ENTRY else 0;
  n_value = address_at l.site l.offset;
}

-- ---- symbols that other images see

abbrev pub exported_at : Winner → Site → Entry
exported_at winner site = record {
  name = winner.name;
  n_type = N_SECT + N_EXT;
  n_sect = site.section;
  n_desc = if winner.weak then N_WEAK_DEF else 0;
  n_value = address_at site winner.offset;
}

-- the winner of a name that other images see, where its atom is kept
unfoldable pub exported_entry : Layout → SymbolTable → Winner → Option Entry
exported_entry layout symbols winner =
    if winner.exported then option_map (exported_at winner) (site_of layout (winner_place symbols.literals winner).atom) else None

-- ---- symbols that other images have

abbrev pub undefined_at : List ℕ → ℕ → Entry
undefined_at name desc = record { name = name; n_type = N_UNDF + N_EXT; n_sect = NO_SECT; n_desc = desc; n_value = 0 }

-- a name that a library provides, with the library's number in the upper 8 bits, or one that the loader looks for in all images
unfoldable pub undefined_entry : Goal → Option Entry
undefined_entry (Import name ordinal by_weak optional) = Some (undefined_at name (ordinal * 2 ^ 8 + (if optional then N_WEAK_REF else 0)))
undefined_entry (Flat name) = Some (undefined_at name (DYNAMIC_LOOKUP_ORDINAL * 2 ^ 8))
undefined_entry (Def atom offset) = None
undefined_entry (WeakSelf name atom offset) = None
undefined_entry Header = None
undefined_entry Nobody = None

-- ---- the three ranges

pub record Ranges : Type 0 where
  pub locals : List Entry
  pub exported : List Entry
  pub undefined : List Entry

-- all symbols, range by range
abbrev pub entries_of : Ranges → List Entry
entries_of ranges = ranges.locals ++ ranges.exported ++ ranges.undefined

-- the ranges of an image: local symbols in order, and the others by name, as winners and bound goals are
pub record AreRanges (layout : Layout) (bound : List Goal) (symbols : SymbolTable) (files : List LoadedFile) (ranges : Ranges) : Type 0 where
  pub locals : List Local
  pub same : IsPermutation (locals_of layout symbols files) locals
  pub sorted : IsSorted compare_locals locals
  pub local_ones : ranges.locals ≡ map local_entry locals
  pub seen : ranges.exported ≡ filter_map (exported_entry layout symbols) symbols.winners
  pub wanted : ranges.undefined ≡ filter_map undefined_entry bound

-- ---- the indirect table

-- the number of the symbol of a name in a range before which some symbols stand
abbrev pub number_in : ℕ → List Entry → List ℕ → ℕ
number_in before entries name = option_map_or (λ at. in_32 (before + at)) (place_named entries name) INDIRECT_SYMBOL_LOCAL

-- the symbol for which a goal has a slot: that of its name, if it has one
unfoldable pub indirect_number : Ranges → Goal → ℕ
indirect_number ranges (WeakSelf name atom offset) = number_in (length ranges.locals) ranges.exported name
indirect_number ranges (Import name ordinal by_weak optional) = number_in (length ranges.locals + length ranges.exported) ranges.undefined name
indirect_number ranges (Flat name) = number_in (length ranges.locals + length ranges.exported) ranges.undefined name
indirect_number ranges (Def atom offset) = INDIRECT_SYMBOL_LOCAL
indirect_number ranges Header = INDIRECT_SYMBOL_LOCAL
indirect_number ranges Nobody = INDIRECT_SYMBOL_LOCAL

abbrev pub indirect_bytes : Ranges → List Goal → List ℕ
indirect_bytes ranges goals = flat_map (λ goal. number_bytes 4 (indirect_number ranges goal)) goals

-- the goals of stubs, then those of the slots of the global offset table, and then those of the slots for thread-local variables
abbrev pub slot_goals : Slots → List Goal
slot_goals slots = slots.stubs ++ slots.got ++ slots.tlv

-- ---- the parts

abbrev pub parts_of : Slots → Ranges → SymbolParts
parts_of slots ranges = record {
  symbols = symbols_bytes (entries_of ranges);
  indirect = indirect_bytes ranges (slot_goals slots);
  strings = strings_bytes (entries_of ranges);
  locals = in_32 (length ranges.locals);
  exported = in_32 (length ranges.exported);
  undefined = in_32 (length ranges.undefined);
}

-- the parts of an image that have its symbols
pub record AreSymbolParts (layout : Layout) (slots : Slots) (bound : List Goal) (symbols : SymbolTable) (files : List LoadedFile) (parts : SymbolParts) : Type 0 where
  pub ranges : Ranges
  pub ranged : AreRanges layout bound symbols files ranges
  pub written : parts ≡ parts_of slots ranges
