-- What the symbols of an image mean.
use Rattle.std.specs.Prelude.{Contains, ℕ, ◌+◌, ◌*◌, ◌%◌, ◌^◌, ◌≡◌, ◌<◌, ◌⊎◌, true, List, length, take, drop, slice_index_or, Some}
use Rattle.std.specs.List.{flat_map}
use Rattle.mo_format.specs.Symbol.{nlist_bytes}
use Rattle.mo_format.specs.declared.loader.TheConstants.{INDIRECT_SYMBOL_LOCAL}
use Rattle.mo_types.specs.Goals.{name_of}
use Rattle.mo_types.specs.declared.goal.Goal.{Goal}
use Rattle.mo_types.specs.Candidates.{word_of}
use Rattle.mo_types.specs.declared.atom.Atom.{Atom}
use Rattle.mo_types.specs.declared.loaded.LoadedFile.{LoadedFile}
use Rattle.sect_place.specs.declared.layout.Placed.{Placed}
use Rattle.slot_plan.specs.declared.list.Slots.{Slots}
use Rattle.symbol_winners.specs.declared.winner.Winner.{Winner}
use Rattle.sym_out.specs.Entries.{Entry, nlist_of, string_of, strings_bytes, symbols_bytes}
use Rattle.sym_out.specs.Files.{FileSymbol, stands}
use Rattle.sym_out.specs.Map.{IsMap}
use Rattle.sym_out.specs.Sizes.{sizes_of}
use Rattle.sym_out.specs.Symbols.{Ranges, entries_of, indirect_number, parts_of, winning_symbol}

-- the parts have the sizes that counts tell
pub record HaveSizes (slots : Slots) (ranges : Ranges) : Type 0 where
  pub of_symbols : length (parts_of slots ranges).symbols ≡ (sizes_of slots ranges).symbols
  pub of_indirect : length (parts_of slots ranges).indirect ≡ (sizes_of slots ranges).indirect
  pub of_strings : length (parts_of slots ranges).strings ≡ (sizes_of slots ranges).strings

-- where the string of an entry stands: behind one NUL and the strings of those before
abbrev pub string_place : List Entry → ℕ → ℕ
string_place entries i = 1 + length (flat_map string_of (take i entries))

-- the 16 bytes of each symbol tell its place among the strings, and there its name stands with the NUL that ends it
pub record IsNamed (entries : List Entry) (i : ℕ) (entry : Entry) : Type 0 where
  pub symbol : take 16 (drop (16 * i) (symbols_bytes entries)) ≡ nlist_bytes (nlist_of (string_place entries i) entry)
  pub string : take (length (string_of entry)) (drop (string_place entries i) (strings_bytes entries)) ≡ string_of entry

-- the number of a symbol that has the goal's name
pub record IsNumberOf (ranges : Ranges) (goal : Goal) (number : ℕ) : Type 0 where
  pub at : ℕ
  pub within : at < length (entries_of ranges)
  pub named : (d : Entry) → (slice_index_or (entries_of ranges) at d).name ≡ name_of goal
  pub value : number ≡ at % 2 ^ 32

-- what the indirect table has for a goal: the number of its symbol, or that it has none
abbrev pub LeadsToSymbol : Ranges → Goal → Type 0
LeadsToSymbol ranges goal = (indirect_number ranges goal ≡ INDIRECT_SYMBOL_LOCAL) ⊎ IsNumberOf ranges goal (indirect_number ranges goal)

-- the symbol that a winner's word tells is the one that won: it has the winner's name and word, and stands where that does
pub record IsItsSymbol (files : List LoadedFile) (winner : Winner) : Type 0 where
  pub symbol : FileSymbol
  pub told : winning_symbol files winner ≡ Some symbol
  pub named : symbol.symbol.name ≡ winner.name
  pub external : symbol.symbol.external ≡ true
  pub word : word_of symbol.file.id symbol.index symbol.symbol ≡ winner.word
  pub stands_there : stands symbol ≡ Some (record { atom = winner.atom; offset = winner.offset })

-- some bytes are the map
abbrev pub HasMap : List Placed → List Atom → List LoadedFile → Type 0
HasMap placed atoms files = (map : List ℕ) × IsMap placed atoms files map

-- an entry stands among some, and no other one of its name does
pub record IsOne (entries : List Entry) (entry : Entry) : Type 0 where
  pub there : Contains entries entry
  pub only : (other : Entry) → Contains entries other → other.name ≡ entry.name → other ≡ entry
