-- The symbols of loaded files.
use Rattle.std.specs.Prelude.{ℕ, List, [], map, Option}
use Rattle.std.specs.List.{enumerate_from, find, flat_map}
use Rattle.std.specs.Option.{option_map_or}
use Rattle.std.specs.Ordering.{is_eq}
use Rattle.mo_types.specs.Keys.{compare_files}
use Rattle.mo_types.specs.declared.key.FileId.{FileId}
use Rattle.mo_types.specs.declared.loaded.LoadedFile.{LoadedFile}
use Rattle.mo_types.specs.declared.object.Symbol.{Symbol}
use Rattle.symbol_winners.specs.Places.{place_of}
use Rattle.symbol_winners.specs.declared.places.Place.{Place}

-- a symbol, with the file that has it and its index in the file's table
pub record FileSymbol : Type 0 where
  pub file : LoadedFile
  pub index : ℕ
  pub symbol : Symbol

abbrev pub symbol_of : LoadedFile → ℕ × Symbol → FileSymbol
symbol_of file p = record { file = file; index = p.0; symbol = p.1 }

-- those of a file, in the order of its table
unfoldable pub symbols_in : LoadedFile → List FileSymbol
symbols_in file = map (symbol_of file) (enumerate_from 0 file.object.symbols)

-- those of files, file by file
unfoldable pub symbols_of : List LoadedFile → List FileSymbol
symbols_of files = flat_map symbols_in files

-- where a symbol stands
abbrev pub stands : FileSymbol → Option Place
stands s = place_of s.file s.index s.symbol.kind

-- the file of an id
unfoldable pub file_of : List LoadedFile → FileId → Option LoadedFile
file_of files id = find (λ file. is_eq (compare_files file.id id)) files

-- what the file of an id is called
unfoldable pub label_of : List LoadedFile → FileId → List ℕ
label_of files id = option_map_or (λ file. file.label) (file_of files id) []
