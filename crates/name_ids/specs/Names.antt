-- The names of a link, and their numbers.
use Rattle.std.specs.Prelude.{ℕ, ◌≡◌, ◌↔◌, ◌^◌, ◌<◌, ◌++◌, nat_lt, List, [], Contains, length, map, filter, position, unwrap_or, Result, Ok, Err, if◌then◌else◌}
use Rattle.std.specs.List.{IsDistinct, flat_map}
use Rattle.std.specs.Str.{bytes_eq}
use Rattle.indexmap.specs.IndexSet.{insert_all}
use Rattle.mo_types.specs.declared.loaded.LoadedFile.{LoadedFile}
use Rattle.mo_types.specs.declared.object.Symbol.{Symbol}
use Rattle.name_ids.specs.declared.fault.GatherFault.{GatherFault}
use Rattle.name_ids.specs.declared.fault.GatherFault.TheVariants.{Names, OutOfMemory}
use Rattle.name_ids.specs.declared.numbered.TheConstants.{NO_NUMBER}

-- the names of the external symbols (`nlist.h`: N_EXT) among some
unfoldable pub external_of : List Symbol → List (List ℕ)
external_of symbols = map (λ symbol. symbol.name) (filter (λ symbol. symbol.external) symbols)

-- the names of the external symbols of files, file by file
unfoldable pub external_names : List LoadedFile → List (List ℕ)
external_names files = flat_map (λ file. external_of file.object.symbols) files

-- names and further ones: each of these in turn goes last, unless it is there
abbrev pub added : List (List ℕ) → List (List ℕ) → List (List ℕ)
added names more = insert_all bytes_eq names more

-- the distinct names of a list in the order in which they come first, which is that of their numbers
unfoldable pub numbered : List (List ℕ) → List (List ℕ)
numbered names = added [] names

-- no two names are the same, and there are fewer than 2^24
pub record IsNumbering (names : List (List ℕ)) : Type 0 where
  pub distinct : IsDistinct bytes_eq names
  pub few : length names < 2 ^ 24

-- the names by their numbers, or that there are too many
abbrev pub limited : List (List ℕ) → Result (List (List ℕ)) GatherFault
limited names = if nat_lt (length names) (2 ^ 24) then Ok names else Err Names

unfoldable pub gathered : List LoadedFile → List (List ℕ) → Result (List (List ℕ)) GatherFault
gathered files extra = limited (numbered (external_names files ++ extra))

-- The names of files' external symbols and further ones have numbers, and no other name has. Which number a name has is
-- of no matter.
pub record AreNames (files : List LoadedFile) (extra names : List (List ℕ)) : Type 0 where
  pub numbering : IsNumbering names
  pub same : (name : List ℕ) → Contains (external_names files ++ extra) name ↔ Contains names name

-- the number of an external symbol's name, and that of what isn't external
unfoldable pub number_of : List (List ℕ) → Symbol → ℕ
number_of names symbol = if symbol.external then unwrap_or (position (bytes_eq symbol.name) names) NO_NUMBER else NO_NUMBER

-- the numbers of the symbols of a file, in the order of its table
unfoldable pub numbers_in : List (List ℕ) → LoadedFile → List ℕ
numbers_in names file = map (number_of names) file.object.symbols

-- those of files, file by file
unfoldable pub numbers_of : List (List ℕ) → List LoadedFile → List (List ℕ)
numbers_of names files = map (numbers_in names) files

-- a fault that the names have
abbrev pub IsGatherFault : GatherFault → Type 0
IsGatherFault Names = Unit {0}
IsGatherFault OutOfMemory = ⊥

-- ---- laws

-- names by which files' external symbols and further ones are numbered are as many as these are, whichever number each has
abbrev pub AreAsMany : List LoadedFile → List (List ℕ) → List (List ℕ) → Type 0
AreAsMany files extra names = length names ≡ length (numbered (external_names files ++ extra))
