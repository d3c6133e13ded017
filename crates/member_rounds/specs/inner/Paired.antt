-- Files with the numbers of their symbols.
use Rattle.std.specs.Prelude.{ℕ, List, [], ◌∷◌, Option, Some, None}
use Rattle.mo_types.specs.declared.loaded.LoadedFile.{LoadedFile}
use Rattle.member_rounds.specs.declared.in_order.NamedFile.{NamedFile}

-- a file with its numbers, where there are any
abbrev pub pair_of : LoadedFile → Option (List ℕ) → List NamedFile
pair_of file None = []
pair_of file (Some list) = record { file = file; numbers = list } ∷ []

-- each file with its numbers, as far as both lists go
abbrev pub zipped : List LoadedFile → List (List ℕ) → List NamedFile
zipped [] numbers = []
zipped (file ∷ files) [] = []
zipped (file ∷ files) (list ∷ numbers) = record { file = file; numbers = list } ∷ zipped files numbers
