-- Names that two strong definitions have.
use Rattle.std.specs.Prelude.{◌≡◌, ℕ, ◌==◌, Bool, false, List, [], ◌∷◌, filter, slice_get, Option, Some, None, IsSome}
use Rattle.std.specs.Ordering.{nat_cmp, is_gt}
use Rattle.std.specs.Cmp.Lexicographic.{slice_cmp}
use Rattle.mo_types.specs.Candidates.{Candidate, candidates_for, strength}
use Rattle.mo_types.specs.declared.key.FileId.{FileId}
use Rattle.mo_types.specs.declared.loaded.LoadedFile.{LoadedFile}

abbrev pub is_strong : Candidate → Bool
is_strong candidate = strength candidate.symbol == 0

-- the strong candidates of a name, in the order of their words
unfoldable pub strong_for : List LoadedFile → List ℕ → List Candidate
strong_for files name = filter is_strong (candidates_for files name)

-- the files of the first two, where there are two
abbrev pub first_two : List Candidate → Option (FileId × FileId)
first_two [] = None
first_two (first ∷ []) = None
first_two (first ∷ second ∷ rest) = Some (first.file, second.file)

-- the files of the first two strong candidates of a name, where it has two
unfoldable pub duplicate_of : List LoadedFile → List ℕ → Option (FileId × FileId)
duplicate_of files name = first_two (strong_for files name)

-- the least name that has two, by its number among the names
pub record IsLeastDuplicate (files : List LoadedFile) (names : List (List ℕ)) (id : ℕ) (pair : FileId × FileId) : Type 0 where
  pub name : List ℕ
  pub numbered : slice_get names id ≡ Some name
  pub twice : duplicate_of files name ≡ Some pair
  pub least : (other : List ℕ) → IsSome (duplicate_of files other) → is_gt (slice_cmp nat_cmp name other) ≡ false

-- the least name with two strong candidates and the files of these, or none where no name has two
abbrev pub IsDuplicate : List LoadedFile → List (List ℕ) → Option (ℕ × FileId × FileId) → Type 0
IsDuplicate files names None = (name : List ℕ) → duplicate_of files name ≡ None
IsDuplicate files names (Some d) = IsLeastDuplicate files names d.0 (d.1, d.2)
