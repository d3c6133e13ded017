-- Files by their paths.
use Rattle.std.specs.Prelude.{ℕ, ◌≡◌, ◌^◌, List, take, Bool, Option, None, Some, option_map, if◌then◌else◌}
use Rattle.std.specs.FinMap as map
use Rattle.std.specs.Ordering.{nat_cmp}
use Rattle.std.specs.Cmp.Lexicographic.{slice_cmp}

-- the bytes of each file
abbrev pub FileMap : Type 0
FileMap = map.FinMap (slice_cmp nat_cmp) (List ℕ)

abbrev pub file_at : FileMap → List ℕ → Option (List ℕ)
file_at files path = map.get files path

-- the most bytes that are fetched of one file
abbrev pub fetch_limit : ℕ
fetch_limit = 2 ^ 30

-- what a fetch of the path gives
unfoldable pub fetched : FileMap → List ℕ → Option (List ℕ)
fetched files path = option_map (take fetch_limit) (file_at files path)

-- An answer of a fetch, and the bytes that it gave, agree with the files, where these are told.
abbrev pub Fetches : Option FileMap → List ℕ → Bool → List ℕ → Type 0
Fetches None path there bytes = Unit {0}
Fetches (Some files) path there bytes = fetched files path ≡ (if there then Some bytes else None)
