-- What contracts see of the objects in memory. A room is a count of bytes that was taken at the start.
use Rattle.std.specs.Prelude.{◌≡◌, ◌≢◌, ◌↔◌, IsTrue, ℕ, List, All, Option, None, Some}
use Rattle.std.specs.FinMap.{from_entries}
use Rattle.mo_outside.specs.Answers.{Answer, IsAnswer, Unread}
use Rattle.mo_outside.specs.Calls.{Calls, counted, is_failing}
use Rattle.mo_outside.specs.Files.{FileMap, file_at}
use Rattle.mo_outside.specs.Written.{Written}

-- the files of the pairs of a path and its bytes
unfoldable pub files_of : List (List ℕ × List ℕ) → FileMap
files_of pairs = from_entries pairs

-- the files are those of the pairs, and no others
pub record IsFilesOf (pairs : List (List ℕ × List ℕ)) (files : FileMap) : Type 0 where
  pub each : All (λ pair. file_at files pair.0 ≡ Some pair.1) pairs
  pub only : (path : List ℕ) → All (λ pair. pair.0 ≢ path) pairs → file_at files path ≡ None

-- files that can always be read, each a path with its bytes, and the paths that were asked for, where told
pub record SureFileSet : Type 0 where
  pub pairs : List (List ℕ × List ℕ)
  pub asked : Option (List (List ℕ))

-- files that can be read, each a path with its bytes, where some calls are to fail
pub record MemoryFiles : Type 0 where
  pub pairs : List (List ℕ × List ℕ)
  pub asked : Option (List (List ℕ))
  pub calls : Calls

-- a fetch of files that can always be read
pub record SureFetch (path : List ℕ) (answer : Answer) (old new : SureFileSet) : Type 0 where
  pub gives : IsAnswer (files_of old.pairs) path answer
  pub read : answer ≢ Unread
  pub pairs : new.pairs ≡ old.pairs

-- a fetch of files where some calls are to fail
pub record MemoryFetch (path : List ℕ) (answer : Answer) (old new : MemoryFiles) : Type 0 where
  pub gives : IsAnswer (files_of old.pairs) path answer
  pub failed : answer ≡ Unread ↔ IsTrue (is_failing old.calls)
  pub pairs : new.pairs ≡ old.pairs
  pub calls : new.calls ≡ counted (is_failing old.calls) old.calls

-- an output with room for paths and contents, where some calls are to fail
pub record MemoryOutput : Type 0 where
  pub files : List Written
  pub room : ℕ
  pub calls : Calls

-- an output with room for paths and contents, which tells its files until something doesn't fit
pub record SureOutput : Type 0 where
  pub files : Option (List Written)
  pub room : ℕ

-- a place for messages with room for their bytes, where some calls are to fail
pub record MemoryMessages : Type 0 where
  pub lines : List ℕ
  pub room : ℕ
  pub calls : Calls

-- a place for messages with room for their bytes, which tells them until something doesn't fit
pub record SureMessages : Type 0 where
  pub lines : Option (List ℕ)
  pub room : ℕ
