-- What has been found of the exports of a trie.
use Rattle.std.specs.Prelude.{ℕ, ◌≡◌, ◌≢◌, ◌<◌, List, [], ◌∷◌, ◌++◌, if◌then◌else◌, All, AllPairs, Contains}
use Rattle.dylib_read.specs.declared.trie.DylibExport.{DylibExport}
use Rattle.dylib_read.specs.Trie.{IsExportAt, is_directive}
use Rattle.dylib_read.specs.TrieNodes.{is_weak}

-- exports and that of a name with flags
unfoldable pub added : List DylibExport → List ℕ → ℕ → List DylibExport
added exports name flags = if is_directive name then exports else exports ++ record { name = name; weak = is_weak flags } ∷ []

-- the export of the node at a place has been added, where there is one
pub data Adds (trie : List ℕ) (at : ℕ) (old new : List DylibExport) : Type 0 where
  none : ((export : DylibExport) → IsExportAt trie at export → ⊥) → new ≡ old → Adds trie at old new
  one : (export : DylibExport) → IsExportAt trie at export → ((other : DylibExport) → IsExportAt trie at other → other ≡ export) → new ≡ old ++ export ∷ [] → Adds trie at old new

-- an export of a node before n
pub record IsBefore (trie : List ℕ) (n : ℕ) (export : DylibExport) : Type 0 where
  pub at : ℕ
  pub before : at < n
  pub here : IsExportAt trie at export

-- the exports of the nodes before n
pub record AreFound (trie : List ℕ) (exports : List DylibExport) (n : ℕ) : Type 0 where
  pub sound : All (IsBefore trie n) exports
  pub all : (export : DylibExport) → IsBefore trie n export → Contains exports export
  pub apart : AllPairs (λ a b. a.name ≢ b.name) exports
