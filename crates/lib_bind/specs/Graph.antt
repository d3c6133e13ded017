-- The libraries of a link, and the documents that they reach.
use Rattle.std.specs.Prelude.{ℕ, ◌≡◌, ◌+◌, ◌<◌, ◌≤◌, List, [], ◌∷◌, length, get_or, slice_get, Some, Contains}
use Rattle.std.specs.List.Sorted.{IsStrictlySortedBy}
use Rattle.std.specs.Ordering.{nat_cmp}
use Rattle.lib_bind.specs.declared.library.Library.{Library}
use Rattle.lib_bind.specs.declared.library.LibraryGraph.{LibraryGraph}

-- the documents that a document re-exports
abbrev pub linked : List (List ℕ) → ℕ → List ℕ
linked links from = get_or links from []

-- a path of links leads from one document to another, by way of those that are given
abbrev pub Leads : List (List ℕ) → ℕ → List ℕ → ℕ → Type 0
Leads links from [] to = from ≡ to
Leads links from (next ∷ path) to = Contains (linked links from) next × Leads links next path to

-- some path does
pub record Reaches (links : List (List ℕ)) (from to : ℕ) : Type 0 where
  pub path : List ℕ
  pub leads : Leads links from path to

-- the documents are those that a path of links leads to, once each, by rising number
pub record AreReached (links : List (List ℕ)) (from : ℕ) (documents : List ℕ) : Type 0 where
  pub all : (to : ℕ) → Reaches links from to → Contains documents to
  pub only : (to : ℕ) → Contains documents to → Reaches links from to
  pub rising : IsStrictlySortedBy nat_cmp documents

-- each document has its links, and all of them lead to documents
pub record AreLinks (documents : ℕ) (links : List (List ℕ)) : Type 0 where
  pub each : length links ≡ documents
  pub within : (from to : ℕ) → Contains (linked links from) to → to < documents

-- the libraries have documents, ordinals that count from 1, and rising positions
pub record AreLibraries (documents : ℕ) (libraries : List Library) : Type 0 where
  pub within : (at : ℕ) (library : Library) → slice_get libraries at ≡ Some library → library.document < documents
  pub ordinals : (at : ℕ) (library : Library) → slice_get libraries at ≡ Some library → library.ordinal ≡ at + 1
  pub rising : (i j : ℕ) (first second : Library) → i < j → slice_get libraries i ≡ Some first → slice_get libraries j ≡ Some second → first.position < second.position
  pub few : length libraries ≤ 240

-- for each library there are the documents that it reaches
pub record AreReaches (libraries : List Library) (links reach : List (List ℕ)) : Type 0 where
  pub each : length reach ≡ length libraries
  pub reached : (at : ℕ) (library : Library) → slice_get libraries at ≡ Some library → AreReached links library.document (get_or reach at [])

-- libraries that are whole
pub record IsWhole (graph : LibraryGraph) : Type 0 where
  pub links : AreLinks (length graph.documents) graph.links
  pub libraries : AreLibraries (length graph.documents) graph.libraries
  pub reach : AreReaches graph.libraries graph.links graph.reach
