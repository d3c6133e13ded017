-- The exports of a trie (`loader.h`: LC_DYLD_EXPORTS_TRIE): the names whose walks end at them. And its fault.
use Rattle.std.specs.Prelude.{ℕ, ◌≡◌, ◌<◌, ◌≤◌, Bool, false, nat_eq, List, [], ◌++◌, length, slice_index_or, map, codes, Option, Some, None, Contains}
use Rattle.std.specs.Cmp.Lexicographic.{slice_cmp}
use Rattle.std.specs.List.{starts_with}
use Rattle.std.specs.List.Sorted.{IsStrictlySortedBy}
use Rattle.std.specs.Option.{option_map_or, option_and_then}
use Rattle.std.specs.Ordering.{nat_cmp}
use Rattle.export_trie.specs.Strings.{begins}
use Rattle.dylib_read.specs.declared.trie.DylibExport.{DylibExport}
use Rattle.dylib_read.specs.declared.trie_fault.TrieFault.{TrieFault}
use Rattle.dylib_read.specs.declared.trie_fault.TrieFault.TheVariants.{Broken, OutOfMemory}
use Rattle.dylib_read.specs.declared.trie_node.Edge.{Edge}
use Rattle.dylib_read.specs.TrieNodes.{is_weak, label, node_at}

-- the edges of the node at a place
unfoldable pub edges_of : List ℕ → ℕ → List Edge
edges_of trie at = option_map_or (λ node. node.edges) (node_at trie at) []

-- the flags of the export whose name ends at the node at a place
unfoldable pub flags_of : List ℕ → ℕ → Option ℕ
flags_of trie at = option_and_then (λ node. node.flags) (node_at trie at)

-- the edge is that of this number of the node at a place
pub record HasEdge (trie : List ℕ) (at number : ℕ) (edge : Edge) : Type 0 where
  pub within : number < length (edges_of trie at)
  pub is : slice_index_or (edges_of trie at) number edge ≡ edge

-- ---- walks

-- Along which edge a walk goes on from the node at a place: the first one whose label begins what is left of the name.
-- `below` is left then. A walk of which nothing is left has ended.
pub record Takes (trie : List ℕ) (at : ℕ) (rest : List ℕ) (number : ℕ) (edge : Edge) (below : List ℕ) : Type 0 where
  pub has : HasEdge trie at number edge
  pub some : rest ≡ [] → ⊥
  pub spells : rest ≡ label trie edge ++ below
  pub first : (earlier : ℕ) (other : Edge) → earlier < number → HasEdge trie at earlier other → begins (label trie other) rest ≡ false

-- the walk of a name from the root comes to the node at a place, and there something is left of the name
pub data Walk (trie name : List ℕ) : ℕ → List ℕ → Type 0 where
  root : {at : ℕ} {rest : List ℕ} → at ≡ 0 → rest ≡ name → Walk trie name at rest
  along : {at : ℕ} {rest : List ℕ} → (from : ℕ) → (whole : List ℕ) → (number : ℕ) → (edge : Edge) → Walk trie name from whole → Takes trie from whole number edge rest → at ≡ edge.child → Walk trie name at rest

-- the walk of some name comes to the place
pub record IsWalked (trie : List ℕ) (at : ℕ) : Type 0 where
  pub name : List ℕ
  pub rest : List ℕ
  pub walk : Walk trie name at rest

-- ---- faults

-- two edges of walked nodes lead to one place of the trie, be they taken or not
pub record TwoEdges (trie : List ℕ) : Type 0 where
  pub from : ℕ
  pub other : ℕ
  pub number : ℕ
  pub further : ℕ
  pub edge : Edge
  pub second : Edge
  pub walked : IsWalked trie from
  pub walked_too : IsWalked trie other
  pub has : HasEdge trie from number edge
  pub has_too : HasEdge trie other further second
  pub apart : from ≡ other → number ≡ further → ⊥
  pub within : edge.child < length trie
  pub meet : edge.child ≡ second.child

-- a walk goes along an edge to a node that isn't behind the last
pub record GoesBack (trie : List ℕ) : Type 0 where
  pub at : ℕ
  pub name : List ℕ
  pub rest : List ℕ
  pub number : ℕ
  pub edge : Edge
  pub below : List ℕ
  pub walk : Walk trie name at rest
  pub takes : Takes trie at rest number edge below
  pub back : edge.child ≤ at

-- a walk that comes to no node, or goes to one that isn't behind the last; and two edges to one node
pub data IsBroken (trie : List ℕ) : Type 0 where
  leaves : (at : ℕ) → IsWalked trie at → node_at trie at ≡ None → IsBroken trie
  returns : GoesBack trie → IsBroken trie
  meets : TwoEdges trie → IsBroken trie

-- the trie has the fault: a trie of no bytes has none
abbrev pub IsFaultOf : List ℕ → TrieFault → Type 0
IsFaultOf trie Broken = (0 < length trie) × IsBroken trie
IsFaultOf trie OutOfMemory = Unit {0}

abbrev pub IsWhole : List ℕ → Type 0
IsWhole trie = IsFaultOf trie Broken → ⊥

-- ---- exports

-- names that speak to a linker, and are no symbols
abbrev pub is_directive : List ℕ → Bool
is_directive name = starts_with nat_eq name (codes "$ld$")

-- the walk of the export's name ends at the node at a place, and there are its flags
pub record IsExportAt (trie : List ℕ) (at : ℕ) (export : DylibExport) : Type 0 where
  pub walk : Walk trie export.name at []
  pub flags : ℕ
  pub here : flags_of trie at ≡ Some flags
  pub weak : export.weak ≡ is_weak flags
  pub symbol : is_directive export.name ≡ false

abbrev pub IsExport : List ℕ → DylibExport → Type 0
IsExport trie export = (at : ℕ) × IsExportAt trie at export

-- all exports of the trie, in the byte order of their names, each name once
pub record AreExports (trie : List ℕ) (exports : List DylibExport) : Type 0 where
  pub sound : (export : DylibExport) → Contains exports export → IsExport trie export
  pub all : (export : DylibExport) → IsExport trie export → Contains exports export
  pub rising : IsStrictlySortedBy (slice_cmp nat_cmp) (map (λ export. export.name) exports)
