-- How the code holds the exports and the nodes of a trie.
use Rattle.std.specs.Prelude.{ℕ, ◌≡◌, ◌-◌, ◌<◌, ◌≤◌, ◌==◌, ◌&&◌, nat_lt, if◌then◌else◌, List, [], ◌∷◌, ◌++◌, length, take, map, Contains, All, slice_index_or, true, Some, slice_get, Vec}
use Rattle.std.specs.Global.{Global}
use Rattle.std.specs.List.{AllByRecursion}
use Rattle.std.specs.Borrow.{Bor}
use Rattle.export_trie.specs.declared.export.ExportAddress.{ExportAddress}
use Rattle.export_trie.specs.declared.nodes.Node.{Node}
use Rattle.export_trie.specs.Strings.{begins}
use Rattle.export_trie.specs.Trie.{AreNodes, children, names}

-- the exports behind some references, and their names
abbrev pub held : List (Bor ExportAddress) → List ExportAddress
held references = map (λ reference. reference.now) references

abbrev pub held_names : List (Bor ExportAddress) → List (List ℕ)
held_names references = names (held references)

-- each number of the string is a byte
abbrev pub AreBytes : List ℕ → Type 0
AreBytes string = All (λ byte. byte < 256) string

-- ---- nodes

-- the name that a node's string begins
abbrev pub name_of : List (List ℕ) → Node → List ℕ
name_of strings node = slice_index_or strings node.name []

-- the node's string
unfoldable pub text : List (List ℕ) → Node → List ℕ
text strings node = take node.len (name_of strings node)

abbrev pub texts : List (List ℕ) → List Node → List (List ℕ)
texts strings nodes = map (text strings) nodes

-- the node's string isn't longer than the name
abbrev pub Fits : List (List ℕ) → Node → Type 0
Fits strings node = node.len ≤ length (name_of strings node)

-- the nodes of the strings, in order; where a node's string is one of them, it's the one that the node begins
pub record AreHeld (strings : List (List ℕ)) (nodes : List Node) : Type 0 where
  pub all : AreNodes strings (texts strings nodes)
  pub fits : All (Fits strings) nodes
  pub whole : All (λ node. Contains strings (text strings node) → slice_get strings node.name ≡ Some (text strings node)) nodes

-- the node whose string is the first bytes of the name at a place
abbrev pub node_at : ℕ → ℕ → Node
node_at place bytes = record { name = place; len = bytes }

-- the bytes of the last node's string, or 0
abbrev pub last_bytes : List Node → ℕ
last_bytes nodes = (slice_index_or nodes (length nodes - 1) (node_at 0 0)).len

-- all but the last node
abbrev pub without_last : List Node → List Node
without_last nodes = take (length nodes - 1) nodes

-- some nodes at the end are gone, each of more bytes than are shared
pub record Closes (shared : ℕ) (old new : List Node) : Type 0 where
  pub gone : List Node
  pub split : old ≡ new ++ gone
  pub long : AllByRecursion (λ node. shared < node.len) gone

-- the nodes on the way to a name of so many bytes, from those on the way to what it shares with the later ones
abbrev pub entered : List Node → ℕ → ℕ → ℕ → List Node
entered path place shared bytes =
    if last_bytes path == shared && shared == bytes then without_last path ++ node_at place bytes ∷ []
    else if nat_lt (last_bytes path) shared && nat_lt shared bytes then path ++ node_at place shared ∷ [] ++ node_at place bytes ∷ []
    else path ++ node_at place bytes ∷ []

-- ---- children

-- the parent of a node, by its place: the last node before it whose string begins its string
pub record IsParent (nodes : List (List ℕ)) (place parent : ℕ) : Type 0 where
  pub before : parent < place
  pub begin : begins (slice_index_or nodes parent []) (slice_index_or nodes place []) ≡ true
  pub last : (other : ℕ) → other < place → begins (slice_index_or nodes other []) (slice_index_or nodes place []) ≡ true → other ≤ parent

-- each node below a place, but the first, has its parent in the list
abbrev pub AreParents : List (List ℕ) → ℕ → List ℕ → Type 0
AreParents nodes high parents = (place : ℕ) → 0 < place → place < high → IsParent nodes place (slice_index_or parents place 0)

abbrev pub rows_of : List (Vec ℕ Global) → List (List ℕ)
rows_of rows = map (λ row. row.items) rows

-- the nodes at some places
abbrev pub at_places : List (List ℕ) → List ℕ → List (List ℕ)
at_places nodes places = map (λ place. slice_index_or nodes place []) places

-- the places of each node's children, in order
pub record HoldsChildren (nodes rows : List (List ℕ)) : Type 0 where
  pub long : length rows ≡ length nodes
  pub each : (place : ℕ) → place < length nodes → at_places nodes (slice_index_or rows place []) ≡ children nodes (slice_index_or nodes place [])
  pub within : (place : ℕ) → place < length nodes → AllByRecursion (λ child. child < length nodes) (slice_index_or rows place [])
