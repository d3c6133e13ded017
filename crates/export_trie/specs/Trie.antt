-- The export trie of a list of exports: a tree of strings, in which each node's edge is as long as it can be
-- (`loader.h`: LC_DYLD_EXPORTS_TRIE).
use Rattle.std.specs.Prelude.{ℕ, ◌≡◌, ◌+◌, ◌-◌, ◌%◌, ◌≤◌, ◌⊎◌, Bool, not, ◌&&◌, List, [], ◌∷◌, ◌++◌, length, drop, map, replicate, Option, Some, None, Contains}
use Rattle.std.specs.List.{filter, find, flat_map, list_any}
use Rattle.std.specs.List.Sorted.{IsStrictlySortedBy}
use Rattle.std.specs.Option.{option_map_or}
use Rattle.std.specs.Ordering.{nat_cmp}
use Rattle.std.specs.Cmp.Lexicographic.{slice_cmp}
use Rattle.std.specs.Str.{bytes_eq}
use Rattle.mo_bytes.specs.Uleb.{uleb}
use Rattle.export_trie.specs.declared.export.ExportAddress.{ExportAddress}
use Rattle.export_trie.specs.declared.lookup.Found.{Found}
use Rattle.export_trie.specs.declared.lookup.Found.TheVariants.{At, Absent}
use Rattle.export_trie.specs.Strings.{is_above, common}

abbrev pub names : List ExportAddress → List (List ℕ)
names exports = map (λ export. export.name) exports

-- the export of a name
abbrev pub export_at : List ExportAddress → List ℕ → Option ExportAddress
export_at exports name = find (λ export. bytes_eq export.name name) exports

-- what a look-up of a name is to find
abbrev pub answer : List ExportAddress → List ℕ → Found
answer exports name = option_map_or (λ export. At export.flags export.address) (export_at exports name) Absent

-- ---- the nodes, each of them the string that the edges from the root to it spell

-- A node stands where names part or end: at the empty string, and at what two names, or one and itself, have in common.
abbrev pub IsNode : List (List ℕ) → List ℕ → Type 0
IsNode strings node = (node ≡ []) ⊎ ((a b : List ℕ) × Contains strings a × Contains strings b × (node ≡ common a b))

-- the nodes of names, in byte order: each stands before those below it, and those below by their first byte
pub record AreNodes (strings nodes : List (List ℕ)) : Type 0 where
  pub rising : IsStrictlySortedBy (slice_cmp nat_cmp) nodes
  pub only : (node : List ℕ) → Contains nodes node → IsNode strings node
  pub all : (node : List ℕ) → IsNode strings node → Contains nodes node

-- the nodes below a node with no other between
abbrev pub is_child : List (List ℕ) → List ℕ → List ℕ → Bool
is_child nodes node below = is_above node below && not (list_any (λ other. is_above node other && is_above other below) nodes)

unfoldable pub children : List (List ℕ) → List ℕ → List (List ℕ)
children nodes node = filter (is_child nodes node) nodes

-- ---- the bytes, where each node has a place

-- an export's data, and none
abbrev pub data_of : Option ExportAddress → List ℕ
data_of None = []
data_of (Some export) = uleb export.flags ++ uleb export.address

-- the edge to a child, a NUL, and the child's place
unfoldable pub child_bytes : (List ℕ → ℕ) → List ℕ → List ℕ → List ℕ
child_bytes place node child = drop (length node) child ++ 0 ∷ uleb (place child)

-- the size of the data, the data, the count of children, and the children
unfoldable pub node_bytes : List ExportAddress → List (List ℕ) → (List ℕ → ℕ) → List ℕ → List ℕ
node_bytes exports nodes place node =
    let data' = data_of (export_at exports node) in
    uleb (length data') ++ data' ++ length (children nodes node) ∷ flat_map (child_bytes place node) (children nodes node)

-- the places of things of these sizes, one behind the other
abbrev pub starts : ℕ → List ℕ → List ℕ
starts at [] = []
starts at (size ∷ sizes) = at ∷ starts (at + size) sizes

-- the places agree with the sizes that the nodes have with them
abbrev pub Agrees : List ExportAddress → List (List ℕ) → (List ℕ → ℕ) → Type 0
Agrees exports nodes place = map place nodes ≡ starts 0 (map (λ node. length (node_bytes exports nodes place node)) nodes)

-- the bytes, with zeros up to a multiple of eight
abbrev pub padded : List ℕ → List ℕ
padded bytes = bytes ++ replicate ((8 - length bytes % 8) % 8) 0

-- the bytes are the trie of the exports: its nodes at the least places that agree with their sizes, and then zeros
pub record IsTrie (exports : List ExportAddress) (bytes : List ℕ) : Type 0 where
  pub nodes : List (List ℕ)
  pub all : AreNodes (names exports) nodes
  pub place : List ℕ → ℕ
  pub agree : Agrees exports nodes place
  pub least : (other : List ℕ → ℕ) → Agrees exports nodes other → (node : List ℕ) → Contains nodes node → place node ≤ other node
  pub spelled : bytes ≡ padded (flat_map (node_bytes exports nodes place) nodes)
