-- The sizes of the nodes that the code holds, the places that agree with them, and their bytes.
use Rattle.std.specs.Prelude.{ℕ, ◌≡◌, ◌+◌, ◌-◌, ◌≤◌, ◌<◌, ◌==◌, if◌then◌else◌, List, [], ◌∷◌, ◌++◌, ◌^◌, length, drop, Option, Some, None, IfSome, slice_get, slice_index, slice_index_or}
use Rattle.std.specs.List.{AllByRecursion, flat_map}
use Rattle.std.specs.Option.{option_and_then}
use Rattle.mo_bytes.specs.Uleb.{uleb}
use Rattle.export_trie.specs.declared.export.ExportAddress.{ExportAddress}
use Rattle.export_trie.specs.declared.nodes.Node.{Node}
use Rattle.export_trie.specs.Trie.{data_of, names, starts}
use Rattle.export_trie.specs.Held.{node_at, text}

-- the export whose name is the node's string
abbrev pub export_held : List ExportAddress → Node → Option ExportAddress
export_held exports node = option_and_then (λ export. if length export.name == node.len then Some export else None) (slice_get exports node.name)

-- the bytes of a child: its edge, which is what its string has more than the `above` bytes of the node's, a NUL, and its place
unfoldable pub child_len : List Node → List ℕ → ℕ → ℕ → ℕ
child_len nodes places above child = (slice_index_or nodes child (node_at 0 0)).len - above + (1 + length (uleb (slice_index places child)))

unfoldable pub children_len : List Node → List ℕ → ℕ → List ℕ → ℕ
children_len nodes places above [] = 0
children_len nodes places above (child ∷ row) = child_len nodes places above child + children_len nodes places above row

-- the bytes of a node with these children
unfoldable pub node_len : List ExportAddress → List Node → List ℕ → Node → List ℕ → ℕ
node_len exports nodes places node row =
    let info = length (data_of (export_held exports node)) in
    children_len nodes places node.len row + (length (uleb info) + info + 1)

-- the bytes of some nodes, each with its children
unfoldable pub node_lens : List ExportAddress → List Node → List ℕ → List Node → List (List ℕ) → List ℕ
node_lens exports nodes places [] rows = []
node_lens exports nodes places (node ∷ rest) [] = []
node_lens exports nodes places (node ∷ rest) (row ∷ rows) = node_len exports nodes places node row ∷ node_lens exports nodes places rest rows

-- the places that go with the sizes that the nodes have where they have other places
abbrev pub next_starts : List ExportAddress → List Node → List (List ℕ) → List ℕ → List ℕ
next_starts exports nodes rows places = starts 0 (node_lens exports nodes places nodes rows)

-- a child of a node of `above` bytes has a place and a longer string
abbrev pub IsBelow : List Node → ℕ → ℕ → Type 0
IsBelow nodes above child = (child < length nodes) × (above ≤ (slice_index_or nodes child (node_at 0 0)).len)

-- so has each child of each node
abbrev pub AreBelow : List Node → List (List ℕ) → Type 0
AreBelow nodes rows =
    (place : ℕ) → place < length nodes → AllByRecursion (IsBelow nodes (slice_index_or nodes place (node_at 0 0)).len) (slice_index_or rows place [])

-- the least places that agree with the sizes
pub record AreLeast (exports : List ExportAddress) (nodes : List Node) (rows : List (List ℕ)) (places : List ℕ) : Type 0 where
  pub long : length places ≡ length nodes
  pub agree : places ≡ next_starts exports nodes rows places
  pub least : (other : List ℕ) → length other ≡ length nodes → other ≡ next_starts exports nodes rows other → (place : ℕ) → slice_index places place ≤ slice_index other place

-- ---- bytes

unfoldable pub held_child : List (List ℕ) → List Node → List ℕ → ℕ → ℕ → List ℕ
held_child strings nodes places above child =
    drop above (text strings (slice_index_or nodes child (node_at 0 0))) ++ 0 ∷ uleb (slice_index places child)

unfoldable pub row_bytes : List (List ℕ) → List Node → List ℕ → ℕ → List ℕ → List ℕ
row_bytes strings nodes places above row = flat_map (held_child strings nodes places above) row

abbrev pub sized : List ℕ → List ℕ
sized info = uleb (length info) ++ info

unfoldable pub held_node : List ExportAddress → List Node → List ℕ → Node → List ℕ → List ℕ
held_node exports nodes places node row =
    sized (data_of (export_held exports node)) ++ length row ∷ row_bytes (names exports) nodes places node.len row

unfoldable pub held_bytes : List ExportAddress → List Node → List ℕ → List Node → List (List ℕ) → List ℕ
held_bytes exports nodes places [] rows = []
held_bytes exports nodes places (node ∷ rest) [] = []
held_bytes exports nodes places (node ∷ rest) (row ∷ rows) =
    held_node exports nodes places node row ++ held_bytes exports nodes places rest rows

-- an export's numbers are below 2^64
abbrev pub IsSmall : Option ExportAddress → Type 0
IsSmall export = IfSome export (λ e. (e.flags < 2 ^ 64) × (e.address < 2 ^ 64))
