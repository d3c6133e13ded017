-- The nodes of an export trie (`loader.h`: LC_DYLD_EXPORTS_TRIE). A node is the uleb128 size of its data, the data, a
-- byte that counts its edges, and the edges: each the bytes of a label, a NUL, and the uleb128 place of a node.
use Rattle.std.specs.Prelude.{ℕ, zero, suc, ◌+◌, ◌==◌, ◌||◌, Bool, not, bit_and, List, [], ◌∷◌, take, drop, slice_get, unwrap_or, Option, Some, None, if◌then◌else◌}
use Rattle.std.specs.Option.{option_map, option_and_then, is_some}
use Rattle.mo_bytes.specs.Uleb.{uleb_at}
use Rattle.mo_strings.specs.Strings.{first_nul}
use Rattle.dylib_read.specs.declared.trie_node.Edge.{Edge}
use Rattle.dylib_read.specs.declared.trie_node.EdgeRead.{EdgeRead}
use Rattle.dylib_read.specs.declared.trie_node.Node.{Node}
use Rattle.dylib_read.specs.declared.trie_node.TheConstants.{EXPORT_SYMBOL_FLAGS_REEXPORT, EXPORT_SYMBOL_FLAGS_WEAK_DEFINITION}

-- the bytes that an edge adds to a name
abbrev pub label : List ℕ → Edge → List ℕ
label trie edge = take edge.size (drop edge.at trie)

-- the edge that begins at a place, and the place behind it
unfoldable pub edge_at : List ℕ → ℕ → Option EdgeRead
edge_at trie at =
    option_and_then
    (λ size. option_map (λ child. record { edge = record { at = at; size = size; child = child.0 }; next = child.1 }) (uleb_at trie (at + size + 1)))
    (first_nul (drop at trie))

-- so many edges, of which each follows the one before, the first at a place
abbrev pub edges_at : List ℕ → ℕ → ℕ → Option (List Edge)
edges_at trie zero at = Some []
edges_at trie (suc count) at =
    option_and_then (λ read. option_map (λ edges. read.edge ∷ edges) (edges_at trie count read.next)) (edge_at trie at)

abbrev pub is_reexport : ℕ → Bool
is_reexport flags = not (bit_and flags EXPORT_SYMBOL_FLAGS_REEXPORT == 0)

abbrev pub is_weak : ℕ → Bool
is_weak flags = not (bit_and flags EXPORT_SYMBOL_FLAGS_WEAK_DEFINITION == 0)

-- The flags in the data at a place, None where the data isn't any. Behind the flags of a re-export what there is is
-- passed over by its size; behind those of another export a uleb128 number stands, the address.
unfoldable pub flags_at : List ℕ → ℕ → Option ℕ
flags_at trie at =
    option_and_then (λ flags. if is_reexport flags.0 || is_some (uleb_at trie flags.1) then Some flags.0 else None) (uleb_at trie at)

-- the flags of an export in a node's data: None where there is no data, and no answer where it isn't any
abbrev pub data_at : List ℕ → ℕ → ℕ → Option (Option ℕ)
data_at trie size at = if size == 0 then Some None else option_map (λ flags. Some flags) (flags_at trie at)

-- the edges of a node, with their count before them, at a place
unfoldable pub children_at : List ℕ → ℕ → Option (List Edge)
children_at trie at = option_and_then (λ count. edges_at trie count (at + 1)) (slice_get trie at)

-- the node at a place, where one stands there
unfoldable pub node_at : List ℕ → ℕ → Option Node
node_at trie at =
    option_and_then
    (λ size. option_and_then
    (λ flags. option_map (λ edges. record { flags = flags; edges = edges }) (children_at trie (size.1 + size.0)))
    (data_at trie size.0 size.1))
    (uleb_at trie at)

-- the flags in the data of the node at a place
unfoldable pub end_at : List ℕ → ℕ → Option ℕ
end_at trie at = option_and_then (λ size. unwrap_or (data_at trie size.0 size.1) None) (uleb_at trie at)
