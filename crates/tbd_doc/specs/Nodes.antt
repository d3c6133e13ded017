-- The nodes of a document's tree: the items of lists, and the values under the keys of maps.
use Rattle.std.specs.Prelude.{ℕ, List, [], ◌∷◌, Option, Some, None}
use Rattle.std.specs.List.{find, filter_map}
use Rattle.std.specs.Option.{option_and_then, option_map}
use Rattle.std.specs.Str.{bytes_eq}
use Rattle.yaml_text.specs.declared.file.YamlEvent.{YamlEvent}
use Rattle.yaml_text.specs.declared.file.YamlEvent.TheVariants as event
use Rattle.tbd_yaml.specs.Tree.{Tree, scalar, list, map, Trees, no_trees, tree, Pairs, no_pairs, pair}

-- a key of a map with its value
pub record KeyedNode : Type 0 where
  pub key : List ℕ
  pub value : Tree

abbrev pub items_in : Trees → List Tree
items_in no_trees = []
items_in (tree item items) = item ∷ items_in items

abbrev pub fields_in : Pairs → List KeyedNode
fields_in no_pairs = []
fields_in (pair key value pairs) = record { key = key; value = value } ∷ fields_in pairs

-- the items of a list; other nodes have none
abbrev pub items_of : Tree → List Tree
items_of (list items) = items_in items
items_of (map pairs) = []
items_of (scalar text) = []

-- the fields of a map; other nodes have none
abbrev pub fields_of : Tree → List KeyedNode
fields_of (map pairs) = fields_in pairs
fields_of (list items) = []
fields_of (scalar text) = []

-- the value under a key
unfoldable pub value_of : List ℕ → List KeyedNode → Option Tree
value_of key fields = option_map (λ field. field.value) (find (λ field. bytes_eq field.key key) fields)

-- the text of a scalar
abbrev pub text_of : Tree → Option (List ℕ)
text_of (scalar text) = Some text
text_of (list items) = None
text_of (map pairs) = None

-- the text under a key, where it is a scalar
unfoldable pub text_under : List ℕ → List KeyedNode → Option (List ℕ)
text_under key fields = option_and_then text_of (value_of key fields)

-- the scalars among the items of a list
abbrev pub texts_of : Tree → List (List ℕ)
texts_of node = filter_map text_of (items_of node)

abbrev pub texts_under : Option Tree → List (List ℕ)
texts_under None = []
texts_under (Some node) = texts_of node

-- The tree whose walk some events are. Events are put together from the last one on: at each place stand what is left
-- of the innermost open block, and of the blocks around it.
pub record Opened : Type 0 where
  pub items : Trees
  pub pairs : Pairs

abbrev pub with_node : Tree → List Opened → List Opened
with_node node [] = record { items = tree node no_trees; pairs = no_pairs } ∷ []
with_node node (block ∷ blocks) = record { items = tree node block.items; pairs = block.pairs } ∷ blocks

abbrev pub keyed : List ℕ → Trees → Pairs → List Opened → List Opened
keyed key no_trees pairs blocks = blocks
keyed key (tree node items) pairs blocks = record { items = items; pairs = pair key node pairs } ∷ blocks

abbrev pub with_event : YamlEvent → List Opened → List Opened
with_event (event.Scalar text) blocks = with_node (scalar text) blocks
with_event event.End blocks = record { items = no_trees; pairs = no_pairs } ∷ blocks
with_event (event.Key key) [] = []
with_event (event.Key key) (block ∷ blocks) = keyed key block.items block.pairs blocks
with_event event.BeginList [] = []
with_event event.BeginList (block ∷ blocks) = with_node (list block.items) blocks
with_event event.BeginMap [] = []
with_event event.BeginMap (block ∷ blocks) = with_node (map block.pairs) blocks

abbrev pub blocks_of : List YamlEvent → List Opened
blocks_of [] = []
blocks_of (step ∷ steps) = with_event step (blocks_of steps)

abbrev pub first_item : Trees → Tree
first_item no_trees = scalar []
first_item (tree node items) = node

abbrev pub first_node : List Opened → Tree
first_node [] = scalar []
first_node (block ∷ blocks) = first_item block.items

unfoldable pub tree_of : List YamlEvent → Tree
tree_of events = first_node (blocks_of events)
