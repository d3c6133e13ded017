-- The nodes of a walk by the places of their first events.
use Rattle.std.specs.Prelude.{ℕ, ◌+◌, ◌-◌, ◌≡◌, ◌==◌, ◌&&◌, Bool, true, false, List, [], ◌∷◌, ◌++◌, drop, if◌then◌else◌}
use Rattle.yaml_text.specs.declared.file.YamlEvent.{YamlEvent}
use Rattle.yaml_text.specs.declared.file.YamlEvent.TheVariants as event
use Rattle.tbd_yaml.specs.Tree.{Tree, scalar, list, map as map_of, events_of}
use Rattle.tbd_doc.specs.Nodes.{KeyedNode, tree_of}

-- the tree at a place
abbrev pub tree_at : List YamlEvent → ℕ → Tree
tree_at events at = tree_of (drop at events)

-- a node begins at a place
pub record IsNode (events : List YamlEvent) (at : ℕ) : Type 0 where
  pub more : List YamlEvent
  pub is : drop at events ≡ events_of (tree_at events at) ++ more

abbrev pub key_of : YamlEvent → List ℕ
key_of (event.Key key) = key
key_of (event.Scalar text) = []
key_of event.BeginList = []
key_of event.BeginMap = []
key_of event.End = []

abbrev pub key_in : List YamlEvent → List ℕ
key_in [] = []
key_in (step ∷ steps) = key_of step

-- the field whose value begins at a place, right behind its key
abbrev pub field_at : List YamlEvent → ℕ → KeyedNode
field_at events at = record { key = key_in (drop (at - 1) events); value = tree_at events at }

abbrev pub is_end : YamlEvent → Bool
is_end event.End = true
is_end (event.Scalar text) = false
is_end (event.Key key) = false
is_end event.BeginList = false
is_end event.BeginMap = false

abbrev pub is_node : YamlEvent → Bool
is_node event.End = false
is_node (event.Key key) = false
is_node (event.Scalar text) = true
is_node event.BeginList = true
is_node event.BeginMap = true

-- how many blocks are open behind an event
abbrev pub depth_after : ℕ → YamlEvent → ℕ
depth_after depth event.End = depth - 1
depth_after depth (event.Key key) = depth
depth_after depth (event.Scalar text) = depth
depth_after depth event.BeginList = depth + 1
depth_after depth event.BeginMap = depth + 1

-- the places of the nodes of a block, from a place on at a depth below it
abbrev pub nodes_from : ℕ → ℕ → List YamlEvent → List ℕ
nodes_from depth at [] = []
nodes_from depth at (step ∷ steps) =
    if depth == 0 && is_end step then []
    else if depth == 0 && is_node step then at ∷ nodes_from (depth_after depth step) (at + 1) steps
    else nodes_from (depth_after depth step) (at + 1) steps

-- what a node begins with
abbrev pub first_event : Tree → YamlEvent
first_event (scalar text) = event.Scalar text
first_event (list items) = event.BeginList
first_event (map_of pairs) = event.BeginMap
