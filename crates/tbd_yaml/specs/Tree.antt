-- The tree of a document, and the steps of a walk through it (YAML 1.2, 3.1: a serialization's events).
use Rattle.std.specs.Prelude.{ℕ, ◌≡◌, List, [], ◌∷◌, ◌++◌}
use Rattle.yaml_text.specs.declared.file.YamlDoc.{YamlDoc}
use Rattle.yaml_text.specs.declared.file.YamlEvent.{YamlEvent}
use Rattle.yaml_text.specs.declared.file.YamlEvent.TheVariants as event

-- a scalar, a list of trees, or a map from keys to trees
mutual
  pub data Tree : Type 0 where
    scalar : List ℕ → Tree
    list : Trees → Tree
    map : Pairs → Tree

  pub data Trees : Type 0 where
    no_trees : Trees
    tree : Tree → Trees → Trees

  pub data Pairs : Type 0 where
    no_pairs : Pairs
    pair : List ℕ → Tree → Pairs → Pairs

-- the steps of a walk through a tree, and through what is left of a list or of a map
abbrev mutual
  pub events_of : Tree → List YamlEvent
  events_of (scalar text) = event.Scalar text ∷ []
  events_of (list trees) = event.BeginList ∷ tree_events trees
  events_of (map pairs) = event.BeginMap ∷ pair_events pairs

  pub tree_events : Trees → List YamlEvent
  tree_events no_trees = event.End ∷ []
  tree_events (tree first trees) = events_of first ++ tree_events trees

  pub pair_events : Pairs → List YamlEvent
  pair_events no_pairs = event.End ∷ []
  pair_events (pair key value pairs) = event.Key key ∷ (events_of value ++ pair_events pairs)

-- some events are the walk through a tree
abbrev pub IsWalk : List YamlEvent → Type 0
IsWalk events = (tree : Tree) × (events ≡ events_of tree)

abbrev pub HasTree : YamlDoc → Type 0
HasTree doc = IsWalk doc.events
