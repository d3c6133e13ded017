-- What is read of an item, and of the scalars of a list, one by one.
use Rattle.std.specs.Prelude.{ℕ, Bool, false, List, [], if◌then◌else◌}
use Rattle.std.specs.Option.{option_to_list}
use Rattle.tbd_yaml.specs.Tree.{Tree, scalar, list, map}
use Rattle.tbd_doc.specs.declared.names.NameKind.{NameKind}
use Rattle.tbd_doc.specs.declared.names.NameKind.TheVariants.{Library, Exported, Weak}
use Rattle.tbd_doc.specs.Nodes.{KeyedNode, text_of}
use Rattle.tbd_doc.specs.Exports.{counts, library_names, exported_names, weak_names}

-- a scalar whose text passes a test
abbrev pub text_passes : (List ℕ → Bool) → Tree → Bool
text_passes test (scalar text) = test text
text_passes test (list items) = false
text_passes test (map pairs) = false

-- the text of a scalar, and of other nodes nothing
abbrev pub text_list : Tree → List (List ℕ)
text_list node = option_to_list (text_of node)

-- the names of a kind that an item gives
abbrev pub names_of : NameKind → List KeyedNode → List (List ℕ)
names_of Library fields = library_names fields
names_of Exported fields = exported_names fields
names_of Weak fields = weak_names fields

-- the names that an item gives where it counts for a target
abbrev pub counted_names : NameKind → List ℕ → List KeyedNode → List (List ℕ)
counted_names kind target fields = if counts target fields then names_of kind fields else []
