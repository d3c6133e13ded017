-- The keys of a document and of its items, with the forms of their values (TBD v4).
use Rattle.std.specs.Prelude.{ℕ, ◌==◌, ◌&&◌, Bool, true, false, not, is_some, List, codes, Option, Some, None}
use Rattle.std.specs.List.{list_any, list_all}
use Rattle.std.specs.Str.{bytes_eq}
use Rattle.mo_cmd.specs.Numbers.{version_of}
use Rattle.tbd_yaml.specs.Tree.{Tree, scalar, list, map}
use Rattle.tbd_doc.specs.Nodes.{KeyedNode, items_of, fields_of, value_of, text_of, text_under, texts_under}
use Rattle.tbd_doc.specs.declared.forms.ItemKind.{ItemKind}
use Rattle.tbd_doc.specs.declared.forms.ItemKind.TheVariants.{Reexport, Export}

abbrev pub is_list : Tree → Bool
is_list (list items) = true
is_list (map pairs) = false
is_list (scalar text) = false

abbrev pub is_map : Tree → Bool
is_map (map pairs) = true
is_map (list items) = false
is_map (scalar text) = false

abbrev pub is_scalar : Tree → Bool
is_scalar (scalar text) = true
is_scalar (list items) = false
is_scalar (map pairs) = false

abbrev pub has_nul : List ℕ → Bool
has_nul text = list_any (λ byte. byte == 0) text

-- an install name, which has to be there
abbrev pub is_install : Option (List ℕ) → Bool
is_install None = false
is_install (Some text) = not (has_nul text)

-- a version X, X.Y or X.Y.Z, up to 65535.255.255, where it is there
abbrev pub is_version_text : Option (List ℕ) → Bool
is_version_text None = false
is_version_text (Some text) = is_some (version_of text)

abbrev pub is_version : Option Tree → Bool
is_version None = true
is_version (Some node) = is_version_text (text_of node)

-- a list whose items pass a test, where it is there
abbrev pub are_all : (Tree → Bool) → Option Tree → Bool
are_all test None = true
are_all test (Some node) = is_list node && list_all test (items_of node)

-- a list of scalars, where it is there
abbrev pub are_texts : Option Tree → Bool
are_texts value = are_all is_scalar value

abbrev pub are_texts_at : List ℕ → List KeyedNode → Bool
are_texts_at key fields = are_texts (value_of key fields)

-- an item of re-exported libraries, whose install names hold no NUL
unfoldable pub is_reexport : List KeyedNode → Bool
is_reexport fields =
    are_texts_at (codes "targets") fields && are_texts_at (codes "libraries") fields
    && not (list_any has_nul (texts_under (value_of (codes "libraries") fields)))

-- an item of exports
unfoldable pub have_symbols : List KeyedNode → Bool
have_symbols fields =
    are_texts_at (codes "symbols") fields && are_texts_at (codes "weak-symbols") fields
    && are_texts_at (codes "thread-local-symbols") fields

unfoldable pub have_classes : List KeyedNode → Bool
have_classes fields =
    are_texts_at (codes "objc-classes") fields && are_texts_at (codes "objc-eh-types") fields
    && are_texts_at (codes "objc-ivars") fields

unfoldable pub is_export : List KeyedNode → Bool
is_export fields = are_texts_at (codes "targets") fields && have_symbols fields && have_classes fields

abbrev pub has_form : ItemKind → List KeyedNode → Bool
has_form Reexport fields = is_reexport fields
has_form Export fields = is_export fields

abbrev pub is_item : ItemKind → Tree → Bool
is_item kind node = is_map node && has_form kind (fields_of node)

-- a list of items of a kind, where it is there
abbrev pub are_items : ItemKind → Option Tree → Bool
are_items kind value = are_all (is_item kind) value

abbrev pub have_versions : List KeyedNode → Bool
have_versions fields =
    is_version (value_of (codes "current-version") fields) && is_version (value_of (codes "compatibility-version") fields)

abbrev pub have_items : List KeyedNode → Bool
have_items fields =
    are_items Reexport (value_of (codes "reexported-libraries") fields)
    && are_items Export (value_of (codes "exports") fields) && are_items Export (value_of (codes "reexports") fields)

-- a document's keys have values of their forms
unfoldable pub is_well_formed : List KeyedNode → Bool
is_well_formed fields =
    are_texts_at (codes "targets") fields && is_install (text_under (codes "install-name") fields) && have_versions fields
    && have_items fields

-- a list under a key has an item
unfoldable pub has_text : List ℕ → List KeyedNode → List ℕ → Bool
has_text key fields text = list_any (bytes_eq text) (texts_under (value_of key fields))
