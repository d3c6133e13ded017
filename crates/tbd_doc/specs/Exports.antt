-- The names that a document exports (TBD v4), and their order.
use Rattle.std.specs.Prelude.{ℕ, ◌≡◌, ◌++◌, Bool, true, not, List, [], ◌∷◌, map, filter, Contains, codes, nat_eq, Option, Some, None}
use Rattle.std.specs.List.{list_any, starts_with}
use Rattle.std.specs.Str.{bytes_eq}
use Rattle.std.specs.List.Sorted.{IsStrictlySortedBy}
use Rattle.std.specs.Ordering.{nat_cmp, match_ordering, on}
use Rattle.std.specs.Cmp.Lexicographic.{slice_cmp}
use Rattle.tbd_yaml.specs.Tree.{Tree}
use Rattle.tbd_doc.specs.declared.stub.Export.{Export}
use Rattle.tbd_doc.specs.Nodes.{KeyedNode, items_of, fields_of, value_of, texts_under}
use Rattle.tbd_doc.specs.Forms.{has_text}

-- a name that is no directive to the linker (ld(1)'s `$ld$` symbols)
abbrev pub is_symbol : List ℕ → Bool
is_symbol name = not (starts_with nat_eq name (codes "$ld$"))

-- the symbols that a list under a key names
unfoldable pub symbols_under : List ℕ → List KeyedNode → List (List ℕ)
symbols_under key fields = filter is_symbol (texts_under (value_of key fields))

-- the symbols of the classes, types or variables that a list under a key names
unfoldable pub prefixed_under : List ℕ → List ℕ → List KeyedNode → List (List ℕ)
prefixed_under prefix key fields = map (λ name. prefix ++ name) (texts_under (value_of key fields))

-- the install names of the libraries that an item re-exports
unfoldable pub library_names : List KeyedNode → List (List ℕ)
library_names fields = texts_under (value_of (codes "libraries") fields)

-- what an item exports weakly, and all that it exports
unfoldable pub weak_names : List KeyedNode → List (List ℕ)
weak_names fields = symbols_under (codes "weak-symbols") fields

abbrev pub symbol_names : List KeyedNode → List (List ℕ)
symbol_names fields =
    symbols_under (codes "symbols") fields ++ symbols_under (codes "weak-symbols") fields
    ++ symbols_under (codes "thread-local-symbols") fields

abbrev pub class_names : List KeyedNode → List (List ℕ)
class_names fields =
    prefixed_under (codes "_OBJC_CLASS_$_") (codes "objc-classes") fields
    ++ prefixed_under (codes "_OBJC_METACLASS_$_") (codes "objc-classes") fields
    ++ prefixed_under (codes "_OBJC_EHTYPE_$_") (codes "objc-eh-types") fields
    ++ prefixed_under (codes "_OBJC_IVAR_$_") (codes "objc-ivars") fields

unfoldable pub exported_names : List KeyedNode → List (List ℕ)
exported_names fields = symbol_names fields ++ class_names fields

-- the fields of the items under a key that count for a target
abbrev pub counts : List ℕ → List KeyedNode → Bool
counts target fields = has_text (codes "targets") fields target

abbrev pub items_under : Option Tree → List (List KeyedNode)
items_under None = []
items_under (Some node) = map fields_of (items_of node)

unfoldable pub counted : List ℕ → List ℕ → List KeyedNode → List (List KeyedNode)
counted target key fields = filter (counts target) (items_under (value_of key fields))

abbrev pub exporting : List ℕ → List KeyedNode → List (List KeyedNode)
exporting target fields = counted target (codes "exports") fields ++ counted target (codes "reexports") fields

-- a name among names that stand in order, each once
abbrev pub with_name : List ℕ → List (List ℕ) → List (List ℕ)
with_name name [] = name ∷ []
with_name name (other ∷ others) =
    match_ordering (slice_cmp nat_cmp name other) (name ∷ other ∷ others) (other ∷ others) (other ∷ with_name name others)

-- the names in order, each once
abbrev pub in_order : List (List ℕ) → List (List ℕ)
in_order [] = []
in_order (name ∷ names) = with_name name (in_order names)

-- the export of a name, weak where the name is among the weak ones
abbrev pub export_among : List (List ℕ) → List ℕ → Export
export_among weak name = record { name = name; weak = list_any (bytes_eq name) weak }

-- the exports of some names
unfoldable pub exports_of : List (List ℕ) → List (List ℕ) → List Export
exports_of names weak = map (export_among weak) (in_order names)

-- the exports of a library stand in the order of their names, each once
abbrev pub AreInOrder : List Export → Type 0
AreInOrder exports = IsStrictlySortedBy (on (λ export. export.name) (slice_cmp nat_cmp)) exports

-- What the exports of some names are: they stand in order, each name is exported, and each export is of a name, weak
-- just where the name is among the weak ones.
pub record AreExports (names weak : List (List ℕ)) (exports : List Export) : Type 0 where
  pub order : AreInOrder exports
  pub all : (name : List ℕ) → Contains names name → (export : Export) × Contains exports export × (export.name ≡ name)
  pub only : (export : Export) → Contains exports export → Contains names export.name
  pub strong : (export : Export) → Contains exports export → export.weak ≡ true → Contains weak export.name
  pub weakly : (export : Export) → Contains exports export → Contains weak export.name → export.weak ≡ true
