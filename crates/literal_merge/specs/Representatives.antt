-- Literals (`loader.h`: S_CSTRING_LITERALS, S_4BYTE_LITERALS, S_8BYTE_LITERALS, S_16BYTE_LITERALS), and which of those
-- that are the same stands for all of them.
use Rattle.std.specs.Prelude.{◌≡◌, ℕ, ◌==◌, ◌&&◌, ◌||◌, Bool, true, false, max, Contains, List, [], ◌∷◌, map, filter, fold, Option, is_some}
use Rattle.std.specs.List.{filter_map, flat_map}
use Rattle.std.specs.Option.{option_and_then}
use Rattle.std.specs.Ordering.{is_gt}
use Rattle.std.specs.Str.{bytes_eq}
use Rattle.mo_types.specs.declared.atom.Atom.{Atom}
use Rattle.mo_types.specs.declared.key.AtomKey.{AtomKey}
use Rattle.mo_types.specs.declared.loaded.LoadedFile.{LoadedFile}
use Rattle.mo_types.specs.declared.object.Object.{Object}
use Rattle.mo_types.specs.AtomBytes.{atom_bytes}
use Rattle.mo_types.specs.Keys.{compare_keys}
use Rattle.mo_types.specs.Destination.{Destination, destination}
use Rattle.mo_types.specs.RelocationRules.{section_numbered}
use Rattle.mo_types.specs.Rows.{when}
use Rattle.mo_types.specs.Whole.{is_strings, literal_size}
use Rattle.literal_merge.specs.declared.representative.Representative.{Representative}

-- an atom of a section of literals: a string with its NUL, or a literal of the section's one size
pub record Literal : Type 0 where
  pub key : AtomKey
  pub align : ℕ
  pub destination : Destination
  pub bytes : List ℕ

abbrev pub is_literal : ℕ → Bool
is_literal kind = is_strings kind || is_some (literal_size kind)

-- an atom of an object as a literal, where it is one
unfoldable pub literal_at : Object → Atom → Option Literal
literal_at object atom =
    option_and_then
    (λ section. when (is_literal section.kind) (record { key = atom.key; align = atom.align; destination = destination section; bytes = atom_bytes object atom }))
    (section_numbered object.sections atom.key.section)

-- the literals of a file, in the order of its atoms
unfoldable pub literals_in : LoadedFile → List Literal
literals_in file = filter_map (literal_at file.object) file.atoms

-- those of files, file by file
unfoldable pub literals : List LoadedFile → List Literal
literals files = flat_map literals_in files

-- they have the same bytes and go to one section of the image
unfoldable pub is_same : Literal → Literal → Bool
is_same a b =
    bytes_eq a.bytes b.bytes && bytes_eq a.destination.name b.destination.name
    && bytes_eq a.destination.segment b.destination.segment && a.destination.kind == b.destination.kind

-- the greatest alignment
unfoldable pub greatest_align : List Literal → ℕ
greatest_align literals = fold max 0 (map (λ literal. literal.align) literals)

-- what stands for a literal: the first of those that are the same, with the greatest alignment among them
unfoldable pub representative_among : Literal → List Literal → Representative
representative_among literal [] = record { literal = literal.key; representative = literal.key; align = literal.align }
representative_among literal (first ∷ rest) = record {
  literal = literal.key;
  representative = first.key;
  align = greatest_align (first ∷ rest);
}

unfoldable pub representative_of : List Literal → Literal → Representative
representative_of all literal = representative_among literal (filter (is_same literal) all)

-- what stands for each literal of files, in the order of these
unfoldable pub representatives_of : List LoadedFile → List Representative
representatives_of files = map (representative_of (literals files)) (literals files)

-- a literal's representative has the key of one that is the same, and none of these has a lesser key
pub record IsRepresentative (all : List Literal) (literal : Literal) (key : AtomKey) : Type 0 where
  pub one : Literal
  pub there : Contains all one
  pub same : is_same literal one ≡ true
  pub named : one.key ≡ key
  pub least : (other : Literal) → Contains all other → is_same literal other ≡ true → is_gt (compare_keys key other.key) ≡ false
