-- The map of an image (ld(1): -map), in which each atom has a line: where it stands, how many bytes it has, which file it
-- is from and what it is called.
use Rattle.std.specs.Prelude.{ℕ, ◌+◌, ◌/◌, ◌%◌, ◌^◌, ◌≡◌, ◌==◌, nat_lt, Bool, false, List, [], ◌∷◌, ◌++◌, map, codes, Option, None, IsPermutation, if◌then◌else◌}
use Rattle.std.specs.List.{filter_map, find, flat_map}
use Rattle.std.specs.List.Sorted.{IsSorted}
use Rattle.std.specs.Option.{option_and_then, option_map, option_map_or}
use Rattle.std.specs.Ordering.{is_eq, nat_cmp, ordering_then}
use Rattle.std.specs.declared.cmp.Ordering.{Ordering}
use Rattle.mo_types.specs.Keys.{compare_keys}
use Rattle.mo_types.specs.Rows.{when}
use Rattle.mo_types.specs.declared.atom.Atom.{Atom}
use Rattle.mo_types.specs.declared.key.AtomKey.{AtomKey}
use Rattle.mo_types.specs.declared.loaded.LoadedFile.{LoadedFile}
use Rattle.sect_place.specs.Addresses.{address_in}
use Rattle.sect_place.specs.declared.layout.Placed.{Placed}
use Rattle.symbol_winners.specs.Winners.{is_own}
use Rattle.sym_out.specs.Files.{FileSymbol, label_of, stands, symbols_of}

-- ---- what an atom is called

-- the atom that a symbol names: that at whose start it stands, unless an assembler or a compiler gave its name for its own use
unfoldable pub named_by : FileSymbol → Option AtomKey
named_by s = if is_own s.symbol.name then None else option_and_then (λ place. when (place.offset == 0) place.atom) (stands s)

abbrev pub is_name_of : AtomKey → FileSymbol → Bool
is_name_of key s = option_map_or (λ atom. is_eq (compare_keys atom key)) (named_by s) false

-- the first name of an atom among symbols
unfoldable pub first_name : List FileSymbol → AtomKey → Option (List ℕ)
first_name symbols key = option_map (λ s. s.symbol.name) (find (is_name_of key) symbols)

-- the name of an atom, or a hyphen where it has none
abbrev pub or_hyphen : Option (List ℕ) → List ℕ
or_hyphen name = option_map_or (λ n. n) name (codes "-")

-- ---- lines

-- a digit in hexadecimal, in lower case
abbrev pub hex_digit : ℕ → ℕ
hex_digit digit = if nat_lt digit 10 then 48 + digit else 87 + digit

-- the digits whose lowest bits stand at some places of a number
abbrev pub hex_digits : List ℕ → ℕ → List ℕ
hex_digits places number = map (λ place. hex_digit (number / 2 ^ place % 16)) places

abbrev pub lower_places : List ℕ
lower_places = 28 ∷ 24 ∷ 20 ∷ 16 ∷ 12 ∷ 8 ∷ 4 ∷ 0 ∷ []

abbrev pub upper_places : List ℕ
upper_places = 60 ∷ 56 ∷ 52 ∷ 48 ∷ 44 ∷ 40 ∷ 36 ∷ 32 ∷ []

-- an atom of the image, with its address and its name
pub record MapRow : Type 0 where
  pub atom : Atom
  pub address : ℕ
  pub name : Option (List ℕ)

-- the address in 16 digits, the size in 8, the file and the name, with spaces between and LF at the end
unfoldable pub line_of : List LoadedFile → MapRow → List ℕ
line_of files row =
    hex_digits upper_places row.address ++ hex_digits lower_places row.address ++ 32 ∷ []
    ++ hex_digits lower_places row.atom.size ++ 32 ∷ []
    ++ label_of files row.atom.key.file ++ 32 ∷ []
    ++ or_hyphen row.name ++ 10 ∷ []

-- ---- the map

-- by address, and then by key
abbrev pub compare_rows : MapRow → MapRow → Ordering
compare_rows a b = ordering_then (nat_cmp a.address b.address) (compare_keys a.atom.key b.atom.key)

-- an atom that is placed
unfoldable pub row_of : List Placed → List FileSymbol → Atom → Option MapRow
row_of placed symbols atom =
    option_map (λ address. record { atom = atom; address = address; name = first_name symbols atom.key }) (address_in placed atom.key)

abbrev pub rows_of : List Placed → List FileSymbol → List Atom → List MapRow
rows_of placed symbols atoms = filter_map (row_of placed symbols) atoms

-- the lines of the atoms that are placed, in order
pub record IsMap (placed : List Placed) (atoms : List Atom) (files : List LoadedFile) (bytes : List ℕ) : Type 0 where
  pub rows : List MapRow
  pub same : IsPermutation (rows_of placed (symbols_of files) atoms) rows
  pub sorted : IsSorted compare_rows rows
  pub lines : bytes ≡ flat_map (line_of files) rows
