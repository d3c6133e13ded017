-- The entries of a symbol table, and the strings that have their names (`nlist.h`: nlist_64; `loader.h`: symtab_command).
use Rattle.std.specs.Prelude.{ℕ, ◌+◌, ◌-◌, ◌%◌, ◌^◌, List, [], ◌∷◌, ◌++◌, length, position, replicate, Option}
use Rattle.std.specs.List.{flat_map}
use Rattle.std.specs.Str.{bytes_eq}
use Rattle.mo_format.specs.Symbol.{nlist_bytes}
use Rattle.mo_format.specs.declared.symbol.Nlist.{Nlist}

-- a symbol of an image: what its nlist_64 has, with its name in place of where that stands among the strings
pub record Entry : Type 0 where
  pub name : List ℕ
  pub n_type : ℕ
  pub n_sect : ℕ
  pub n_desc : ℕ
  pub n_value : ℕ

-- what a field of 32 bits holds of a number
abbrev pub in_32 : ℕ → ℕ
in_32 n = n % 2 ^ 32

-- with the place of its name among the strings
abbrev pub nlist_of : ℕ → Entry → Nlist
nlist_of at entry = record {
  n_strx = in_32 at;
  n_type = entry.n_type;
  n_sect = entry.n_sect;
  n_desc = entry.n_desc;
  n_value = entry.n_value;
}

-- a name, with the NUL that ends it
abbrev pub string_of : Entry → List ℕ
string_of entry = entry.name ++ 0 ∷ []

-- the entries, whose strings stand one behind the other from a place on
unfoldable pub nlists : ℕ → List Entry → List ℕ
nlists at [] = []
nlists at (entry ∷ entries) = nlist_bytes (nlist_of at entry) ++ nlists (at + length (string_of entry)) entries

-- the symbols of a table: their strings stand behind one NUL
unfoldable pub symbols_bytes : List Entry → List ℕ
symbols_bytes entries = nlists 1 entries

-- zeros up to a multiple of eight bytes
abbrev pub padded : List ℕ → List ℕ
padded bytes = bytes ++ replicate ((8 - length bytes % 8) % 8) 0

-- their strings: one NUL, and then the names
unfoldable pub strings_bytes : List Entry → List ℕ
strings_bytes entries = padded (0 ∷ flat_map string_of entries)

-- the place of a name among entries
abbrev pub place_named : List Entry → List ℕ → Option ℕ
place_named entries name = position (λ entry. bytes_eq entry.name name) entries
