-- What is written of a symbol table.
use Rattle.std.specs.Prelude.{ℕ, ◌≡◌, List, ◌++◌, length}
use Rattle.std.specs.List.{flat_map}
use Rattle.sym_out.specs.Entries.{Entry, nlists, string_of}

-- entries are put at the end of some symbols, and their strings at the end of some strings
pub record Puts (entries : List Entry) (symbols strings new_symbols new_strings : List ℕ) : Type 0 where
  pub symbol_bytes : new_symbols ≡ symbols ++ nlists (length strings) entries
  pub string_bytes : new_strings ≡ strings ++ flat_map string_of entries
