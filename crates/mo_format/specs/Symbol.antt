-- Symbols and where they stand.
use Rattle.std.specs.Prelude.{ℕ, ◌+◌, List, [], ◌∷◌}
use Rattle.mo_bytes.specs.Number.{number}
use Rattle.mo_format.specs.Fields.{Field, Number, spelled}
use Rattle.mo_format.specs.declared.symbol.SymtabCommand.{SymtabCommand}
use Rattle.mo_format.specs.declared.symbol.Nlist.{Nlist}

-- loader.h: symtab_command, 24 bytes
abbrev pub symtab_command_at : List ℕ → ℕ → SymtabCommand
symtab_command_at bytes at = record {
  cmd = number 4 bytes at;
  cmdsize = number 4 bytes (at + 4);
  symoff = number 4 bytes (at + 8);
  nsyms = number 4 bytes (at + 12);
  stroff = number 4 bytes (at + 16);
  strsize = number 4 bytes (at + 20);
}

abbrev pub symtab_command_fields : SymtabCommand → List Field
symtab_command_fields s =
    Number 4 s.cmd
    ∷ Number 4 s.cmdsize
    ∷ Number 4 s.symoff
    ∷ Number 4 s.nsyms
    ∷ Number 4 s.stroff
    ∷ Number 4 s.strsize
    ∷ []

abbrev pub symtab_command_bytes : SymtabCommand → List ℕ
symtab_command_bytes s = spelled (symtab_command_fields s)

-- nlist.h: nlist_64, 16 bytes
abbrev pub nlist_at : List ℕ → ℕ → Nlist
nlist_at bytes at = record {
  n_strx = number 4 bytes at;
  n_type = number 1 bytes (at + 4);
  n_sect = number 1 bytes (at + 5);
  n_desc = number 2 bytes (at + 6);
  n_value = number 8 bytes (at + 8);
}

abbrev pub nlist_fields : Nlist → List Field
nlist_fields s =
    Number 4 s.n_strx
    ∷ Number 1 s.n_type
    ∷ Number 1 s.n_sect
    ∷ Number 2 s.n_desc
    ∷ Number 8 s.n_value
    ∷ []

abbrev pub nlist_bytes : Nlist → List ℕ
nlist_bytes s = spelled (nlist_fields s)
