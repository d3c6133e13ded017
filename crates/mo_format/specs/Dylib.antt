-- Libraries and where they are looked for.
use Rattle.std.specs.Prelude.{ℕ, ◌+◌, List, [], ◌∷◌}
use Rattle.mo_bytes.specs.Number.{number}
use Rattle.mo_format.specs.Fields.{Field, Number, spelled}
use Rattle.mo_format.specs.declared.dylib.DylibCommand.{DylibCommand}
use Rattle.mo_format.specs.declared.dylib.RpathCommand.{RpathCommand}

-- loader.h: dylib_command, 24 bytes
abbrev pub dylib_command_at : List ℕ → ℕ → DylibCommand
dylib_command_at bytes at = record {
  cmd = number 4 bytes at;
  cmdsize = number 4 bytes (at + 4);
  name = number 4 bytes (at + 8);
  timestamp = number 4 bytes (at + 12);
  current_version = number 4 bytes (at + 16);
  compatibility_version = number 4 bytes (at + 20);
}

abbrev pub dylib_command_fields : DylibCommand → List Field
dylib_command_fields s =
    Number 4 s.cmd
    ∷ Number 4 s.cmdsize
    ∷ Number 4 s.name
    ∷ Number 4 s.timestamp
    ∷ Number 4 s.current_version
    ∷ Number 4 s.compatibility_version
    ∷ []

abbrev pub dylib_command_bytes : DylibCommand → List ℕ
dylib_command_bytes s = spelled (dylib_command_fields s)

-- loader.h: rpath_command, 12 bytes
abbrev pub rpath_command_at : List ℕ → ℕ → RpathCommand
rpath_command_at bytes at = record {
  cmd = number 4 bytes at;
  cmdsize = number 4 bytes (at + 4);
  path = number 4 bytes (at + 8);
}

abbrev pub rpath_command_fields : RpathCommand → List Field
rpath_command_fields s =
    Number 4 s.cmd
    ∷ Number 4 s.cmdsize
    ∷ Number 4 s.path
    ∷ []

abbrev pub rpath_command_bytes : RpathCommand → List ℕ
rpath_command_bytes s = spelled (rpath_command_fields s)
