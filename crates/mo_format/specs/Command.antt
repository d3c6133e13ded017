-- The other load commands of an image.
use Rattle.std.specs.Prelude.{ℕ, ◌+◌, List, [], ◌∷◌}
use Rattle.mo_bytes.specs.Number.{number}
use Rattle.mo_format.specs.Fields.{Field, Number, Name, name_at, spelled}
use Rattle.mo_format.specs.declared.command.DylinkerCommand.{DylinkerCommand}
use Rattle.mo_format.specs.declared.command.BuildVersionCommand.{BuildVersionCommand}
use Rattle.mo_format.specs.declared.command.EntryPointCommand.{EntryPointCommand}
use Rattle.mo_format.specs.declared.command.UuidCommand.{UuidCommand}

-- loader.h: dylinker_command, 12 bytes
abbrev pub dylinker_command_at : List ℕ → ℕ → DylinkerCommand
dylinker_command_at bytes at = record {
  cmd = number 4 bytes at;
  cmdsize = number 4 bytes (at + 4);
  name = number 4 bytes (at + 8);
}

abbrev pub dylinker_command_fields : DylinkerCommand → List Field
dylinker_command_fields s =
    Number 4 s.cmd
    ∷ Number 4 s.cmdsize
    ∷ Number 4 s.name
    ∷ []

abbrev pub dylinker_command_bytes : DylinkerCommand → List ℕ
dylinker_command_bytes s = spelled (dylinker_command_fields s)

-- loader.h: build_version_command, 24 bytes
abbrev pub build_version_command_at : List ℕ → ℕ → BuildVersionCommand
build_version_command_at bytes at = record {
  cmd = number 4 bytes at;
  cmdsize = number 4 bytes (at + 4);
  platform = number 4 bytes (at + 8);
  minos = number 4 bytes (at + 12);
  sdk = number 4 bytes (at + 16);
  ntools = number 4 bytes (at + 20);
}

abbrev pub build_version_command_fields : BuildVersionCommand → List Field
build_version_command_fields s =
    Number 4 s.cmd
    ∷ Number 4 s.cmdsize
    ∷ Number 4 s.platform
    ∷ Number 4 s.minos
    ∷ Number 4 s.sdk
    ∷ Number 4 s.ntools
    ∷ []

abbrev pub build_version_command_bytes : BuildVersionCommand → List ℕ
build_version_command_bytes s = spelled (build_version_command_fields s)

-- loader.h: entry_point_command, 24 bytes
abbrev pub entry_point_command_at : List ℕ → ℕ → EntryPointCommand
entry_point_command_at bytes at = record {
  cmd = number 4 bytes at;
  cmdsize = number 4 bytes (at + 4);
  entryoff = number 8 bytes (at + 8);
  stacksize = number 8 bytes (at + 16);
}

abbrev pub entry_point_command_fields : EntryPointCommand → List Field
entry_point_command_fields s =
    Number 4 s.cmd
    ∷ Number 4 s.cmdsize
    ∷ Number 8 s.entryoff
    ∷ Number 8 s.stacksize
    ∷ []

abbrev pub entry_point_command_bytes : EntryPointCommand → List ℕ
entry_point_command_bytes s = spelled (entry_point_command_fields s)

-- loader.h: uuid_command, 24 bytes
abbrev pub uuid_command_at : List ℕ → ℕ → UuidCommand
uuid_command_at bytes at = record {
  cmd = number 4 bytes at;
  cmdsize = number 4 bytes (at + 4);
  uuid = name_at bytes (at + 8);
}

abbrev pub uuid_command_fields : UuidCommand → List Field
uuid_command_fields s =
    Number 4 s.cmd
    ∷ Number 4 s.cmdsize
    ∷ Name s.uuid
    ∷ []

abbrev pub uuid_command_bytes : UuidCommand → List ℕ
uuid_command_bytes s = spelled (uuid_command_fields s)
