-- Where a program begins, as the loader finds it (`loader.h`: entry_point_command).
use Rattle.std.specs.Prelude.{ℕ, ◌+◌, ◌≡◌, ◌==◌, ◌&&◌, nat_le, List, Option, Some, None, if◌then◌else◌}
use Rattle.mo_types.specs.Rows.{when}
use Rattle.mo_types.specs.Scan.{first_some}
use Rattle.mo_format.specs.Command.{entry_point_command_at}
use Rattle.mo_format.specs.declared.command.EntryPointCommand.{EntryPointCommand}
use Rattle.mo_format.specs.declared.loader.TheConstants.{LC_MAIN}
use Rattle.image_read.specs.Commands.{cmd, cmdsize, commands_of, fits}
use Rattle.image_read.specs.Meaning.{base_of}

-- the command at a place, where it tells the entry
unfoldable pub entry_at : List ℕ → ℕ → Option EntryPointCommand
entry_at image at = when (cmd image at == LC_MAIN && nat_le 24 (cmdsize image at)) (entry_point_command_at image at)

-- the first of these commands
unfoldable pub entry_of : List ℕ → Option EntryPointCommand
entry_of image = if fits image then first_some (entry_at image) (commands_of image) else None

-- the program begins at an address, by its offset from where `__TEXT` begins
pub record BeginsAt (image : List ℕ) (address : ℕ) : Type 0 where
  pub command : EntryPointCommand
  pub base : ℕ
  pub told : entry_of image ≡ Some command
  pub begins : base_of image ≡ Some base
  pub leads : base + command.entryoff ≡ address
