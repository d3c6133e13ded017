-- What the machine of opcodes needs of an image: its segments, and its tables (`loader.h`: `dyld_info_command`).
use Rattle.std.specs.Prelude.{ℕ, ◌+◌, ◌==◌, nat_lt, List, [], ◌∷◌, Option, Some, None, Result, Ok, Err, if◌then◌else◌}
use Rattle.mo_bytes.specs.Number.{number}
use Rattle.mo_format.specs.Segment.{segment_command_at}
use Rattle.mo_types.specs.Rows.{when}
use Rattle.mo_types.specs.Scan.{first_some}
use Rattle.image_read.specs.Commands.{cmd, cmdsize, commands_of, fits}
use Rattle.image_read.specs.Mapped.{is_segment}
use Rattle.dyld_ops.specs.declared.fixup.OpsFault.{OpsFault}
use Rattle.dyld_ops.specs.declared.fixup.OpsFault.TheVariants.{Broken}
use Rattle.dyld_ops.specs.declared.info.DyldInfo.{DyldInfo}
use Rattle.dyld_ops.specs.declared.info.Part.{Part}
use Rattle.dyld_ops.specs.declared.loader.TheConstants.{LC_DYLD_INFO_ONLY}

-- the addresses of the segments among commands, by their places
abbrev pub addresses_at : List ℕ → List ℕ → List ℕ
addresses_at image [] = []
addresses_at image (at ∷ rest) =
    if is_segment image at then (segment_command_at image at).vmaddr ∷ addresses_at image rest else addresses_at image rest

-- the addresses of an image's segments, in the order of its commands
unfoldable pub addresses_of : List ℕ → List ℕ
addresses_of image = addresses_at image (commands_of image)

-- the place, where LC_DYLD_INFO_ONLY stands there
unfoldable pub info_at : List ℕ → ℕ → Option ℕ
info_at image at = when (cmd image at == LC_DYLD_INFO_ONLY) at

-- the first such command
unfoldable pub info_command : List ℕ → Option ℕ
info_command image = first_some (info_at image) (commands_of image)

-- a part of the file, by its offset and size
abbrev pub part_at : List ℕ → ℕ → Part
part_at image at = record { at = number 4 image at; size = number 4 image (at + 4) }

abbrev pub info_by : List ℕ → Option ℕ → Result (Option DyldInfo) OpsFault
info_by image None = Ok None
info_by image (Some at) =
    if nat_lt (cmdsize image at) 48 then Err (Broken 0)
    else Ok (Some (record { rebases = part_at image (at + 8); binds = part_at image (at + 16) }))

-- the tables of an image, if it has any; a command that doesn't fit is at fault, at place 0
unfoldable pub info_of : List ℕ → Result (Option DyldInfo) OpsFault
info_of image = if fits image then info_by image (info_command image) else Err (Broken 0)
