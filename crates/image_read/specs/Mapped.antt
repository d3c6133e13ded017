-- The bytes that an image has in memory (`loader.h`: segment_command_64).
use Rattle.std.specs.Prelude.{ℕ, ◌+◌, ◌-◌, ◌==◌, ◌&&◌, Bool, nat_le, nat_lt, List, slice_get, Option, Some, None, if◌then◌else◌}
use Rattle.std.specs.Option.{option_and_then}
use Rattle.mo_types.specs.Rows.{when}
use Rattle.mo_types.specs.Scan.{first_some}
use Rattle.mo_format.specs.Segment.{segment_command_at}
use Rattle.mo_format.specs.declared.loader.TheConstants.{LC_SEGMENT_64}
use Rattle.mo_format.specs.declared.segment.SegmentCommand.{SegmentCommand}
use Rattle.image_read.specs.Commands.{cmd, cmdsize, commands_of, fits}

-- a command that is a segment
abbrev pub is_segment : List ℕ → ℕ → Bool
is_segment image at = cmd image at == LC_SEGMENT_64 && nat_le 72 (cmdsize image at)

-- an address is one of a segment's
abbrev pub holds : ℕ → SegmentCommand → Bool
holds address segment = nat_le segment.vmaddr address && nat_lt address (segment.vmaddr + segment.vmsize)

-- the segment at a place, where a segment stands there and holds an address
unfoldable pub holder_at : List ℕ → ℕ → ℕ → Option SegmentCommand
holder_at image address at =
    when (is_segment image at && holds address (segment_command_at image at)) (segment_command_at image at)

-- the first segment that holds an address
unfoldable pub holder : List ℕ → ℕ → Option SegmentCommand
holder image address = first_some (holder_at image address) (commands_of image)

-- The byte at an address of a segment: none where the segment may not be looked at, zero behind what the file
-- holds of it.
abbrev pub byte_in : List ℕ → ℕ → SegmentCommand → Option ℕ
byte_in image address segment =
    if segment.initprot == 0 then None
    else if nat_lt address (segment.vmaddr + segment.filesize) then slice_get image (segment.fileoff + (address - segment.vmaddr))
    else Some 0

-- the byte at an address
unfoldable pub mapped : List ℕ → ℕ → Option ℕ
mapped image address = if fits image then option_and_then (byte_in image address) (holder image address) else None
