-- Parts of memory whose bytes stand in the file one behind the other.
use Rattle.std.specs.Prelude.{ℕ, ◌+◌, ◌-◌, ◌≡◌, ◌≤◌, ◌<◌, true, List, length, get_or, Some}
use Rattle.mo_format.specs.declared.segment.SegmentCommand.{SegmentCommand}
use Rattle.mo_format.specs.Segment.{segment_command_at}
use Rattle.image_read.specs.Mapped.{byte_in, holds, is_segment, mapped}
use Rattle.image_read.specs.declared.window.Window.{Window}

-- the byte of the file for an address
abbrev pub byte_for : List ℕ → Window → ℕ → ℕ
byte_for image window v = get_or image (window.place + (v - window.from)) 0

-- what an image has in memory at the window's addresses
pub record IsWindow (image : List ℕ) (window : Window) : Type 0 where
  pub same : (v : ℕ) → window.from ≤ v → v < window.from + window.size → mapped image v ≡ Some (byte_for image window v)
  pub within : window.place + window.size ≤ length image

-- what a segment has there, of the addresses that are asked for
pub record IsPart (image : List ℕ) (segment : SegmentCommand) (first count : ℕ) (window : Window) : Type 0 where
  pub holding : (v : ℕ) → window.from ≤ v → v < window.from + window.size → holds v segment ≡ true
  pub same : (v : ℕ) → window.from ≤ v → v < window.from + window.size → byte_in image v segment ≡ Some (byte_for image window v)
  pub from : first ≤ window.from
  pub to : window.from + window.size ≤ first + count
  pub within : window.place + window.size ≤ length image

-- the segment that stands at a place
pub record IsSegmentAt (image : List ℕ) (at : ℕ) (segment : SegmentCommand) : Type 0 where
  pub is : is_segment image at ≡ true
  pub same : segment ≡ segment_command_at image at
