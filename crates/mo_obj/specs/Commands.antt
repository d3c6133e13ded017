-- The load commands of an object (`loader.h`: load_command), of which one segment and one symbol table are read.
use Rattle.std.specs.Prelude.{ℕ, zero, suc, ◌+◌, ◌*◌, ◌%◌, ◌≤◌, ◌==◌, ◌&&◌, ◌||◌, Bool, false, not, nat_lt, nat_le, min, List, [], ◌∷◌, length, filter, slice_get, Option, Some, None, Result, Ok, Err, if◌then◌else◌}
use Rattle.std.specs.Option.{option_map_or}
use Rattle.mo_bytes.specs.Number.{number, number_at}
use Rattle.mo_types.specs.Gives.{◌>>=◌}
use Rattle.mo_types.specs.declared.cause.Rule.TheVariants.{Commands, Segment}
use Rattle.mo_types.specs.declared.object_fault.ObjFault.{ObjFault}
use Rattle.mo_types.specs.declared.object_fault.ObjFault.TheVariants.{Malformed}
use Rattle.mo_format.specs.Segment.{segment_command_at}
use Rattle.mo_format.specs.declared.header.MachHeader.{MachHeader}
use Rattle.mo_format.specs.declared.loader.TheConstants.{LC_SEGMENT_64, LC_SYMTAB}
use Rattle.mo_format.specs.declared.segment.SegmentCommand.{SegmentCommand}
use Rattle.mo_obj.specs.Faults.{keeps}
use Rattle.mo_obj.specs.declared.commands.Frame.{Frame}

-- where the commands end: as the header has it, or at the file's end
abbrev pub commands_end : List ℕ → MachHeader → ℕ
commands_end bytes header = min (32 + header.sizeofcmds) (length bytes)

-- the bytes of the command at a place
unfoldable pub size_at : List ℕ → ℕ → ℕ
size_at bytes at = number 4 bytes (at + 4)

-- a command that passes the end, or whose size is below 8 or no multiple of 8
abbrev pub is_broken : List ℕ → ℕ → ℕ → Bool
is_broken bytes end at =
    nat_lt end (at + 8) || nat_lt (size_at bytes at) 8 || not (size_at bytes at % 8 == 0)
    || nat_lt end (at + size_at bytes at)

-- the places of n commands that follow each other, the first one at a place
abbrev pub commands_from : List ℕ → ℕ → ℕ → ℕ → Result (List ℕ) ObjFault
commands_from bytes end zero at = Ok []
commands_from bytes end (suc n) at =
    if is_broken bytes end at then Err (Malformed at Commands)
    else commands_from bytes end n (at + size_at bytes at) >>= λ others. Ok (at ∷ others)

unfoldable pub commands_of : List ℕ → MachHeader → Result (List ℕ) ObjFault
commands_of bytes header = commands_from bytes (commands_end bytes header) header.ncmds 32

-- a command of a kind
abbrev pub is_command : List ℕ → ℕ → ℕ → Bool
is_command bytes kind at = option_map_or (λ cmd. cmd == kind) (number_at 4 bytes at) false

-- the commands of a kind, in their order
unfoldable pub commands_of_kind : List ℕ → ℕ → List ℕ → List ℕ
commands_of_kind bytes kind commands = filter (is_command bytes kind) commands

-- LC_SEGMENT_64, LC_SYMTAB
abbrev pub segments : List ℕ → List ℕ → List ℕ
segments bytes commands = commands_of_kind bytes LC_SEGMENT_64 commands

abbrev pub symtabs : List ℕ → List ℕ → List ℕ
symtabs bytes commands = commands_of_kind bytes LC_SYMTAB commands

-- the segment at a place
abbrev pub segment_at : List ℕ → ℕ → Option SegmentCommand
segment_at bytes at = if nat_le (at + 72) (length bytes) then Some (segment_command_at bytes at) else None

-- a segment whose size is that of its headers, of which there are at most 255
abbrev pub is_fit : List ℕ → ℕ → SegmentCommand → Bool
is_fit bytes at segment =
    nat_le segment.nsects 255 && segment.cmdsize == 72 + 80 * segment.nsects && nat_le (at + segment.cmdsize) (length bytes)

abbrev pub is_whole_segment : List ℕ → ℕ → Bool
is_whole_segment bytes at = option_map_or (is_fit bytes at) (segment_at bytes at) false

-- the first segment where it isn't whole, or the second one
abbrev pub bad_segment : List ℕ → List ℕ → Option ℕ
bad_segment bytes [] = None
bad_segment bytes (at ∷ others) = if is_whole_segment bytes at then slice_get others 0 else Some at

-- the lesser of two places, or the one that is there
abbrev pub lesser : Option ℕ → Option ℕ → Option ℕ
lesser None b = b
lesser (Some a) None = Some a
lesser (Some a) (Some b) = Some (min a b)

-- of the segments and the second symbol table the first one at fault
abbrev pub segment_fault : List ℕ → List ℕ → Option ℕ
segment_fault bytes commands = lesser (bad_segment bytes (segments bytes commands)) (slice_get (symtabs bytes commands) 1)

-- how many sections the segment at a place has
abbrev pub count_at : List ℕ → ℕ → ℕ
count_at bytes at = (segment_command_at bytes at).nsects

-- what is read of the segments and of the first symbol table: an object without a segment has no headers
abbrev pub frame_with : List ℕ → List ℕ → Option ℕ → Frame
frame_with bytes [] symtab = record { headers = 0; count = 0; symtab = symtab }
frame_with bytes (at ∷ others) symtab = record { headers = at + 72; count = count_at bytes at; symtab = symtab }

abbrev pub frame_at : List ℕ → List ℕ → Frame
frame_at bytes commands = frame_with bytes (segments bytes commands) (slice_get (symtabs bytes commands) 0)

-- what is read of the commands
unfoldable pub frame_of : List ℕ → List ℕ → Result Frame ObjFault
frame_of bytes commands = keeps Segment (segment_fault bytes commands) (frame_at bytes commands)

-- the headers of the sections lie within the file
pub record IsFrame (bytes : List ℕ) (frame : Frame) : Type 0 where
  pub headers : frame.headers + 80 * frame.count ≤ length bytes
  pub few : frame.count ≤ 255
