-- The header and the load commands of a library (`loader.h`: mach_header_64, load_command).
use Rattle.std.specs.Prelude.{ℕ, zero, suc, ◌+◌, ◌%◌, ◌==◌, ◌&&◌, ◌||◌, Bool, not, nat_lt, min, List, [], ◌∷◌, length, take, drop, unwrap_or, Result, Ok, Err, if◌then◌else◌}
use Rattle.mo_bytes.specs.Number.{number_at}
use Rattle.mo_types.specs.Gives.{◌>>=◌}
use Rattle.mo_types.specs.declared.cause.Feature.TheVariants.{Machine, FileType}
use Rattle.mo_format.specs.Header.{mach_header_at}
use Rattle.mo_format.specs.declared.header.MachHeader.{MachHeader}
use Rattle.mo_format.specs.declared.loader.TheConstants.{CPU_SUBTYPE_ARM64_ALL, CPU_TYPE_ARM64, MH_DYLIB}
use Rattle.dylib_read.specs.declared.fault.DylibFault.{DylibFault}
use Rattle.dylib_read.specs.declared.fault.DylibFault.TheVariants.{Malformed, Unsupported}
use Rattle.dylib_read.specs.declared.fault.DylibRule.TheVariants.{Header, Commands}

-- ---- the header

abbrev pub is_arm64 : MachHeader → Bool
is_arm64 header = header.cputype == CPU_TYPE_ARM64 && header.cpusubtype == CPU_SUBTYPE_ARM64_ALL

-- the header, where the file is a library for arm64
unfoldable pub header_of : List ℕ → Result MachHeader DylibFault
header_of bytes =
    if nat_lt (length bytes) 32 then Err (Malformed 0 Header)
    else if not (is_arm64 (mach_header_at bytes 0)) then Err (Unsupported Machine)
    else if not ((mach_header_at bytes 0).filetype == MH_DYLIB) then Err (Unsupported FileType)
    else Ok (mach_header_at bytes 0)

-- ---- the commands, which follow each other from byte 32 on

-- the number of 4 bytes at a place, and 0 where the bytes end before it does
unfoldable pub field : List ℕ → ℕ → ℕ
field bytes at = unwrap_or (number_at 4 bytes at) 0

-- how many bytes the command at a place says that it has
unfoldable pub size_at : List ℕ → ℕ → ℕ
size_at bytes at = field (drop at bytes) 4

-- where the commands end: as the header has it, or at the file's end
abbrev pub commands_end : List ℕ → MachHeader → ℕ
commands_end bytes header = min (32 + header.sizeofcmds) (length bytes)

-- a command that passes the end, or whose size is below 8 or no multiple of 8
abbrev pub is_broken : List ℕ → ℕ → ℕ → Bool
is_broken bytes end at =
    nat_lt end (at + 8) || nat_lt (size_at bytes at) 8 || not (size_at bytes at % 8 == 0)
    || nat_lt end (at + size_at bytes at)

-- the places of n commands that follow each other, the first one at a place
abbrev pub commands_from : List ℕ → ℕ → ℕ → ℕ → Result (List ℕ) DylibFault
commands_from bytes end zero at = Ok []
commands_from bytes end (suc n) at =
    if is_broken bytes end at then Err (Malformed at Commands)
    else commands_from bytes end n (at + size_at bytes at) >>= λ others. Ok (at ∷ others)

unfoldable pub commands_of : List ℕ → MachHeader → Result (List ℕ) DylibFault
commands_of bytes header = commands_from bytes (commands_end bytes header) header.ncmds 32

-- the bytes of the command at a place
unfoldable pub command_at : List ℕ → ℕ → List ℕ
command_at bytes at = take (size_at bytes at) (drop at bytes)

-- the number that says what the command at a place is
unfoldable pub kind_at : List ℕ → ℕ → ℕ
kind_at bytes at = field (command_at bytes at) 0
