-- The header of an object (`loader.h`: mach_header_64).
use Rattle.std.specs.Prelude.{ℕ, ◌==◌, ◌&&◌, Bool, not, nat_lt, List, length, Result, Ok, Err, if◌then◌else◌}
use Rattle.mo_types.specs.declared.cause.Rule.TheVariants.{Header}
use Rattle.mo_types.specs.declared.cause.Feature.TheVariants.{Machine, FileType}
use Rattle.mo_types.specs.declared.object_fault.ObjFault.{ObjFault}
use Rattle.mo_types.specs.declared.object_fault.ObjFault.TheVariants.{Malformed, Unsupported}
use Rattle.mo_format.specs.Header.{mach_header_at}
use Rattle.mo_format.specs.declared.header.MachHeader.{MachHeader}
use Rattle.mo_format.specs.declared.loader.TheConstants.{CPU_SUBTYPE_ARM64_ALL, CPU_TYPE_ARM64, MH_OBJECT}

abbrev pub is_arm64 : MachHeader → Bool
is_arm64 header = header.cputype == CPU_TYPE_ARM64 && header.cpusubtype == CPU_SUBTYPE_ARM64_ALL

abbrev pub is_relocatable : MachHeader → Bool
is_relocatable header = header.filetype == MH_OBJECT

-- the header, where the file is an arm64 object
unfoldable pub header_of : List ℕ → Result MachHeader ObjFault
header_of bytes =
    if nat_lt (length bytes) 32 then Err (Malformed 0 Header)
    else if not (is_arm64 (mach_header_at bytes 0)) then Err (Unsupported Machine)
    else if not (is_relocatable (mach_header_at bytes 0)) then Err (Unsupported FileType)
    else Ok (mach_header_at bytes 0)
