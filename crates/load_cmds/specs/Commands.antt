-- The header of an image with its load commands (`loader.h`).
use Rattle.std.specs.Prelude.{ℕ, ◌+◌, ◌*◌, List, ◌++◌, length, Bool, if◌then◌else◌}
use Rattle.command_line.specs.declared.command.Command.{Command}
use Rattle.mo_format.specs.Header.{mach_header_bytes}
use Rattle.mo_format.specs.declared.header.MachHeader.{MachHeader}
use Rattle.mo_format.specs.declared.loader.TheConstants.{CPU_SUBTYPE_ARM64_ALL, CPU_TYPE_ARM64, MH_DYLIB, MH_EXECUTE, MH_MAGIC_64}
use Rattle.lib_bind.specs.declared.library.LibraryGraph.{LibraryGraph}
use Rattle.sect_place.specs.declared.layout.Layout.{Layout}
use Rattle.load_cmds.specs.Names.{u32_of}
use Rattle.load_cmds.specs.Others.{others_bytes}
use Rattle.load_cmds.specs.Segments.{segments_bytes}
use Rattle.load_cmds.specs.Sizes.{other_count, other_size}
use Rattle.load_cmds.specs.declared.parts.PartKinds.{PartKinds}
use Rattle.load_cmds.specs.declared.parts.PartSizes.{PartSizes}

-- how many load commands there are
abbrev pub command_count : Layout → PartKinds → Command → LibraryGraph → ℕ
command_count layout there command libs = length layout.segments + other_count there command libs

-- the bytes of the segments' commands: 72 each, and 80 for each section
abbrev pub segments_size : Layout → ℕ
segments_size layout = 72 * length layout.segments + 80 * length layout.sections

-- how many bytes they have together
abbrev pub commands_size : Layout → PartKinds → Command → LibraryGraph → ℕ
commands_size layout there command libs = segments_size layout + other_size there command libs

abbrev pub header : Layout → PartSizes → Command → LibraryGraph → MachHeader
header layout parts command libs = record {
  magic = MH_MAGIC_64;
  cputype = CPU_TYPE_ARM64;
  cpusubtype = CPU_SUBTYPE_ARM64_ALL;
  filetype = if command.dylib then MH_DYLIB else MH_EXECUTE;
  ncmds = u32_of (command_count layout parts.there command libs);
  sizeofcmds = u32_of (commands_size layout parts.there command libs);
  flags = parts.flags;
  reserved = 0;
}

-- the header and all commands, segments first
abbrev pub commands_of : Layout → PartSizes → Command → LibraryGraph → List ℕ
commands_of layout parts command libs =
    mach_header_bytes (header layout parts command libs)
    ++ (segments_bytes parts layout.segments layout.sections ++ others_bytes parts command libs)
