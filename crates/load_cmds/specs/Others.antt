-- The commands other than those of segments, in their order.
use Rattle.std.specs.Prelude.{ℕ, ◌+◌, ◌/◌, List, [], ◌++◌, replicate, codes, Bool, not, if◌then◌else◌}
use Rattle.std.specs.List.{flat_map}
use Rattle.command_line.specs.declared.command.Command.{Command}
use Rattle.mo_format.specs.Command.{build_version_command_bytes, dylinker_command_bytes, entry_point_command_bytes, uuid_command_bytes}
use Rattle.mo_format.specs.Dylib.{dylib_command_bytes, rpath_command_bytes}
use Rattle.mo_format.specs.Linkedit.{dysymtab_command_bytes, linkedit_data_command_bytes}
use Rattle.mo_format.specs.Symbol.{symtab_command_bytes}
use Rattle.mo_format.specs.declared.linkedit.DysymtabCommand.{DysymtabCommand}
use Rattle.mo_format.specs.declared.loader.TheConstants.{LC_BUILD_VERSION, LC_CODE_SIGNATURE, LC_DYLD_CHAINED_FIXUPS, LC_DYLD_EXPORTS_TRIE, LC_DYSYMTAB, LC_ID_DYLIB, LC_LOAD_DYLIB, LC_LOAD_DYLINKER, LC_LOAD_WEAK_DYLIB, LC_MAIN, LC_REEXPORT_DYLIB, LC_RPATH, LC_SYMTAB, LC_UUID, PLATFORM_MACOS}
use Rattle.lib_bind.specs.declared.library.Library.{Library}
use Rattle.lib_bind.specs.declared.library.LibraryGraph.{LibraryGraph}
use Rattle.load_cmds.specs.Documents.{document_of}
use Rattle.load_cmds.specs.Names.{string_command_size, string_field, u32_of}
use Rattle.load_cmds.specs.declared.parts.PartPlace.{PartPlace}
use Rattle.load_cmds.specs.declared.parts.PartSizes.{PartSizes}

-- bytes that are there or not
abbrev pub given : Bool → List ℕ → List ℕ
given there bytes = if there then bytes else []

-- a library with its install name behind it
unfoldable pub dylib_bytes : ℕ → List ℕ → ℕ → ℕ → ℕ → List ℕ
dylib_bytes cmd name timestamp current compatible =
    dylib_command_bytes (record {
      cmd = cmd;
      cmdsize = u32_of (string_command_size 24 name);
      name = 24;
      timestamp = timestamp;
      current_version = current;
      compatibility_version = compatible;
    })
    ++ string_field 24 name

-- of a dynamic library: what it is
abbrev pub id_bytes : Command → List ℕ
id_bytes command = dylib_bytes LC_ID_DYLIB command.install 1 command.current command.compatible

-- a part of `__LINKEDIT`
unfoldable pub part_bytes : ℕ → PartPlace → List ℕ
part_bytes cmd part = linkedit_data_command_bytes (record { cmd = cmd; cmdsize = 16; dataoff = u32_of part.offset; datasize = u32_of part.size })

unfoldable pub symtab_bytes : PartSizes → List ℕ
symtab_bytes parts = symtab_command_bytes (record {
  cmd = LC_SYMTAB;
  cmdsize = 24;
  symoff = u32_of parts.symbols.offset;
  nsyms = u32_of (parts.locals + parts.exported + parts.undefined);
  stroff = u32_of parts.strings.offset;
  strsize = u32_of parts.strings.size;
})

-- three ranges of the symbols that follow each other, and the table of indirect symbols, of 4 bytes an entry
abbrev pub dysymtab_command : PartSizes → DysymtabCommand
dysymtab_command parts = record {
  cmd = LC_DYSYMTAB;
  cmdsize = 80;
  ilocalsym = 0;
  nlocalsym = parts.locals;
  iextdefsym = parts.locals;
  nextdefsym = parts.exported;
  iundefsym = u32_of (parts.locals + parts.exported);
  nundefsym = parts.undefined;
  tocoff = 0;
  ntoc = 0;
  modtaboff = 0;
  nmodtab = 0;
  extrefsymoff = 0;
  nextrefsyms = 0;
  indirectsymoff = u32_of parts.indirect.offset;
  nindirectsyms = u32_of (parts.indirect.size / 4);
  extreloff = 0;
  nextrel = 0;
  locreloff = 0;
  nlocrel = 0;
}

unfoldable pub dysymtab_bytes : PartSizes → List ℕ
dysymtab_bytes parts = dysymtab_command_bytes (dysymtab_command parts)

-- of a program: which loader starts it
unfoldable pub dylinker_bytes : List ℕ
dylinker_bytes =
    dylinker_command_bytes (record { cmd = LC_LOAD_DYLINKER; cmdsize = 32; name = 12 }) ++ string_field 12 (codes "/usr/lib/dyld")

-- the uuid, which is written over zeros once all else is there
unfoldable pub uuid_bytes : List ℕ
uuid_bytes = uuid_command_bytes (record { cmd = LC_UUID; cmdsize = 24; uuid = replicate 16 0 })

unfoldable pub version_bytes : Command → List ℕ
version_bytes command = build_version_command_bytes (record {
  cmd = LC_BUILD_VERSION;
  cmdsize = 24;
  platform = PLATFORM_MACOS;
  minos = command.min;
  sdk = command.sdk;
  ntools = 0;
})

-- of a program: where it begins
unfoldable pub entry_bytes : PartSizes → List ℕ
entry_bytes parts = entry_point_command_bytes (record { cmd = LC_MAIN; cmdsize = 24; entryoff = parts.entryoff; stacksize = 0 })

-- weakness counts before a re-export
abbrev pub library_cmd : Library → ℕ
library_cmd library =
    if library.weak then LC_LOAD_WEAK_DYLIB else if library.reexport then LC_REEXPORT_DYLIB else LC_LOAD_DYLIB

-- a library that the image is bound to, with the install name and the versions of its document
abbrev pub library_bytes : LibraryGraph → Library → List ℕ
library_bytes libs library =
    dylib_bytes (library_cmd library) (document_of libs library).install 2 (document_of libs library).current (document_of libs library).compatible

unfoldable pub rpath_bytes : List ℕ → List ℕ
rpath_bytes path =
    rpath_command_bytes (record { cmd = LC_RPATH; cmdsize = u32_of (string_command_size 12 path); path = 12 }) ++ string_field 12 path

-- what comes before the uuid
unfoldable pub front_bytes : PartSizes → Command → List ℕ
front_bytes parts command =
    given command.dylib (id_bytes command)
    ++ (given parts.there.fixups (part_bytes LC_DYLD_CHAINED_FIXUPS parts.fixups)
    ++ (given parts.there.trie (part_bytes LC_DYLD_EXPORTS_TRIE parts.trie)
    ++ (given parts.there.symbols (symtab_bytes parts ++ dysymtab_bytes parts)
    ++ given (not command.dylib) dylinker_bytes)))

-- the uuid, the versions, and a program's entry
unfoldable pub middle_bytes : PartSizes → Command → List ℕ
middle_bytes parts command =
    given parts.there.uuid uuid_bytes ++ (version_bytes command ++ given (not command.dylib) (entry_bytes parts))

-- all of them
unfoldable pub others_bytes : PartSizes → Command → LibraryGraph → List ℕ
others_bytes parts command libs =
    front_bytes parts command
    ++ (middle_bytes parts command
    ++ (flat_map (library_bytes libs) libs.libraries
    ++ (flat_map rpath_bytes command.rpaths
    ++ given parts.there.signature (part_bytes LC_CODE_SIGNATURE parts.signature))))
