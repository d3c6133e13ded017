-- How many load commands there are beside those of segments, and how many bytes they have.
use Rattle.std.specs.Prelude.{ℕ, ◌+◌, List, [], ◌∷◌, length, Bool, if◌then◌else◌}
use Rattle.command_line.specs.declared.command.Command.{Command}
use Rattle.lib_bind.specs.declared.library.Library.{Library}
use Rattle.lib_bind.specs.declared.library.LibraryGraph.{LibraryGraph}
use Rattle.load_cmds.specs.Names.{string_command_size}
use Rattle.load_cmds.specs.Documents.{document_of}
use Rattle.load_cmds.specs.declared.parts.PartKinds.{PartKinds}

-- the numbers of all elements together
abbrev pub total_by : {A : Type 0} → (A → ℕ) → List A → ℕ
total_by f [] = 0
total_by f (x ∷ xs) = f x + total_by f xs

-- a number that counts where something is there
abbrev pub counted : Bool → ℕ → ℕ
counted there n = if there then n else 0

-- one LC_ID_DYLIB for a library; LC_LOAD_DYLINKER and LC_MAIN for a program
abbrev pub form_count : Bool → ℕ
form_count dylib = if dylib then 1 else 2

-- LC_SYMTAB comes with LC_DYSYMTAB; LC_BUILD_VERSION is always there
abbrev pub table_count : PartKinds → ℕ
table_count there =
    counted there.fixups 1 + counted there.trie 1 + counted there.symbols 2 + counted there.uuid 1
    + counted there.signature 1 + 1

unfoldable pub other_count : PartKinds → Command → LibraryGraph → ℕ
other_count there command libs =
    form_count command.dylib + table_count there + length libs.libraries + length command.rpaths

-- loader.h: dylib_command of 24 bytes, dylinker_command of 12, entry_point_command of 24
abbrev pub form_size : Command → ℕ
form_size command = if command.dylib then string_command_size 24 command.install else 32 + 24

-- loader.h: linkedit_data_command of 16 bytes, symtab_command of 24, dysymtab_command of 80, uuid_command and
-- build_version_command of 24
abbrev pub table_size : PartKinds → ℕ
table_size there =
    counted there.fixups 16 + counted there.trie 16 + counted there.symbols (24 + 80) + counted there.uuid 24
    + counted there.signature 16 + 24

-- loader.h: dylib_command of 24 bytes
abbrev pub library_size : LibraryGraph → Library → ℕ
library_size libs library = string_command_size 24 (document_of libs library).install

-- loader.h: rpath_command of 12 bytes
abbrev pub rpath_size : List ℕ → ℕ
rpath_size path = string_command_size 12 path

-- the bytes of all commands but LC_SEGMENT_64
unfoldable pub other_size : PartKinds → Command → LibraryGraph → ℕ
other_size there command libs =
    form_size command + table_size there + total_by (library_size libs) libs.libraries + total_by rpath_size command.rpaths
