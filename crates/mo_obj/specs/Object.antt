-- The object that a file is, or the first rule that it breaks or feature that the linker doesn't have.
use Rattle.std.specs.Prelude.{ℕ, ◌^◌, ◌==◌, Bool, not, nat_lt, bit_and, List, length, Option, Some, None, Result, Ok, Err}
use Rattle.mo_types.specs.Gives.{◌>>=◌, guarded}
use Rattle.mo_types.specs.declared.cause.Feature.{Feature}
use Rattle.mo_types.specs.declared.cause.Rule.TheVariants as rule
use Rattle.mo_types.specs.declared.cause.Which.TheVariants.{Symbols}
use Rattle.mo_types.specs.declared.object_fault.ObjFault.{ObjFault}
use Rattle.mo_types.specs.declared.object_fault.ObjFault.TheVariants.{Unsupported, Limit}
use Rattle.mo_types.specs.declared.object.Object.{Object}
use Rattle.mo_types.specs.declared.object.Section.{Section}
use Rattle.mo_format.specs.declared.header.MachHeader.{MachHeader}
use Rattle.mo_format.specs.declared.loader.TheConstants.{MH_SUBSECTIONS_VIA_SYMBOLS}
use Rattle.mo_obj.specs.Commands.{commands_of, frame_of}
use Rattle.mo_obj.specs.Entries.{entries_of}
use Rattle.mo_obj.specs.Features.{first_feature}
use Rattle.mo_obj.specs.Header.{header_of}
use Rattle.mo_obj.specs.Relocations.{relocations_of}
use Rattle.mo_obj.specs.Sections.{headers_of, sections_of, is_outside, has_relocs_outside, has_broken_literals, each_keeps}
use Rattle.mo_obj.specs.Symbols.{symtab_of, symbols_of, any_foreign}
use Rattle.mo_obj.specs.declared.Described.{Described}
use Rattle.mo_obj.specs.declared.commands.Frame.{Frame}

abbrev pub may_be_cut : MachHeader → Bool
may_be_cut header = not (bit_and header.flags MH_SUBSECTIONS_VIA_SYMBOLS == 0)

-- the sections, which keep the rules Section and Relocations
unfoldable pub checked_sections : List ℕ → Frame → Result (List Section) ObjFault
checked_sections bytes frame = do
  section ← each_keeps rule.Section frame (is_outside (length bytes)) (headers_of bytes frame)
  relocations ← each_keeps rule.Relocations frame (has_relocs_outside (length bytes)) (headers_of bytes frame)
  Ok (sections_of bytes (headers_of bytes frame))

-- there is no feature that the linker doesn't have
abbrev pub lacks : Option Feature → Result (Unit {0}) ObjFault
lacks None = Ok tt
lacks (Some feature) = Err (Unsupported feature)

-- an object keeps the rules of relocations and that of unwind entries, it has no feature that the linker doesn't have,
-- and its symbols are fewer than 2^24
unfoldable pub accepted : Object → Bool → Result (Unit {0}) ObjFault
accepted object foreign = do
  relocs ← relocations_of object
  entries ← entries_of object
  supported ← lacks (first_feature object foreign relocs)
  guarded (nat_lt (length object.symbols) (2 ^ 24)) (Limit Symbols) tt

-- The object that a file describes, and whether a symbol is of a kind that isn't linked. The rules are in their
-- order, each asked of the whole file before the next one: the first that fails is told, at its least place.
unfoldable pub described : List ℕ → Result Described ObjFault
described bytes = do
  header ← header_of bytes
  commands ← commands_of bytes header
  frame ← frame_of bytes commands
  sections ← checked_sections bytes frame
  symtab ← symtab_of bytes frame
  symbols ← symbols_of bytes symtab sections
  literals ← each_keeps rule.Literals frame has_broken_literals sections
  Ok (record {
    object = record { subsections = may_be_cut header; sections = sections; symbols = symbols };
    foreign = any_foreign bytes symtab;
  })

-- the object of a file; the rules of relocations and entries and features come after the other rules
unfoldable pub object_of : List ℕ → Result Object ObjFault
object_of bytes = do
  read ← described bytes
  done ← accepted read.object read.foreign
  Ok read.object
