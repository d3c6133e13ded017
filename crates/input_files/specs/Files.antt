-- The files that inputs hold. An object is one file, of number 0; the members of an archive count from 1, without its
-- table of contents (ar(5)).
use Rattle.std.specs.Prelude.{ℕ, ◌≡◌, ◌≤◌, ◌-◌, ◌++◌, ◌==◌, ◌&&◌, ◌||◌, Bool, List, [], ◌∷◌, codes, length, map, slice_get, All, Option, Some, None, option_map, unwrap_or, Result, Ok, Err, if◌then◌else◌}
use Rattle.std.specs.List.{flat_map, list_any, range_with_len}
use Rattle.std.specs.Result.{result_ok}
use Rattle.mo_types.specs.Atoms.{atoms_of}
use Rattle.mo_types.specs.Kind.{kind_of}
use Rattle.mo_types.specs.Refs.{refs_of}
use Rattle.mo_types.specs.Scan.{first_some}
use Rattle.mo_types.specs.declared.answer.Refusal.TheVariants as refusal
use Rattle.mo_types.specs.declared.cause.Feature.TheVariants.{Bitcode}
use Rattle.mo_types.specs.declared.cause.Rule.TheVariants.{NotAnInput}
use Rattle.mo_types.specs.declared.key.FileId.{FileId}
use Rattle.mo_types.specs.declared.kind.Kind.{Kind}
use Rattle.mo_types.specs.declared.kind.Kind.TheVariants as kind
use Rattle.mo_types.specs.declared.loaded.LoadedFile.{LoadedFile}
use Rattle.mo_types.specs.declared.object.Object.{Object}
use Rattle.mo_types.specs.declared.object_fault.ObjFault.{ObjFault}
use Rattle.mo_types.specs.declared.object_fault.ObjFault.TheVariants as fault
use Rattle.mo_ar.specs.Archive.{archive_of}
use Rattle.mo_ar.specs.Text.{part}
use Rattle.mo_ar.specs.declared.archive.Archive.{Archive}
use Rattle.mo_ar.specs.declared.member.Member.{Member}
use Rattle.mo_obj.specs.Object.{object_of}
use Rattle.reader_laws.specs.Facts.{IsLowCommon}
use Rattle.unwind_read.specs.Unwinds.{unwinds_of}
use Rattle.input_files.specs.declared.fault.LoadFault.{LoadFault}
use Rattle.input_files.specs.declared.fault.LoadFault.TheVariants as rounds
use Rattle.input_files.specs.declared.input.Input.{Input}

abbrev pub archive_as : Kind → List ℕ → Option Archive
archive_as kind.Archive bytes = result_ok (archive_of bytes)
archive_as _ bytes = None

-- the archive that an input is, if it is one
unfoldable pub archive_in : Input → Option Archive
archive_in input = archive_as (kind_of input.bytes) input.bytes

abbrev pub id_at : Input → ℕ → FileId
id_at input member = record { position = input.position; member = member }

abbrev pub ids_as : Input → Option Archive → List FileId
ids_as input None = id_at input 0 ∷ []
ids_as input (Some archive) = map (id_at input) (range_with_len 1 (length archive.members))

-- the files of an input
unfoldable pub ids_in : Input → List FileId
ids_in input = ids_as input (archive_in input)

-- the files of all inputs, by rising position and member where the positions rise
unfoldable pub all_ids : List Input → List FileId
all_ids inputs = flat_map ids_in inputs

-- an object, or a member of an archive of which all are loaded
unfoldable pub is_first : List Input → FileId → Bool
is_first inputs id = list_any (λ input. (input.position == id.position) && ((id.member == 0) || input.forced)) inputs

-- what messages call a file, and its bytes
pub record Content : Type 0 where
  pub label : List ℕ
  pub bytes : List ℕ

abbrev pub member_content : Input → Member → Content
member_content input member = record { label = input.label ++ codes "(" ++ member.name ++ codes ")"; bytes = part input.bytes member.from member.size }

abbrev pub content_as : Input → ℕ → Option Archive → Option Content
content_as input member None = Some (record { label = input.label; bytes = input.bytes })
content_as input member (Some archive) = option_map (member_content input) (slice_get archive.members (member - 1))

unfoldable pub content_in : Input → ℕ → Option Content
content_in input member = content_as input member (archive_in input)

-- the content of a file
unfoldable pub content_of : List Input → FileId → Content
content_of inputs id = unwrap_or (first_some (λ input. if input.position == id.position then content_in input id.member else None) inputs) (record { label = []; bytes = [] })

abbrev pub or_none : {X E : Type 0} → Result (List X) E → List X
or_none (Ok xs) = xs
or_none (Err e) = []

-- an object as a file of the link
abbrev pub file_with : FileId → List ℕ → Object → LoadedFile
file_with id label object = record {
  id = id;
  label = label;
  object = object;
  atoms = atoms_of object id;
  refs = or_none (refs_of object id);
  unwinds = or_none (unwinds_of object id);
}

-- the unwind entries of a file are those of its object
abbrev pub HasUnwinds : LoadedFile → Type 0
HasUnwinds file = unwinds_of file.object file.id ≡ Ok file.unwinds

-- the answer for a file that has a fault
abbrev pub fault_of : List ℕ → ObjFault → LoadFault
fault_of label (fault.Malformed place rule) = rounds.Refused (refusal.Malformed label place rule)
fault_of label (fault.Unsupported feature) = rounds.Refused (refusal.Unsupported label feature)
fault_of label (fault.Limit which) = rounds.Refused (refusal.Limit which)
fault_of label fault.OutOfMemory = rounds.OutOfMemory

abbrev pub object_read : FileId → List ℕ → Result Object ObjFault → Result LoadedFile LoadFault
object_read id label (Ok object) = Ok (file_with id label object)
object_read id label (Err e) = Err (fault_of label e)

-- a file that isn't a Mach-O file is LLVM's bitcode or no input
abbrev pub read_by : Kind → FileId → List ℕ → List ℕ → Result LoadedFile LoadFault
read_by kind.MachO id label bytes = object_read id label (object_of bytes)
read_by (kind.Refused Bitcode) id label bytes = Err (rounds.Refused (refusal.Unsupported label Bitcode))
read_by _ id label bytes = Err (rounds.Refused (refusal.Malformed label 0 NotAnInput))

-- bytes as a file of the link, or the first of these that stands: another kind of file, a rule that the object breaks, or a
-- feature that the linker doesn't have
unfoldable pub read_as : FileId → List ℕ → List ℕ → Result LoadedFile LoadFault
read_as id label bytes = read_by (kind_of bytes) id label bytes

-- a file of the inputs as it is loaded, or its first fault
unfoldable pub file_of : List Input → FileId → Result LoadedFile LoadFault
file_of inputs id = read_as id (content_of inputs id).label (content_of inputs id).bytes

-- it has at most 255 sections, and no atom and no common symbol is aligned to more than a page of 2^14 bytes
pub record IsLow (file : LoadedFile) : Type 0 where
  pub sections : length file.object.sections ≤ 255
  pub atoms : All (λ atom. atom.align ≤ 14) file.atoms
  pub commons : All (λ symbol. IsLowCommon symbol.kind) file.object.symbols

-- a fault that files have
abbrev pub IsLoadFault : LoadFault → Type 0
IsLoadFault rounds.OutOfMemory = ⊥
IsLoadFault _ = Unit {0}
