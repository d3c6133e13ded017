-- What an input is stands at its place and is known of its bytes, and what isn't read has a fault of its own.
use Rattle.std.proofs.Common.{◌≡◌, ℕ, ◌<◌, ◌^◌, nat_le, Bool, true, false, List, length, None, Some, Result, Ok, Err, IfErr, refl, subst, arith, tests}
use Rattle.std.specs.Prelude.{if◌then◌else◌}
use Rattle.mo_types.specs.Kind.{kind_of}
use Rattle.mo_types.specs.declared.answer.Refusal.TheVariants as refusal
use Rattle.mo_types.specs.declared.cause.Feature.{Feature}
use Rattle.mo_types.specs.declared.cause.Feature.TheVariants as feature
use Rattle.mo_types.specs.declared.cause.Which.TheVariants.{FileBytes}
use Rattle.mo_types.specs.declared.key.FileId.{FileId}
use Rattle.mo_types.specs.declared.kind.Kind.{Kind}
use Rattle.mo_types.specs.declared.kind.Kind.TheVariants as kind
use Rattle.mo_types.specs.declared.loaded.LoadedFile.{LoadedFile}
use Rattle.mo_types.specs.declared.object.Object.{Object}
use Rattle.mo_types.specs.declared.object_fault.ObjFault.{ObjFault}
use Rattle.mo_types.specs.declared.object_fault.ObjFault.TheVariants as fault
use Rattle.mo_ar.specs.Archive.{archive_of}
use Rattle.mo_ar.specs.Faults.{IsObjFault as IsArchiveFault}
use Rattle.mo_ar.specs.Slice.{slice_of}
use Rattle.mo_ar.specs.declared.archive.Archive.{Archive}
use Rattle.mo_ar.specs.declared.slice.SliceFault.{SliceFault}
use Rattle.mo_ar.specs.declared.slice.SliceFault.TheVariants as slice
use Rattle.mo_obj.proofs.WholeLemmas.{object_faulty}
use Rattle.mo_obj.specs.Faults.{IsObjFault}
use Rattle.mo_obj.specs.Object.{object_of}
use Rattle.tbd_yaml.specs.File.{file_of}
use Rattle.yaml_text.specs.FaultText.{IsYamlFault}
use Rattle.yaml_text.specs.declared.fault.YamlFault.{YamlFault}
use Rattle.yaml_text.specs.declared.fault.YamlFault.TheVariants as yaml
use Rattle.yaml_text.specs.declared.file.YamlFile.{YamlFile}
use Rattle.tbd_doc.specs.Stubs.{IsStubFault, stub_file_of}
use Rattle.tbd_doc.specs.declared.fault.StubFault.{StubFault}
use Rattle.tbd_doc.specs.declared.fault.StubFault.TheVariants as stub
use Rattle.tbd_doc.specs.declared.stub.StubFile.{StubFile}
use Rattle.lib_bind.specs.Reexported.{IsFileFault, of_stub, of_text, stub_text, stubs_of, text_of, told}
use Rattle.input_files.specs.Files.{archive_in as archive_held, IsLoadFault, id_at, object_read, read_as, read_by}
use Rattle.input_files.specs.declared.fault.LoadFault.{LoadFault}
use Rattle.input_files.specs.declared.fault.LoadFault.TheVariants as load
use Rattle.input_files.specs.declared.input.Input.{Input}
use Rattle.input_read.specs.Opening.{archive_in, object_in, opened_archive, opened_by, opened_object, opened_slice, opening_of, slice_by, slice_in, stubs_in, universal_in}
use Rattle.input_read.specs.Sound.{AreDocuments}
use Rattle.input_read.specs.declared.opening.Opening.{Opening}
use Rattle.input_read.specs.declared.opening.Opening.TheVariants as opening
use Rattle.input_read.proofs.ArchiveLemmas.{archive_faulty}
use Rattle.input_read.proofs.FaultLemmas.{then_real}
use Rattle.input_read.proofs.SoundLemmas.{archive_sound, no_archive, stub_sound}
use Rattle.input_read.proofs.TextLemmas.{file_faulty, stubs_faulty}

-- the position of what an input is
abbrev pub place_of : Opening → ℕ
place_of (opening.Object input file) = input.position
place_of (opening.Archive input archive) = input.position
place_of (opening.Stubs named) = named.position

-- what its bytes tell of what an input is
abbrev pub IsKnown : Opening → Type 0
IsKnown (opening.Object input file) = (archive_held input ≡ None) × (read_as (id_at input 0) input.label input.bytes ≡ Ok file)
IsKnown (opening.Archive input archive) = archive_held input ≡ Some archive
IsKnown (opening.Stubs named) = AreDocuments named.file.docs

-- an answer for an input at a position
abbrev Fine : ℕ → Result Opening LoadFault → Type 0
Fine position (Ok opening) = (place_of opening ≡ position) × IsKnown opening
Fine position (Err why) = IsLoadFault why

-- ---- objects

of_object : (id : FileId) (label : List ℕ) (r : Result Object ObjFault) → IfErr r IsObjFault → IfErr (object_read id label r) IsLoadFault
of_object id label (Ok object) is = tt
of_object id label (Err (fault.Malformed place rule)) is = tt
of_object id label (Err (fault.Unsupported feature)) is = tt
of_object id label (Err (fault.Limit which)) is = tt
of_object id label (Err fault.OutOfMemory) is = absurd is

by_feature : (id : FileId) (label bytes : List ℕ) (what : Feature) → IfErr (read_by (kind.Refused what) id label bytes) IsLoadFault
by_feature id label bytes feature.SectionType = tt
by_feature id label bytes feature.ObjcSection = tt
by_feature id label bytes feature.Alignment = tt
by_feature id label bytes feature.CodeSegment = tt
by_feature id label bytes feature.SegmentName = tt
by_feature id label bytes feature.TextZerofill = tt
by_feature id label bytes feature.SymbolKind = tt
by_feature id label bytes feature.Absolute = tt
by_feature id label bytes feature.PointerAuth = tt
by_feature id label bytes feature.Machine = tt
by_feature id label bytes feature.FileType = tt
by_feature id label bytes feature.Fat64 = tt
by_feature id label bytes feature.ThinArchive = tt
by_feature id label bytes feature.GnuArchive = tt
by_feature id label bytes feature.Archive64 = tt
by_feature id label bytes feature.Bitcode = tt
by_feature id label bytes feature.Tbd = tt
by_feature id label bytes feature.Wildcard = tt
by_feature id label bytes feature.EhFrame = tt
by_feature id label bytes feature.Later = tt

by_kind : (id : FileId) (label bytes : List ℕ) (k : Kind) → IfErr (read_by k id label bytes) IsLoadFault
by_kind id label bytes kind.MachO = of_object id label (object_of bytes) (object_faulty bytes)
by_kind id label bytes kind.Archive = tt
by_kind id label bytes kind.Universal = tt
by_kind id label bytes kind.Stub = tt
by_kind id label bytes kind.NotAnInput = tt
by_kind id label bytes (kind.Refused what) = by_feature id label bytes what

pub read_faulty : (id : FileId) (label bytes : List ℕ) → IfErr (read_as id label bytes) IsLoadFault
unfolding read_as
read_faulty id label bytes = by_kind id label bytes (kind_of bytes)

object_fine : (input : Input) → kind_of input.bytes ≡ kind.MachO → Fine input.position (opened_object input)
unfolding opened_object
object_fine input told = by (read_as (id_at input 0) input.label input.bytes) refl (read_faulty (id_at input 0) input.label input.bytes)
  where
    by : (r : Result LoadedFile LoadFault) → read_as (id_at input 0) input.label input.bytes ≡ r → IfErr r IsLoadFault → Fine input.position (object_in input r)
    by (Ok file) e is = (refl, (no_archive input told, e))
    by (Err why) e is = is

-- ---- archives

archive_fine : (input : Input) → kind_of input.bytes ≡ kind.Archive → Fine input.position (opened_archive input)
unfolding opened_archive
archive_fine input told = by (archive_of input.bytes) refl (archive_faulty input.bytes)
  where
    by : (r : Result Archive ObjFault) → archive_of input.bytes ≡ r → IfErr r IsArchiveFault → Fine input.position (archive_in input r)
    by (Ok archive) e is = (refl, archive_sound input archive told e)
    by (Err (fault.Malformed place rule)) e is = tt
    by (Err (fault.Unsupported feature)) e is = tt
    by (Err (fault.Limit which)) e is = tt
    by (Err fault.OutOfMemory) e is = absurd is

slice_feature : (input : Input) (what : Feature) → Fine input.position (slice_by (kind.Refused what) input)
slice_feature input feature.SectionType = tt
slice_feature input feature.ObjcSection = tt
slice_feature input feature.Alignment = tt
slice_feature input feature.CodeSegment = tt
slice_feature input feature.SegmentName = tt
slice_feature input feature.TextZerofill = tt
slice_feature input feature.SymbolKind = tt
slice_feature input feature.Absolute = tt
slice_feature input feature.PointerAuth = tt
slice_feature input feature.Machine = tt
slice_feature input feature.FileType = tt
slice_feature input feature.Fat64 = tt
slice_feature input feature.ThinArchive = tt
slice_feature input feature.GnuArchive = tt
slice_feature input feature.Archive64 = tt
slice_feature input feature.Bitcode = tt
slice_feature input feature.Tbd = tt
slice_feature input feature.Wildcard = tt
slice_feature input feature.EhFrame = tt
slice_feature input feature.Later = tt

slice_fine : (input : Input) → Fine input.position (opened_slice input)
slice_fine input = by (kind_of input.bytes) refl
  where
    by : (k : Kind) → kind_of input.bytes ≡ k → Fine input.position (slice_by k input)
    by kind.MachO e = object_fine input e
    by kind.Archive e = archive_fine input e
    by kind.Universal e = tt
    by kind.Stub e = tt
    by kind.NotAnInput e = tt
    by (kind.Refused what) e = slice_feature input what

universal_fine : (input : Input) (r : Result (ℕ × ℕ) SliceFault) → Fine input.position (universal_in input r)
universal_fine input (Ok (from, size)) = slice_fine (slice_in input from size)
universal_fine input (Err (slice.Malformed place rule)) = tt

-- ---- stub libraries

text_faulty : (bytes : List ℕ) → IfErr (text_of bytes) IsFileFault
text_faulty bytes = by (file_of bytes) (file_faulty bytes)
  where
    by : (r : Result YamlFile YamlFault) → IfErr r IsYamlFault → IfErr (told of_text r) IsFileFault
    by (Ok file) is = tt
    by (Err (yaml.At line rule)) is = tt
    by (Err yaml.OutOfMemory) is = absurd is

docs_faulty : (file : YamlFile) → IfErr (stubs_of file) IsFileFault
docs_faulty file = by (stub_file_of file) (stubs_faulty file)
  where
    by : (r : Result StubFile StubFault) → IfErr r IsStubFault → IfErr (told of_stub r) IsFileFault
    by (Ok stubs) is = tt
    by (Err stub.NotTbd4) is = tt
    by (Err stub.NoTarget) is = tt
    by (Err (stub.BadKey doc)) is = tt
    by (Err stub.OutOfMemory) is = absurd is

stub_faulty : (bytes : List ℕ) → IfErr (stub_text bytes) IsFileFault
unfolding stub_text
stub_faulty bytes = then_real IsFileFault (text_of bytes) stubs_of (text_faulty bytes) docs_faulty

stubs_fine : (input : Input) → length input.bytes < 2 ^ 30 → kind_of input.bytes ≡ kind.Stub → Fine input.position (stubs_in input (stub_text input.bytes))
stubs_fine input few told = by (stub_text input.bytes) refl (stub_faulty input.bytes)
  where
    by : (r : Result StubFile ObjFault) → stub_text input.bytes ≡ r → IfErr r IsFileFault → Fine input.position (stubs_in input r)
    by (Ok file) e is = (refl, stub_sound input.bytes file few told e)
    by (Err (fault.Malformed place rule)) e is = tt
    by (Err (fault.Unsupported feature)) e is = tt
    by (Err (fault.Limit which)) e is = tt
    by (Err fault.OutOfMemory) e is = absurd is

-- ---- inputs

kind_fine : (input : Input) (k : Kind) → length input.bytes < 2 ^ 30 → kind_of input.bytes ≡ k → Fine input.position (opened_by k input)
kind_fine input kind.MachO few e = object_fine input e
kind_fine input kind.Archive few e = archive_fine input e
kind_fine input kind.Universal few e = universal_fine input (slice_of input.bytes)
kind_fine input kind.Stub few e = stubs_fine input few e
kind_fine input kind.NotAnInput few e = tt
kind_fine input (kind.Refused what) few e = tt

few_bytes : (n : ℕ) → nat_le (2 ^ 30) n ≡ false → n < 2 ^ 30
few_bytes n is = grind (arith, tests)

fine : (input : Input) → Fine input.position (opening_of input)
unfolding opening_of
fine input = by (nat_le (2 ^ 30) (length input.bytes)) refl
  where
    by : (b : Bool) → nat_le (2 ^ 30) (length input.bytes) ≡ b → Fine input.position (if b then Err (load.Refused (refusal.Limit FileBytes)) else opened_by (kind_of input.bytes) input)
    by true e = tt
    by false e = kind_fine input (kind_of input.bytes) (few_bytes (length input.bytes) e) refl

-- what an input is keeps its position, and is known
opened_fine : (input : Input) (opening : Opening) → opening_of input ≡ Ok opening → Fine input.position (Ok opening)
opened_fine input opening is = subst (Fine input.position) is (fine input)

pub place_kept : (input : Input) (opening : Opening) → opening_of input ≡ Ok opening → place_of opening ≡ input.position
place_kept input opening is = (opened_fine input opening is).0

pub opening_known : (input : Input) (opening : Opening) → opening_of input ≡ Ok opening → IsKnown opening
opening_known input opening is = (opened_fine input opening is).1

-- no input lacks memory
pub input_faulty : (input : Input) → IfErr (opening_of input) IsLoadFault
input_faulty input = by (opening_of input) (fine input)
  where
    by : (r : Result Opening LoadFault) → Fine input.position r → IfErr r IsLoadFault
    by (Ok opening) is = tt
    by (Err why) is = is
