-- What an input is: an object, an archive or the text of stub libraries, or its first fault.
use Rattle.std.specs.Prelude.{ℕ, ◌^◌, nat_le, length, Result, Ok, Err, if◌then◌else◌}
use Rattle.mo_types.specs.Gives.{◌>>=◌}
use Rattle.mo_types.specs.Kind.{kind_of}
use Rattle.mo_types.specs.declared.answer.Refusal.TheVariants as refusal
use Rattle.mo_types.specs.declared.cause.Feature.{Feature}
use Rattle.mo_types.specs.declared.cause.Feature.TheVariants.{Bitcode}
use Rattle.mo_types.specs.declared.cause.Rule.{Rule}
use Rattle.mo_types.specs.declared.cause.Rule.TheVariants as rule
use Rattle.mo_types.specs.declared.cause.Which.TheVariants.{FileBytes}
use Rattle.mo_types.specs.declared.kind.Kind.{Kind}
use Rattle.mo_types.specs.declared.kind.Kind.TheVariants as kind
use Rattle.mo_types.specs.declared.loaded.LoadedFile.{LoadedFile}
use Rattle.mo_types.specs.declared.object_fault.ObjFault.{ObjFault}
use Rattle.mo_ar.specs.Archive.{archive_of}
use Rattle.mo_ar.specs.Slice.{slice_of}
use Rattle.mo_ar.specs.Text.{part}
use Rattle.mo_ar.specs.declared.archive.Archive.{Archive}
use Rattle.mo_ar.specs.declared.slice.SliceFault.{SliceFault}
use Rattle.mo_ar.specs.declared.slice.SliceFault.TheVariants as slice
use Rattle.tbd_doc.specs.declared.stub.StubFile.{StubFile}
use Rattle.lib_bind.specs.Reexported.{stub_text}
use Rattle.lib_bind.specs.declared.named.NamedStub.{NamedStub}
use Rattle.input_files.specs.Files.{fault_of, id_at, read_as}
use Rattle.input_files.specs.declared.fault.LoadFault.{LoadFault}
use Rattle.input_files.specs.declared.fault.LoadFault.TheVariants as fault
use Rattle.input_files.specs.declared.input.Input.{Input}
use Rattle.input_read.specs.declared.opening.Opening.{Opening}
use Rattle.input_read.specs.declared.opening.Opening.TheVariants as opening

abbrev pub malformed : {A : Type 0} → Input → ℕ → Rule → Result A LoadFault
malformed input place rule = Err (fault.Refused (refusal.Malformed input.label place rule))

abbrev pub unsupported : {A : Type 0} → Input → Feature → Result A LoadFault
unsupported input feature = Err (fault.Refused (refusal.Unsupported input.label feature))

abbrev pub object_in : Input → Result LoadedFile LoadFault → Result Opening LoadFault
object_in input read = read >>= λ file. Ok (opening.Object input file)

abbrev pub archive_in : Input → Result Archive ObjFault → Result Opening LoadFault
archive_in input (Ok archive) = Ok (opening.Archive input archive)
archive_in input (Err why) = Err (fault_of input.label why)

abbrev pub named : Input → StubFile → NamedStub
named input file = record { position = input.position; label = input.label; file = file }

abbrev pub stubs_in : Input → Result StubFile ObjFault → Result Opening LoadFault
stubs_in input (Ok file) = Ok (opening.Stubs (named input file))
stubs_in input (Err why) = Err (fault_of input.label why)

-- an input that is an object, and one that is an archive
unfoldable pub opened_object : Input → Result Opening LoadFault
opened_object input = object_in input (read_as (id_at input 0) input.label input.bytes)

unfoldable pub opened_archive : Input → Result Opening LoadFault
opened_archive input = archive_in input (archive_of input.bytes)

-- an input that has some bytes of another one
abbrev pub slice_in : Input → ℕ → ℕ → Input
slice_in input from size = record input { bytes = part input.bytes from size }

-- a slice of a universal file is an object or an archive; LLVM's bitcode is told as such
abbrev pub slice_by : Kind → Input → Result Opening LoadFault
slice_by kind.MachO input = opened_object input
slice_by kind.Archive input = opened_archive input
slice_by (kind.Refused Bitcode) input = unsupported input Bitcode
slice_by _ input = malformed input 0 rule.NotAnInput

abbrev pub opened_slice : Input → Result Opening LoadFault
opened_slice input = slice_by (kind_of input.bytes) input

-- of a universal file its slice counts, and places are those in the slice
abbrev pub universal_in : Input → Result (ℕ × ℕ) SliceFault → Result Opening LoadFault
universal_in input (Ok (from, size)) = opened_slice (slice_in input from size)
universal_in input (Err (slice.Malformed place rule)) = malformed input place rule

abbrev pub opened_by : Kind → Input → Result Opening LoadFault
opened_by kind.MachO input = opened_object input
opened_by kind.Archive input = opened_archive input
opened_by kind.Universal input = universal_in input (slice_of input.bytes)
opened_by kind.Stub input = stubs_in input (stub_text input.bytes)
opened_by kind.NotAnInput input = malformed input 0 rule.NotAnInput
opened_by (kind.Refused feature) input = unsupported input feature

-- What an input is, or the first of these that stands: 2^30 bytes or more; bytes of no kind that is linked; the first fault
-- of the object, of the archive's members and table, or of the text.
unfoldable pub opening_of : Input → Result Opening LoadFault
opening_of input =
    if nat_le (2 ^ 30) (length input.bytes) then Err (fault.Refused (refusal.Limit FileBytes))
    else opened_by (kind_of input.bytes) input
