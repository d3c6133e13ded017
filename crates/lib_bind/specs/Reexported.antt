-- What a file says as a re-exported library, or its first fault.
use Rattle.std.specs.Prelude.{ℕ, ◌^◌, nat_le, List, length, Result, Ok, Err, if◌then◌else◌}
use Rattle.mo_types.specs.Gives.{◌>>=◌}
use Rattle.mo_types.specs.Kind.{kind_of}
use Rattle.mo_types.specs.declared.cause.Feature.TheVariants.{FileType, Tbd}
use Rattle.mo_types.specs.declared.cause.Rule.TheVariants.{NoTarget, BadKey, NotAnInput}
use Rattle.mo_types.specs.declared.cause.Which.TheVariants.{FileBytes}
use Rattle.mo_types.specs.declared.kind.Kind.{Kind}
use Rattle.mo_types.specs.declared.kind.Kind.TheVariants as kind
use Rattle.mo_types.specs.declared.object_fault.ObjFault.{ObjFault}
use Rattle.mo_types.specs.declared.object_fault.ObjFault.TheVariants.{Malformed, Unsupported, Limit, OutOfMemory}
use Rattle.tbd_yaml.specs.File.{file_of}
use Rattle.yaml_text.specs.declared.fault.YamlFault.{YamlFault}
use Rattle.yaml_text.specs.declared.fault.YamlFault.TheVariants as yaml
use Rattle.yaml_text.specs.declared.file.YamlFile.{YamlFile}
use Rattle.tbd_doc.specs.Stubs.{stub_file_of}
pub use Rattle.tbd_doc.specs.Stubs.{HaveTrees}
use Rattle.tbd_doc.specs.declared.fault.StubFault.{StubFault}
use Rattle.tbd_doc.specs.declared.fault.StubFault.TheVariants as stub
use Rattle.tbd_doc.specs.declared.stub.StubFile.{StubFile}

-- a fault that a file may have
abbrev pub IsFileFault : ObjFault → Type 0
IsFileFault (Malformed place rule) = Unit {0}
IsFileFault (Unsupported feature) = Unit {0}
IsFileFault (Limit which) = Unit {0}
IsFileFault OutOfMemory = ⊥

-- a fault of a text is told at its line, one of what the text says at its document
abbrev pub of_text : YamlFault → ObjFault
of_text (yaml.At line rule) = Malformed line rule
of_text yaml.OutOfMemory = OutOfMemory

abbrev pub of_stub : StubFault → ObjFault
of_stub stub.NotTbd4 = Unsupported Tbd
of_stub stub.NoTarget = Malformed 0 NoTarget
of_stub (stub.BadKey doc) = Malformed doc BadKey
of_stub stub.OutOfMemory = OutOfMemory

abbrev pub told : {A E F : Type 0} → (E → F) → Result A E → Result A F
told turn (Ok x) = Ok x
told turn (Err fault) = Err (turn fault)

abbrev pub text_of : List ℕ → Result YamlFile ObjFault
text_of bytes = told of_text (file_of bytes)

abbrev pub stubs_of : YamlFile → Result StubFile ObjFault
stubs_of file = told of_stub (stub_file_of file)

-- the stub library that a text is
unfoldable pub stub_text : List ℕ → Result StubFile ObjFault
stub_text bytes = text_of bytes >>= stubs_of

abbrev pub by_kind : List ℕ → Kind → Result StubFile ObjFault
by_kind bytes kind.Stub = stub_text bytes
by_kind bytes kind.MachO = Err (Unsupported FileType)
by_kind bytes kind.Archive = Err (Malformed 0 NotAnInput)
by_kind bytes kind.Universal = Err (Malformed 0 NotAnInput)
by_kind bytes kind.NotAnInput = Err (Malformed 0 NotAnInput)
by_kind bytes (kind.Refused feature) = Err (Unsupported feature)

-- a re-exported file has fewer than 2^30 bytes, and is the text of a stub library
unfoldable pub reexported : List ℕ → Result StubFile ObjFault
reexported bytes = if nat_le (2 ^ 30) (length bytes) then Err (Limit FileBytes) else by_kind bytes (kind_of bytes)
