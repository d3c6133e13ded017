-- What the inputs of a command line are, or the fault of the first input that has one.
use Rattle.std.specs.Prelude.{◌≡◌, List, map, Option, None, Some, Result, Ok, Err}
use Rattle.std.specs.List.{filter_map}
use Rattle.mo_types.specs.Gives.{◌>>=◌}
use Rattle.mo_types.specs.declared.loaded.LoadedFile.{LoadedFile}
use Rattle.lib_bind.specs.declared.named.NamedStub.{NamedStub}
use Rattle.input_files.specs.Collected.{all_of}
use Rattle.input_files.specs.Sources.{inputs_of}
use Rattle.input_files.specs.declared.fault.LoadFault.{LoadFault}
use Rattle.input_files.specs.declared.input.Input.{Input}
use Rattle.input_read.specs.Opening.{opening_of}
use Rattle.input_read.specs.declared.opened.Opened.{Opened}
use Rattle.input_read.specs.declared.opening.Opening.{Opening}
use Rattle.input_read.specs.declared.opening.Opening.TheVariants as opening

-- what each input is, or the fault of the first that has one
abbrev pub openings_of : List Input → Result (List Opening) LoadFault
openings_of inputs = all_of (map opening_of inputs)

-- of an object or an archive the input, of a universal file with the bytes of its slice
abbrev pub input_in : Opening → Option Input
input_in (opening.Object input file) = Some input
input_in (opening.Archive input archive) = Some input
input_in (opening.Stubs named) = None

abbrev pub object_in : Opening → Option LoadedFile
object_in (opening.Object input file) = Some file
object_in (opening.Archive input archive) = None
object_in (opening.Stubs named) = None

abbrev pub stubs_in : Opening → Option NamedStub
stubs_in (opening.Object input file) = None
stubs_in (opening.Archive input archive) = None
stubs_in (opening.Stubs named) = Some named

-- The inputs of which files are loaded, objects and archives, the objects among them, and the stub libraries, each in the
-- order of the command line.
pub record Contents : Type 0 where
  pub inputs : List Input
  pub objects : List LoadedFile
  pub stubs : List NamedStub

abbrev pub contents_in : List Opening → Contents
contents_in openings = record { inputs = filter_map input_in openings; objects = filter_map object_in openings; stubs = filter_map stubs_in openings }

unfoldable pub contents_of : List Input → Result Contents LoadFault
contents_of inputs = openings_of inputs >>= λ openings. Ok (contents_in openings)

-- what was opened, as definitions see it
abbrev pub contents_as : Opened → Contents
contents_as opened = record { inputs = inputs_of opened.sources; objects = opened.objects; stubs = opened.stubs }

-- What was opened is what the definition gives. Want of memory is left to the code.
abbrev pub Opens : (LoadFault → Type 0) → Result Opened LoadFault → Result Contents LoadFault → Type 0
Opens is_fault (Ok opened) given = given ≡ Ok (contents_as opened)
Opens is_fault (Err why) given = is_fault why → given ≡ Err why
