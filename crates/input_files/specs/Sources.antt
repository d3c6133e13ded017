-- Inputs whose archives and objects are read.
use Rattle.std.specs.Prelude.{◌≡◌, List, map, All, Option, Some, None, Result, Ok}
use Rattle.std.specs.List.{filter_map}
use Rattle.std.specs.List.Sorted.{IsStrictlySortedBy}
use Rattle.std.specs.Ordering.{nat_cmp}
use Rattle.std.proofs.lemmas.Map.Keys.{IsStrictlySortedBy-prop}
use Rattle.mo_types.specs.Loaded.{IsWholeFile}
use Rattle.mo_types.specs.declared.loaded.LoadedFile.{LoadedFile}
use Rattle.mo_ar.specs.declared.archive.Archive.{Archive}
use Rattle.input_files.specs.Files.{archive_in, id_at, read_as}
use Rattle.input_files.specs.declared.fault.LoadFault.{LoadFault}
use Rattle.input_files.specs.declared.input.Input.{Input}
use Rattle.input_files.specs.declared.sources.Source.{Source}

abbrev pub inputs_of : List Source → List Input
inputs_of sources = map (λ source. source.input) sources

-- the inputs stand by rising positions
abbrev pub AreInOrder : List Input → Type 0
AreInOrder inputs = IsStrictlySortedBy nat_cmp (map (λ input. input.position) inputs)

pub in_order_prop : (inputs : List Input) → IsProp (AreInOrder inputs)
in_order_prop inputs = IsStrictlySortedBy-prop nat_cmp (map (λ input. input.position) inputs)

abbrev pub object_as : Input → Option Archive → Option (Result LoadedFile LoadFault)
object_as input None = Some (read_as (id_at input 0) input.label input.bytes)
object_as input (Some archive) = None

-- what each input is read as that isn't an archive, in their order
unfoldable pub object_reads : List Input → List (Result LoadedFile LoadFault)
object_reads inputs = filter_map (λ input. object_as input (archive_in input)) inputs

-- the files are those inputs', which could all be read
pub record AreObjects (inputs : List Input) (objects : List LoadedFile) : Type 0 where
  pub read : object_reads inputs ≡ map Ok objects
  pub whole : All IsWholeFile objects
