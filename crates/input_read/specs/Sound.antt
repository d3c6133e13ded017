-- What holds of an input by what it is.
use Rattle.std.specs.Prelude.{◌≡◌, ◌<◌, ◌^◌, List, length, None, Some, Ok}
use Rattle.mo_types.specs.Loaded.{IsWholeFile}
use Rattle.mo_types.specs.declared.loaded.LoadedFile.{LoadedFile}
use Rattle.tbd_doc.specs.declared.stub.Stub.{Stub}
use Rattle.input_files.specs.Files.{archive_in, id_at, read_as}
use Rattle.input_files.specs.declared.input.Input.{Input}
use Rattle.input_read.specs.declared.opening.Opening.{Opening}
use Rattle.input_read.specs.declared.opening.Opening.TheVariants as opening

-- an input that is no archive, and the whole file that is loaded of it
pub record IsObjectOf (input : Input) (file : LoadedFile) : Type 0 where
  pub single : archive_in input ≡ None
  pub read : read_as (id_at input 0) input.label input.bytes ≡ Ok file
  pub whole : IsWholeFile file

-- the documents of a stub library: one at least, and fewer than 2^32
pub record AreDocuments (documents : List Stub) : Type 0 where
  pub some : 0 < length documents
  pub few : length documents < 2 ^ 32

-- An object is the file of its input, an archive the one that its input is, and a stub library has documents.
abbrev pub IsSound : Opening → Type 0
IsSound (opening.Object input file) = IsObjectOf input file
IsSound (opening.Archive input archive) = archive_in input ≡ Some archive
IsSound (opening.Stubs named) = AreDocuments named.file.docs
