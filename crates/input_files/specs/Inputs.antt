-- The inputs of which files are loaded, and the files of those that aren't archives.
use Rattle.std.specs.Prelude.{List}
use Rattle.mo_types.specs.declared.loaded.LoadedFile.{LoadedFile}
use Rattle.input_files.specs.Sources.{AreInOrder, AreObjects}
use Rattle.input_files.specs.declared.input.Input.{Input}

pub record InputFiles : Type 0 where
  pub inputs : List Input
  pub objects : List LoadedFile

-- the positions of the inputs rise, and the files are those of the objects among them
pub record AreInputs (all : InputFiles) : Type 0 where
  pub order : AreInOrder all.inputs
  pub objects : AreObjects all.inputs all.objects
