-- What workers read of inputs.
use Rattle.std.specs.Prelude.{◌≡◌, ℕ, ◌<◌, false, List, [], length, slice_index_or, Result, IfOk}
use Rattle.mo_types.specs.Gives.{Gives}
use Rattle.input_files.specs.Files.{IsLoadFault}
use Rattle.input_files.specs.declared.fault.LoadFault.{LoadFault}
use Rattle.input_files.specs.declared.input.Input.{Input}
use Rattle.input_read.specs.Opening.{opening_of}
use Rattle.input_read.specs.declared.opening.Opening.{Opening}
use Rattle.input_read.specs.Sound.{IsSound}

-- an input, where there is none
abbrev pub no_input : Input
no_input = record { position = 0; label = []; bytes = []; forced = false }

-- what reading an input gave
pub record IsReadOf (input : Input) (piece : Result Opening LoadFault) : Type 0 where
  pub exact : Gives IsLoadFault piece (opening_of input)
  pub sound : IfOk piece IsSound

-- what reading each of some inputs gave
pub record ArePieces (inputs : List Input) (pieces : List (Result Opening LoadFault)) : Type 0 where
  pub count : length pieces ≡ length inputs
  pub each : (job : ℕ) (other : Result Opening LoadFault) → job < length inputs → IsReadOf (slice_index_or inputs job no_input) (slice_index_or pieces job other)
