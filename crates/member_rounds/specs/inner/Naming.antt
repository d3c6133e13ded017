-- The names of a link between two of its rounds.
use Rattle.std.specs.Prelude.{◌≡◌, ℕ, zero, suc, ◌++◌, List, []}
use Rattle.mo_types.specs.declared.answer.Refusal.TheVariants as refusal
use Rattle.mo_types.specs.declared.cause.Which.TheVariants as which
use Rattle.name_ids.specs.declared.fault.GatherFault.{GatherFault}
use Rattle.name_ids.specs.declared.fault.GatherFault.TheVariants.{Names, OutOfMemory}
use Rattle.input_files.specs.declared.fault.LoadFault.{LoadFault}
use Rattle.input_files.specs.declared.fault.LoadFault.TheVariants as load

-- the names of the command line that joined before a round
abbrev pub names_before : List (List ℕ) → ℕ → List (List ℕ)
names_before wanted zero = []
names_before wanted (suc k) = wanted

-- names with further ones behind them
pub record IsBehind (old new : List (List ℕ)) : Type 0 where
  pub more : List (List ℕ)
  pub behind : new ≡ old ++ more

abbrev pub told_as : GatherFault → LoadFault
told_as Names = load.Refused (refusal.Limit which.Names)
told_as OutOfMemory = load.OutOfMemory
