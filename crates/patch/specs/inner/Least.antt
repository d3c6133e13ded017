-- The fault at the least place, while it is looked for.
use Rattle.std.specs.Prelude.{ℕ, ◌≡◌, nat_le, List, All, Option, Some, None, Result, Ok, Err, if◌then◌else◌}
use Rattle.patch.specs.declared.fault.PlacedFault.{PlacedFault}
use Rattle.patch.specs.declared.met.Met.{Met}
use Rattle.patch.specs.declared.met.RangeFault.{RangeFault}
use Rattle.patch.specs.Patched.{Fits, IsFirstAtFault}

-- the fault of an answer that is one
abbrev pub fault_in : {A : Type 0} → Result A RangeFault → Option RangeFault
fault_in (Ok x) = None
fault_in (Err fault) = Some fault

-- the fault at the lesser place, or the earlier one
abbrev pub earlier : Option PlacedFault → PlacedFault → Option PlacedFault
earlier None found = Some found
earlier (Some other) found = if nat_le other.place found.place then Some other else Some found

-- the fault and the place of the reference at fault
pub record IsFound (address : ℕ) (bytes : List ℕ) (mets : List Met) (found : PlacedFault) (met : Met) : Type 0 where
  pub first : IsFirstAtFault address bytes mets found.fault met
  pub place : found.place ≡ met.place

-- the fault at the least place, or none where all values fit
abbrev pub IsLeast : ℕ → List ℕ → List Met → Option PlacedFault → Type 0
IsLeast address bytes mets None = All (Fits address bytes) mets
IsLeast address bytes mets (Some found) = (met : Met) × IsFound address bytes mets found met
