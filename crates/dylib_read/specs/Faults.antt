-- How reading ends where a file isn't a dynamic library of the linker.
use Rattle.std.specs.Prelude.{ℕ, Option, Some, None, Result, Ok, Err}
use Rattle.dylib_read.specs.declared.fault.DylibFault.{DylibFault}
use Rattle.dylib_read.specs.declared.fault.DylibFault.TheVariants.{Malformed, OutOfMemory}
use Rattle.dylib_read.specs.declared.fault.DylibRule.{DylibRule}

-- a fault that the file has
abbrev pub IsDylibFault : DylibFault → Type 0
IsDylibFault OutOfMemory = ⊥
IsDylibFault _ = Unit {0}

-- a rule holds that fails at no place
abbrev pub keeps : {A : Type 0} → DylibRule → Option ℕ → A → Result A DylibFault
keeps rule None x = Ok x
keeps rule (Some place) x = Err (Malformed place rule)
