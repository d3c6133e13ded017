-- How reading ends where a file isn't an object of the linker.
use Rattle.std.specs.Prelude.{ℕ, Option, Some, None, Result, Ok, Err}
use Rattle.mo_types.specs.declared.cause.Rule.{Rule}
use Rattle.mo_types.specs.declared.object_fault.ObjFault.{ObjFault}
use Rattle.mo_types.specs.declared.object_fault.ObjFault.TheVariants.{Malformed, OutOfMemory}

-- a fault that the file has
abbrev pub IsObjFault : ObjFault → Type 0
IsObjFault OutOfMemory = ⊥
IsObjFault _ = Unit {0}

-- a rule holds that fails at no place
abbrev pub keeps : {A : Type 0} → Rule → Option ℕ → A → Result A ObjFault
keeps rule None x = Ok x
keeps rule (Some place) x = Err (Malformed place rule)
