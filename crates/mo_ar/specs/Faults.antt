-- How reading ends where a file isn't an archive of the linker.
use Rattle.mo_types.specs.declared.object_fault.ObjFault.{ObjFault}
use Rattle.mo_types.specs.declared.object_fault.ObjFault.TheVariants.{OutOfMemory}

-- a fault that the file has
abbrev pub IsObjFault : ObjFault → Type 0
IsObjFault OutOfMemory = ⊥
IsObjFault _ = Unit {0}
