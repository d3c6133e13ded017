-- The rule of unwind entries, as it is asked of an object.
use Rattle.std.specs.Prelude.{Result}
use Rattle.mo_types.specs.declared.cause.Rule.TheVariants.{Unwind}
use Rattle.mo_types.specs.declared.object_fault.ObjFault.{ObjFault}
use Rattle.mo_types.specs.declared.object.Object.{Object}
use Rattle.unwind_read.specs.Unwinds.{first_fault}
use Rattle.mo_obj.specs.Faults.{keeps}

-- it fails nowhere, or is told at its least place
abbrev pub entries_of : Object → Result (Unit {0}) ObjFault
entries_of object = keeps Unwind (first_fault object) (tt {0})
