-- The order of values that are out of range, of atoms.
use Rattle.std.specs.Prelude.{Some, None, if◌then◌else◌}
use Rattle.std.specs.Ordering.{is_gt, nat_cmp, ordering_then}
use Rattle.std.specs.declared.cmp.Ordering.{Ordering}
use Rattle.image_make.specs.declared.fault.MakeFault.{MakeFault}
use Rattle.image_make.specs.declared.fault.MakeFault.TheVariants.{Place, Range, OutOfMemory}
use Rattle.image_make.specs.declared.unfit.AtomFault.{AtomFault}
use Rattle.mo_types.specs.Keys.{compare_keys}

-- by atom and place
abbrev pub compare_faults : AtomFault → AtomFault → Ordering
compare_faults a b = ordering_then (compare_keys a.key b.key) (nat_cmp a.fault.file_place b.fault.file_place)

abbrev pub first_of : AtomFault → AtomFault → AtomFault
first_of a b = if is_gt (compare_faults a b) then b else a

abbrev pub of_atom : AtomFault → MakeFault
of_atom one = Range (Some one.key) one.fault

-- the first of a pointer's value and a field's
abbrev pub first_with : AtomFault → MakeFault → MakeFault
first_with pointer (Range (Some key) fault) = of_atom (first_of pointer (record { key = key; fault = fault }))
first_with pointer (Range None fault) = Range None fault
first_with pointer (Place fault) = Place fault
first_with pointer OutOfMemory = OutOfMemory
