use Rattle.std.proofs.Common.{◌≡◌, ◌++◌, drop}
use Rattle.tlv_plan.specs.Template.{atoms_of}
use Rattle.sect_place.specs.Moved.{code_keys}
use Rattle.sect_place.specs.Shifts.{sections_in}
use Rattle.islands.proofs.text.text_atoms.Given as goal

abbrev pub invariant-loop-placed : goal.invariant-loop-placed
invariant-loop-placed l = l.atoms.items ++ atoms_of l.kept (code_keys (sections_in (drop l.placed-index l.sections))) ≡ atoms_of l.kept (code_keys (sections_in l.sections))
