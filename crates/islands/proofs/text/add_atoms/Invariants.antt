use Rattle.std.proofs.Common.{◌≡◌, ◌++◌, drop}
use Rattle.tlv_plan.specs.Template.{atoms_of}
use Rattle.islands.proofs.text.add_atoms.Given as goal

abbrev pub invariant-loop-key : goal.invariant-loop-key
invariant-loop-key l = l.atoms.items ++ atoms_of l.kept (drop l.key-index l.keys) ≡ l.initial.atoms.items ++ atoms_of l.kept l.keys
