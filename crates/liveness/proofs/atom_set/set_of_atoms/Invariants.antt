use Rattle.std.proofs.Common.{◌≡◌, take}
use Rattle.mo_types.specs.declared.key.AtomKey.{AtomKey}
use Rattle.liveness.specs.Roots.{has_atom}
use Rattle.liveness.proofs.atom_set.set_of_atoms.Given as goal

abbrev pub invariant-loop-atom : goal.invariant-loop-atom
invariant-loop-atom l = (other : AtomKey) → has_atom l.set other ≡ has_atom (take l.atom-index l.atoms) other
