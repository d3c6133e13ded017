use Rattle.std.proofs.Common.{◌≡◌}
use Rattle.std.specs.List.{AllAdjacentBelow}
use Rattle.std.specs.declared.cmp.Ordering.TheVariants.{Less}
use Rattle.mo_types.specs.Keys.{compare_keys}
use Rattle.mo_types.specs.declared.atom.Atom.{Atom}
use Rattle.call_times.proofs.order.atoms_rise.Given as goal

abbrev pub invariant-loop-i : goal.invariant-loop-i
invariant-loop-i l = AllAdjacentBelow (λ (a : Atom) (b : Atom). compare_keys a.key b.key ≡ Less) l.atoms l.i
