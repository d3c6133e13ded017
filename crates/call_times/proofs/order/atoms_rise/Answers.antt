use Rattle.std.proofs.Common.{◌≡◌, arith}
use Rattle.std.specs.declared.cmp.Ordering.TheVariants.{Less}
use Rattle.std.proofs.lemmas.List.Sorted.{all_adjacent_more}
use Rattle.mo_types.specs.Keys.{compare_keys}
use Rattle.mo_types.specs.declared.atom.Atom.{Atom}
use Rattle.atom_index.proofs.Keys.{rises_from}
use Rattle.call_times.proofs.Rise.{apart}
use Rattle.call_times.proofs.order.atoms_rise.Goals as goal

pub loop-i-preserved : goal.loop-i-preserved
loop-i-preserved c = all_adjacent_more c.args.atoms.now (λ (a : Atom) (b : Atom). compare_keys a.key b.key ≡ Less) c.loop-i.i (omega arith) c.loop-i.invariant
    (λ d. apart (λ (x y : Atom). compare_keys x.key y.key) c.args.atoms.now c.loop-i.i _ _ d (omega arith) c.loop-i-test.true c.in-Less.ensures)

pub returns : goal.returns
returns c = λ _. rises_from (λ (x : Atom). x.key) c.args.atoms.now c.loop-i.i c.loop-i.invariant c.loop-i-test.false
