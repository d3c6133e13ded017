use Rattle.liveness.proofs.AtomSetLemmas.{set_end, set_step}
use Rattle.symbol_winners.proofs.PickLemmas.{no_key}
use Rattle.liveness.proofs.atom_set.set_of_atoms.Goals as goal

pub loop-atom-preserved : goal.loop-atom-preserved
loop-atom-preserved c = λ other. set_step c.args.atoms.now c.loop-atom.set c.in_ok-set.set c.loop-atom.atom-index no_key c.loop-atom-test.true c.loop-atom.invariant c.in_ok-set.ensures other

pub returns : goal.returns
returns c = λ atom. set_end c.args.atoms.now c.loop-atom.set c.loop-atom.atom-index c.loop-atom-test.false c.loop-atom.invariant atom
