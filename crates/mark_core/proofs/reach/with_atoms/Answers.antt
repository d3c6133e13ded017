use Rattle.mark_core.proofs.KeyLemmas.{no_atom}
use Rattle.mark_core.proofs.ReachLemmas.{add_one}
use Rattle.mark_core.proofs.reach.with_atoms.Goals as goal

pub loop-atom-preserved : goal.loop-atom-preserved
loop-atom-preserved c = add_one c.args.before.keys c.loop-atom.found.keys c.insert.new.self.keys c.args.more.now c.loop-atom.atom-index no_atom c.loop-atom-test.true c.loop-atom.invariant c.in_ok-insert.ensures.keys
