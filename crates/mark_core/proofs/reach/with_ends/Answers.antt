use Rattle.mark_core.proofs.KeyLemmas.{no_atom}
use Rattle.mark_core.proofs.ReachLemmas.{end_one}
use Rattle.mark_core.proofs.reach.with_ends.Goals as goal

pub loop-arrow-preserved : goal.loop-arrow-preserved
loop-arrow-preserved c = end_one c.args.before.keys c.loop-arrow.found.keys c.insert.new.self.keys c.args.arrows.now c.loop-arrow.arrow-index (record { from = no_atom; to = no_atom }) c.loop-arrow-test.true c.loop-arrow.invariant c.in_ok-insert.ensures.keys
