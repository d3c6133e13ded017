use Rattle.liveness.specs.Roots.{common_root}
use Rattle.symbol_winners.proofs.PickLemmas.{no_key, pick_answer, pick_end}
use Rattle.liveness.proofs.starting.with_commons.Goals as goal

pub loop-atom-preserved : goal.loop-atom-preserved
loop-atom-preserved c = pick_answer (common_root) c.args.before.items c.loop-atom.roots.items c.in_ok-roots.roots.items c.args.atoms.now c.loop-atom.atom-index no_key c.common_root.result c.loop-atom.invariant c.loop-atom-test.true c.common_root.ensures c.in_ok-roots.ensures

pub returns : goal.returns
returns c = pick_end (common_root) c.args.before.items c.loop-atom.roots.items c.args.atoms.now c.loop-atom.atom-index c.loop-atom.invariant c.loop-atom-test.false
