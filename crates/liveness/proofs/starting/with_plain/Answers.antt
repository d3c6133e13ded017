use Rattle.liveness.specs.Roots.{plain_root}
use Rattle.symbol_winners.proofs.PickLemmas.{no_atom, pick_answer, pick_end}
use Rattle.liveness.proofs.starting.with_plain.Goals as goal

pub loop-atom-preserved : goal.loop-atom-preserved
loop-atom-preserved c = pick_answer (plain_root c.args.symbols.now.literals c.args.external.now c.args.winning.now) c.args.before.items c.loop-atom.roots.items c.in_ok-roots.roots.items c.args.atoms.now c.loop-atom.atom-index no_atom c.plain_root.result c.loop-atom.invariant c.loop-atom-test.true c.plain_root.ensures c.in_ok-roots.ensures

pub returns : goal.returns
returns c = pick_end (plain_root c.args.symbols.now.literals c.args.external.now c.args.winning.now) c.args.before.items c.loop-atom.roots.items c.args.atoms.now c.loop-atom.atom-index c.loop-atom.invariant c.loop-atom-test.false
