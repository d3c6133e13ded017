use Rattle.liveness.specs.Roots.{section_root}
use Rattle.symbol_winners.proofs.PickLemmas.{no_atom, pick_answer, pick_end}
use Rattle.liveness.proofs.starting.with_sections.Goals as goal

pub loop-atom-preserved : goal.loop-atom-preserved
loop-atom-preserved c = pick_answer (section_root c.args.object.now) c.args.before.items c.loop-atom.roots.items c.in_ok-roots.roots.items c.args.atoms.now c.loop-atom.atom-index no_atom c.section_root.result c.loop-atom.invariant c.loop-atom-test.true c.section_root.ensures c.in_ok-roots.ensures

pub returns : goal.returns
returns c = pick_end (section_root c.args.object.now) c.args.before.items c.loop-atom.roots.items c.args.atoms.now c.loop-atom.atom-index c.loop-atom.invariant c.loop-atom-test.false
