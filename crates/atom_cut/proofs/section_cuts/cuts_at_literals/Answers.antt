use Rattle.atom_cut.proofs.LiteralLemmas.{literals_go_on, literals_end}
use Rattle.atom_cut.proofs.section_cuts.cuts_at_literals.Goals as goal

pub loop-number-preserved : goal.loop-number-preserved
loop-number-preserved c = literals_go_on _ _ _ _ _ c.requires.some c.loop-number.invariant c.loop-number-test.true c.in_ok-push-2.ensures.items

pub returns : goal.returns
returns c = literals_end _ _ _ _ c.requires.some c.requires.whole c.loop-number.invariant c.loop-number-test.false
