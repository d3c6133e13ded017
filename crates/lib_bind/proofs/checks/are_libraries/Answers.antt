use Rattle.lib_bind.proofs.CheckedLemmas.{all_next}
use Rattle.lib_bind.proofs.checks.are_libraries.Goals as goal

pub returns : goal.returns
returns c = all_next c.args.documents c.args.libraries.now c.loop-at.at c.if-libraries-gt-MOST.false c.loop-at.invariant c.loop-at-test.false
