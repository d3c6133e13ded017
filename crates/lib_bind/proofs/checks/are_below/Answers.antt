use Rattle.lib_bind.proofs.CheckedLemmas.{all_below, not_below}
use Rattle.lib_bind.proofs.checks.are_below.Goals as goal

pub returns-then-number-end : goal.returns-then-number-end
returns-then-number-end c = not_below c.args.numbers.now c.args.end c.loop-number.number-index c.loop-number-test.true c.if-number-end.true

pub returns : goal.returns
returns c = all_below c.args.numbers.now c.args.end c.loop-number.number-index c.loop-number.invariant c.loop-number-test.false
