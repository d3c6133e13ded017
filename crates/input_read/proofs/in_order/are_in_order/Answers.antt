use Rattle.std.proofs.Common.{arith, rules}
use Rattle.std.proofs.lemmas.List.Sorted.{all_adjacent_more}
use Rattle.input_read.proofs.OrderLemmas.{IsBelow, in_order, out_of_order, apart}
use Rattle.input_read.proofs.in_order.are_in_order.Goals as goal

pub loop-i-preserved : goal.loop-i-preserved
loop-i-preserved c = all_adjacent_more c.args.inputs.now IsBelow c.loop-i.i (omega (arith, c.loop-i.auto.i)) c.loop-i.invariant
    (λ d. apart c.args.inputs.now c.loop-i.i c.index-inputs-i.result c.index-inputs-i-in-loop-i.result d c.loop-i.auto.i c.loop-i-test.true c.if-inputs-i.false)

pub returns-then-inputs-i : goal.returns-then-inputs-i
returns-then-inputs-i c = (λ no. absurd (search rules), λ order. absurd (out_of_order c.args.inputs.now c.loop-i.i c.index-inputs-i.result c.index-inputs-i-in-loop-i.result c.loop-i.auto.i c.loop-i-test.true c.if-inputs-i.true order))

pub returns : goal.returns
returns c = (λ _. in_order c.args.inputs.now c.loop-i.i c.loop-i.invariant c.loop-i-test.false, λ _. search rules)
