use Rattle.std.proofs.Common.{arith}
use Rattle.resolve_tests.proofs.RisingLemmas.{rises_more, rises_all}
use Rattle.resolve_tests.proofs.given.is_rising.Goals as goal

pub loop-i-init : goal.loop-i-init
loop-i-init c = λ k d low. absurd (omega (arith, low))

pub loop-i-preserved : goal.loop-i-preserved
loop-i-preserved c = rises_more c.args.files.now c.loop-i.i _ _ c.loop-i.invariant (omega (arith, c.loop-i.auto.i)) c.loop-i-test.true c.in-Less.ensures

pub returns : goal.returns
returns c = λ _. rises_all c.args.files.now c.loop-i.i c.loop-i.invariant c.loop-i-test.false
