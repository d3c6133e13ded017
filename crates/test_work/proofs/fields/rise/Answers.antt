use Rattle.std.proofs.Common.{refl}
use Rattle.test_work.proofs.OrderLemmas.{rising_pairs}
use Rattle.test_work.proofs.fields.rise.Goals as goal

pub returns : goal.returns
returns c = (λ t. rising_pairs c.args.mets.now c.loop-i.i c.loop-i.invariant c.loop-i-test.false, λ all. refl)
