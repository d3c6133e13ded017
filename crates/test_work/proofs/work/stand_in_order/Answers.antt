use Rattle.std.proofs.Common.{refl}
use Rattle.test_work.proofs.OrderLemmas.{work_pairs}
use Rattle.test_work.proofs.work.stand_in_order.Goals as goal

pub returns : goal.returns
returns c = (λ t. work_pairs c.args.files.now c.args.work.now c.loop-i.i c.loop-i.invariant c.loop-i-test.false, λ all. refl)
