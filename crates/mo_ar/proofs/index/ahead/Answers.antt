use Rattle.std.proofs.Common.{arith, get_or}
use Rattle.mo_ar.proofs.index.ahead.Goals as goal
use Rattle.mo_ar.proofs.index.ahead.Goals.{then-greatest-head, else-greatest-head}

pub loop-i-preserved : goal.loop-i-preserved
loop-i-preserved c = λ bound all. elim c.if-greatest-head.branch [
  | then-greatest-head w ↦ rw w.greatest-is (all (get_or c.args.buckets.now c.loop-i.i 0) (c.requires c.loop-i.i (omega (arith, c.loop-i-test.true))))
  | else-greatest-head w ↦ rw w.greatest-is (c.loop-i.invariant bound all)
]
