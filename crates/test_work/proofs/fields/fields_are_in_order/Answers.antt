use Rattle.std.proofs.Common.{arith}
use Rattle.test_work.proofs.OrderLemmas.{rising_fields}
use Rattle.test_work.proofs.fields.fields_are_in_order.Goals as goal

pub returns-then-rise : goal.returns-then-rise
returns-then-rise c = (
  λ t. rising_fields c.args.address c.args.size c.args.mets.now (omega arith) (c.are_within.ensures.0 c.if-not-are_within.false) (c.rise.ensures.0 t),
  λ are. c.if-rise.true,
)
