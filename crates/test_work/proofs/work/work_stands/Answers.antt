use Rattle.test_work.proofs.OrderLemmas.{work_of}
use Rattle.test_work.proofs.work.work_stands.Goals as goal

pub returns : goal.returns
returns c = (
  λ t. work_of c.args.files.now c.args.from c.args.size c.args.work.now (c.are_standing.ensures.0 t) (c.stand_in_order.ensures.0 c.if-not-stand_in_order.false),
  λ are. c.are_standing.ensures.1 are.items,
)
