use Rattle.std.proofs.Common.{arith, length}
use Rattle.mo_ar.proofs.index.put_each.Goals as goal

pub loop-at-init : goal.loop-at-init
loop-at-init c = record {
  index = c.requires.index;
  buckets = c.requires.buckets;
  greatest = c.ahead-greatest.ensures (length c.args.nodes.now.items) (λ b low. (c.requires.index.chained.heads_are b low).within);
  low = omega (arith, c.requires.many);
  high = omega arith;
  few = c.requires.few;
}
