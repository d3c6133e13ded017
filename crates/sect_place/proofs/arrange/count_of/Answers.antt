use Rattle.std.proofs.Common.{ap, length, ◌∙◌, arith}
use Rattle.sect_place.proofs.Arranged.{counting, counted}
use Rattle.sect_place.proofs.arrange.count_of.Goals as goal

pub loop-group-preserved : goal.loop-group-preserved
loop-group-preserved c = record {
  so_far = counting c.args.groups.now c.loop-group.group-index c.loop-group.count c.part_count-count.result c.group-item.result c.loop-group.invariant.so_far c.loop-group-test.true c.group-item.is (c.part_count-count.ensures.exact ∙ ap length c.as_slice.ensures);
  small = omega (arith, c.loop-group.invariant.small, c.part_count-count.ensures.small);
  within = omega (arith, c.loop-group-test.true);
}

pub returns-clause-exact : goal.returns-clause-exact
returns-clause-exact c = counted c.args.groups.now c.loop-group.group-index c.loop-group.count c.loop-group.invariant.so_far c.loop-group-test.false

pub returns-clause-small : goal.returns-clause-small
returns-clause-small c = omega (arith, c.loop-group.invariant.small, c.loop-group.invariant.within, c.loop-group-test.false)
