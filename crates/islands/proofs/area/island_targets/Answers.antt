use Rattle.std.proofs.Common.{length}
use Rattle.islands.proofs.Ways.{pair_within}
use Rattle.islands.proofs.area.island_targets.Goals as goal

pub target_at-requires : goal.target_at-requires
target_at-requires c = pair_within c.args.far.now c.pairs_of_group-pairs.result.now c.args.group (length c.args.aims.now) c.loop-pair.pair-index _ c.requires.within c.pairs_of_group-pairs.ensures c.loop-pair-test.true
