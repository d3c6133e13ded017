use Rattle.std.proofs.Common.{refl}
use Rattle.islands.proofs.Told.{told, without_any}
use Rattle.islands.proofs.planning.plan.Goals as goal

pub all_reach-requires : goal.all_reach-requires
all_reach-requires c = told c.args.kept.now c.args.layout.now c.requires.layout

pub returns-then-all_reach : goal.returns-then-all_reach
returns-then-all_reach c =
    without_any c.args.kept.now c.args.layout.now c.as_slice-all.result.now c.args.branches.now c.args.reach c.no_islands.result (c.if-all_reach.ensures refl) c.as_slice-all.ensures c.no_islands.ensures.areas c.no_islands.ensures.ways
