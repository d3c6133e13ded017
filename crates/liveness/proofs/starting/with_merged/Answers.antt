use Rattle.liveness.specs.Roots.{merged_root}
use Rattle.symbol_winners.proofs.PickLemmas.{pick_end, pick_item}
use Rattle.liveness.proofs.starting.with_merged.Goals as goal

pub loop-winner-preserved : goal.loop-winner-preserved
loop-winner-preserved c = pick_item (merged_root c.args.symbols.now.literals) c.args.before.items c.loop-winner.roots.items c.in_ok-roots.roots.items c.args.list.now c.loop-winner.winner-index c.winner-item.result c.merged_root.result c.loop-winner.invariant c.loop-winner-test.true c.winner-item.is c.merged_root.ensures c.in_ok-roots.ensures

pub returns : goal.returns
returns c = pick_end (merged_root c.args.symbols.now.literals) c.args.before.items c.loop-winner.roots.items c.args.list.now c.loop-winner.winner-index c.loop-winner.invariant c.loop-winner-test.false
