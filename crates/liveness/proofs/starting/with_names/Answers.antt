use Rattle.liveness.specs.Roots.{name_root}
use Rattle.symbol_winners.proofs.PickLemmas.{pick_end, pick_item}
use Rattle.liveness.proofs.starting.with_names.Goals as goal

pub loop-name-preserved : goal.loop-name-preserved
loop-name-preserved c = pick_item (name_root c.args.symbols.now) c.args.before.items c.loop-name.roots.items c.in_ok-roots.roots.items c.args.names.now c.loop-name.name-index c.name-item.result c.name_root.result c.loop-name.invariant c.loop-name-test.true c.name-item.is c.name_root.ensures c.in_ok-roots.ensures

pub returns : goal.returns
returns c = pick_end (name_root c.args.symbols.now) c.args.before.items c.loop-name.roots.items c.args.names.now c.loop-name.name-index c.loop-name.invariant c.loop-name-test.false
