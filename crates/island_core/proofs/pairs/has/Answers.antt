use Rattle.island_core.proofs.PairLemmas.{found_has, missing_has}
use Rattle.island_core.proofs.pairs.has.Goals as goal

pub returns-in-Ok : goal.returns-in-Ok
returns-in-Ok c = found_has c.args.set.now c.args.pair.now c.in-Ok.field-0 c.in-Ok.ensures.bound c.in-Ok.ensures.ok

pub returns-in-Err : goal.returns-in-Err
returns-in-Err c = missing_has c.args.set.now c.args.pair.now c.in-Err.field-0 c.requires c.in-Err.ensures.position
