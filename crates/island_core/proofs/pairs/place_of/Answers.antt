use Rattle.island_core.proofs.PairLemmas.{found_pair, missing_pair}
use Rattle.island_core.proofs.pairs.place_of.Goals as goal

pub returns-in-Ok : goal.returns-in-Ok
returns-in-Ok c = found_pair c.args.far.now c.args.pair.now c.in-Ok.at c.in-Ok.ensures.bound c.in-Ok.ensures.ok

pub returns-in-Err : goal.returns-in-Err
returns-in-Err c = missing_pair c.args.far.now c.args.pair.now c.in-Err.field-0 c.requires c.in-Err.ensures.position
