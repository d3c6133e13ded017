use Rattle.resolve.specs.Goals.{goal_table}
use Rattle.resolve.proofs.PoolLemmas.{tables_read, tables_within}
use Rattle.resolve.proofs.goals.goal_table.Goals as goal

pub new-requires : goal.new-requires
new-requires c = tables_within c.put_files.new.pool.items c.in_ok-places.places (goal_table c.args.loaded.now.files c.args.libs.now c.args.command.now) c.in_ok-places.ensures

pub returns : goal.returns
returns c = tables_read c.new.result c.put_files.new.pool.items c.in_ok-places.places (goal_table c.args.loaded.now.files c.args.libs.now c.args.command.now) c.new.ensures c.in_ok-places.ensures
