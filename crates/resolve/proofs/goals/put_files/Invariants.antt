use Rattle.resolve.proofs.PoolLemmas.{AreListed}
use Rattle.resolve.proofs.goals.put_files.Given as goal

abbrev pub invariant-loop-at : goal.invariant-loop-at
invariant-loop-at l = AreListed l.scope.loaded.now.files l.scope.libs.now l.scope.command.now l.fn.pool.items l.pool.items l.files l.at l.places.items
