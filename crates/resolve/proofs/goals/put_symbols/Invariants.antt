use Rattle.resolve.proofs.PoolLemmas.{ArePut}
use Rattle.resolve.proofs.goals.put_symbols.Given as goal

abbrev pub invariant-loop-index : goal.invariant-loop-index
invariant-loop-index l = ArePut l.scope.loaded.now.files l.scope.libs.now l.scope.command.now l.file l.fn.pool.items l.pool.items l.index l.places.items
