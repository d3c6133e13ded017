use Rattle.fixup_chain.proofs.PoolLemmas.{IsPooling}
use Rattle.fixup_chain.proofs.pool.pool_of.Given as goal

abbrev pub invariant-loop-at : goal.invariant-loop-at
invariant-loop-at l = IsPooling l.imports l.at l.rows.items l.pool.items
