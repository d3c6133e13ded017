use Rattle.dylib_read.proofs.EdgeLemmas.{IsEntering}
use Rattle.dylib_read.proofs.trie_walk.enter.Given as goal

abbrev pub invariant-loop-number : goal.invariant-loop-number
invariant-loop-number l = IsEntering l.trie l.links l.led l.pool.items l.bounds.items l.at l.number
