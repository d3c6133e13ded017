use Rattle.dylib_read.specs.inner.TrieLinks.{AreLinks}
use Rattle.dylib_read.proofs.trie_walk.walk_on.Given as goal

abbrev pub invariant-loop-at : goal.invariant-loop-at
invariant-loop-at l = AreLinks l.trie l.links l.led l.pool.items l.at 0
