use Rattle.std.proofs.Common.{◌≡◌, ◌++◌, drop}
use Rattle.dylib_read.specs.inner.TrieLinks.{narrowed}
use Rattle.dylib_read.proofs.trie_walk.put_narrowed.Given as goal

abbrev pub invariant-loop-bound : goal.invariant-loop-bound
invariant-loop-bound l = l.pool.items ++ narrowed l.trie (drop l.bound-index l.bounds) l.label ≡ l.fn.pool.items ++ narrowed l.trie l.bounds l.label
