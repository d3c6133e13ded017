use Rattle.dylib_read.specs.inner.TrieExports.{AreFound}
use Rattle.dylib_read.proofs.trie.found.Given as goal

abbrev pub invariant-loop-at : goal.invariant-loop-at
invariant-loop-at l = AreFound l.trie l.exports.items l.at
