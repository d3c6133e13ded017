use Rattle.std.proofs.Common.{◌≡◌, ◌≤◌, ◌++◌, drop, length}
use Rattle.dylib_read.specs.inner.TrieLinks.{spelled}
use Rattle.dylib_read.proofs.trie_name.spell.Given as goal

abbrev pub invariant-loop-left : goal.invariant-loop-left
invariant-loop-left l = record {
  within : l.left ≤ length l.way;
  same : l.name.items ≡ l.fn.name.items ++ spelled l.trie (drop l.left l.way);
}

abbrev pub decreases-loop-left : goal.decreases-loop-left
decreases-loop-left l = l.left
