use Rattle.dylib_read.proofs.TrieNameLemmas.{IsGoing}
use Rattle.dylib_read.proofs.trie_name.way_to.Given as goal

abbrev pub invariant-loop-node : goal.invariant-loop-node
invariant-loop-node l = IsGoing l.links l.at l.node l.way.items

abbrev pub decreases-loop-node : goal.decreases-loop-node
decreases-loop-node l = l.node
