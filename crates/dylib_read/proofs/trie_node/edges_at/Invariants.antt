use Rattle.dylib_read.proofs.TrieNodeLemmas.{IsReading}
use Rattle.dylib_read.proofs.trie_node.edges_at.Given as goal

abbrev pub invariant-loop-number : goal.invariant-loop-number
invariant-loop-number l = IsReading l.trie l.count l.first l._number l.at l.edges
