use Rattle.export_trie.specs.Held.{held_names, texts}
use Rattle.export_trie.proofs.Parents.{Seeks}
use Rattle.export_trie.proofs.family.parent_of.Given as goal

abbrev pub invariant-loop-text : goal.invariant-loop-text
invariant-loop-text l = Seeks (texts (held_names l.exports) l.nodes) l.at l.above

abbrev pub decreases-loop-text : goal.decreases-loop-text
decreases-loop-text l = l.above
