use Rattle.export_trie.specs.Held.{held_names, texts, rows_of}
use Rattle.export_trie.proofs.Parents.{HoldsBelow}
use Rattle.export_trie.proofs.family.children.Given as goal

abbrev pub invariant-loop-at : goal.invariant-loop-at
invariant-loop-at l = HoldsBelow (texts (held_names l.exports) l.nodes) (rows_of l.rows.items) l.at
