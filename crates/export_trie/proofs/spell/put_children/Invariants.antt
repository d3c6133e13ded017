use Rattle.std.proofs.Common.{◌≡◌, ◌++◌, drop}
use Rattle.export_trie.specs.Held.{held_names}
use Rattle.export_trie.specs.Sizes.{row_bytes}
use Rattle.export_trie.proofs.spell.put_children.Given as goal

abbrev pub invariant-loop-child : goal.invariant-loop-child
invariant-loop-child l =
    l.out.items ++ row_bytes (held_names l.exports) l.nodes l.places l.above (drop l.child-index l.row)
    ≡ l.initial.out.items ++ row_bytes (held_names l.exports) l.nodes l.places l.above l.row
