use Rattle.std.proofs.Common.{◌≡◌, ◌+◌, drop}
use Rattle.export_trie.specs.Sizes.{children_len}
use Rattle.export_trie.proofs.places.children_len.Given as goal

abbrev pub invariant-loop-child : goal.invariant-loop-child
invariant-loop-child l =
    l.size + children_len l.nodes l.places l.above (drop l.child-index l.row) ≡ children_len l.nodes l.places l.above l.row
