use Rattle.std.proofs.Common.{◌≡◌, ◌++◌, ◌<◌, ◌^◌, All, drop}
use Rattle.export_trie.specs.Trie.{starts}
use Rattle.export_trie.specs.Held.{held, rows_of}
use Rattle.export_trie.specs.Sizes.{node_lens, next_starts}
use Rattle.export_trie.proofs.places.next_places.Given as goal

abbrev pub invariant-loop-at : goal.invariant-loop-at
invariant-loop-at l = record {
  exact : l.next.items ++ starts l.place (node_lens (held l.exports) l.nodes l.places (drop l.at l.nodes) (drop l.at (rows_of l.rows)))
      ≡ next_starts (held l.exports) l.nodes (rows_of l.rows) l.places;
  small : All (λ place. place < 2 ^ 64) l.next.items;
}
