use Rattle.std.proofs.Common.{◌≡◌, ◌++◌, ℕ, ◌<◌, get_or, drop}
use Rattle.export_trie.specs.Held.{held, rows_of, node_at}
use Rattle.export_trie.specs.Sizes.{held_bytes, export_held, IsSmall}
use Rattle.export_trie.proofs.spell.spell.Given as goal

abbrev pub invariant-loop-at : goal.invariant-loop-at
invariant-loop-at l = record {
  exact : l.out.items ++ held_bytes (held l.exports) l.nodes l.places (drop l.at l.nodes) (drop l.at (rows_of l.rows))
      ≡ held_bytes (held l.exports) l.nodes l.places l.nodes (rows_of l.rows);
  small : (k : ℕ) → k < l.at → IsSmall (export_held (held l.exports) (get_or l.nodes k (node_at 0 0)));
}
