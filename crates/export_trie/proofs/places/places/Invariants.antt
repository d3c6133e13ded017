use Rattle.std.proofs.Common.{◌≡◌, ◌*◌, ◌-◌, ◌^◌, ℕ, List, length}
use Rattle.export_trie.specs.Held.{held, rows_of}
use Rattle.export_trie.specs.Sizes.{next_starts}
use Rattle.export_trie.proofs.Lengths.{Leq, total}
use Rattle.export_trie.proofs.places.places.Given as goal

abbrev pub invariant-loop-places : goal.invariant-loop-places
invariant-loop-places l = record {
  long : length l.places.items ≡ length l.nodes;
  rise : Leq l.places.items (next_starts (held l.exports) l.nodes (rows_of l.rows) l.places.items);
  least : (other : List ℕ) → length other ≡ length l.nodes → other ≡ next_starts (held l.exports) l.nodes (rows_of l.rows) other → Leq l.places.items other;
}

abbrev pub decreases-loop-places : goal.decreases-loop-places
decreases-loop-places l = length l.nodes * 2 ^ 64 - total l.places.items
