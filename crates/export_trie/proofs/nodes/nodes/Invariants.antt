use Rattle.std.proofs.Common.{◌≡◌, ◌≤◌, ◌++◌, ◌<◌, ℕ, [], get_or, length, drop, reverse, All}
use Rattle.export_trie.specs.Held.{AreBytes, held_names, AreHeld}
use Rattle.export_trie.proofs.Entering.{first_of}
use Rattle.export_trie.proofs.Building.{IsBuilding}
use Rattle.export_trie.proofs.nodes.nodes.Given as goal

abbrev pub invariant-loop-left : goal.invariant-loop-left
invariant-loop-left l = record {
  within : l.left ≤ length l.exports;
  later : l.later ≡ first_of (drop l.left (held_names l.exports));
  building : IsBuilding (held_names l.exports) l.left l.path.items l.done.items;
  bytes : (k : ℕ) → l.left ≤ k → k < length l.exports → AreBytes (get_or (held_names l.exports) k []);
}

abbrev pub decreases-loop-left : goal.decreases-loop-left
decreases-loop-left l = l.left

abbrev pub invariant-loop-node : goal.invariant-loop-node
invariant-loop-node l = record {
  held : AreHeld (held_names l.exports) (l.path.items ++ reverse l.done.items);
  bytes : All AreBytes (held_names l.exports);
}

abbrev pub decreases-loop-node : goal.decreases-loop-node
decreases-loop-node l = length l.path.items
