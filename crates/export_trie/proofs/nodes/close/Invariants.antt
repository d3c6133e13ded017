use Rattle.std.proofs.Common.{◌≡◌, ◌++◌, length, reverse}
use Rattle.export_trie.specs.Held.{Closes}
use Rattle.export_trie.proofs.nodes.close.Given as goal

abbrev pub invariant-loop-path : goal.invariant-loop-path
invariant-loop-path l = record {
  same : l.path.items ++ reverse l.done.items ≡ l.fn.path.items ++ reverse l.fn.done.items;
  closed : Closes l.shared l.fn.path.items l.path.items;
}

abbrev pub decreases-loop-path : goal.decreases-loop-path
decreases-loop-path l = length l.path.items
