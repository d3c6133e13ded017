use Rattle.std.proofs.Common.{◌≡◌, length}
use Rattle.export_trie.specs.Held.{held_names, texts, AreParents}
use Rattle.export_trie.proofs.family.parents.Given as goal

abbrev pub invariant-loop-at : goal.invariant-loop-at
invariant-loop-at l = record {
  long : length l.parents.items ≡ l.at;
  each : AreParents (texts (held_names l.exports) l.nodes) l.at l.parents.items;
}
