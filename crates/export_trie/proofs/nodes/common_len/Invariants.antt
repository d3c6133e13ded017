use Rattle.std.proofs.Common.{◌≡◌, ◌+◌, ◌-◌, ◌≤◌, length, drop}
use Rattle.export_trie.specs.Strings.{common}
use Rattle.export_trie.proofs.nodes.common_len.Given as goal

abbrev pub invariant-loop-len : goal.invariant-loop-len
invariant-loop-len l = record {
  shared : length (common l.a l.b) ≡ l.len + length (common (drop l.len l.a) (drop l.len l.b));
  left : l.len ≤ length l.a;
  right : l.len ≤ length l.b;
}

abbrev pub decreases-loop-len : goal.decreases-loop-len
decreases-loop-len l = length l.a - l.len
