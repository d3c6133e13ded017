use Rattle.std.proofs.Common.{◌≡◌, take}
use Rattle.export_trie.specs.Held.{held}
use Rattle.export_trie.proofs.order.by_name.Given as goal

abbrev pub invariant-loop-export : goal.invariant-loop-export
invariant-loop-export l = held l.order.items ≡ take l.export-index l.exports
