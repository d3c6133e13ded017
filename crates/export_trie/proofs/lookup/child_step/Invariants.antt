use Rattle.std.proofs.Common.{◌≡◌, ◌-◌}
use Rattle.export_trie.specs.Lookup.{child_at}
use Rattle.export_trie.proofs.lookup.child_step.Given as goal

abbrev pub invariant-loop : goal.invariant-loop
invariant-loop l = child_at l.trie l.node l.count l.first l.rest ≡ child_at l.trie l.node (l.count - l.counter) l.at l.rest
