use Rattle.std.proofs.Common.{◌≡◌, ◌-◌}
use Rattle.export_trie.specs.Lookup.{walk, lookup}
use Rattle.export_trie.proofs.lookup.find.Given as goal

abbrev pub invariant-loop : goal.invariant-loop
invariant-loop l = lookup l.trie l.name ≡ walk (l.end - l.counter) l.trie l.node l.rest
