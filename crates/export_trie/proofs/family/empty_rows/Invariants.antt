use Rattle.std.proofs.Common.{◌≡◌, [], replicate}
use Rattle.export_trie.specs.Held.{rows_of}
use Rattle.export_trie.proofs.family.empty_rows.Given as goal

abbrev pub invariant-loop : goal.invariant-loop
invariant-loop l = rows_of l.rows.items ≡ replicate l.counter []
