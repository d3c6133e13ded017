use Rattle.std.proofs.Common.{◌≢◌, All, Contains, take}
use Rattle.std.specs.List.{AllPairs}
use Rattle.export_trie.specs.declared.export.ExportAddress.{ExportAddress}
use Rattle.ground_tests.proofs.tries.can_be_written.Given as goal

abbrev pub invariant-loop-i : goal.invariant-loop-i
invariant-loop-i l = record {
  distinct : AllPairs (λ (a : ExportAddress) (b : ExportAddress). a.name ≢ b.name) (take l.i l.exports);
  no_nul : All (λ (export : ExportAddress). Contains export.name 0 → ⊥) (take l.i l.exports);
}
