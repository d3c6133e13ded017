use Rattle.std.proofs.Common.{List, All, Contains, subst, sym, refl, ◌∙◌}
use Rattle.export_trie.specs.declared.export.ExportAddress.{ExportAddress}
use Rattle.ground_tests.proofs.tries.spelled.Goals as goal

pub write_trie-requires-clause-no_nul : goal.write_trie-requires-clause-no_nul
write_trie-requires-clause-no_nul c =
    subst (λ (exports : List ExportAddress). All (λ export. Contains export.name 0 → ⊥) exports) (c.as_slice.ensures.value ∙ sym c.from_vec.ensures)
    (c.if-not-can_be_written.ensures.no_nul refl)
