-- The orders of rows and of local symbols are total ones.
use Rattle.std.specs.Cmp.{IsTotalOrder}
use Rattle.std.proofs.lemmas.Cmp.{nat_cmp_total, on_total, then_total}
use Rattle.mo_types.proofs.KeyOrder.{compare_files_total, compare_keys_total}
use Rattle.sym_out.specs.Files.{FileSymbol}
use Rattle.sym_out.specs.Map.{MapRow, compare_rows}
use Rattle.sym_out.specs.Symbols.{Local, compare_locals}

pub compare_rows_total : IsTotalOrder compare_rows
compare_rows_total = then_total (on_total (λ (r : MapRow). r.address) nat_cmp_total) (on_total (λ (r : MapRow). r.atom.key) compare_keys_total)

pub compare_locals_total : IsTotalOrder compare_locals
compare_locals_total =
    then_total (on_total (λ (l : Local). l.site.address) nat_cmp_total)
    (then_total (on_total (λ (l : Local). l.site.atom) compare_keys_total)
    (on_total (λ (l : Local). l.symbol)
    (then_total (on_total (λ (s : FileSymbol). s.file.id) compare_files_total) (on_total (λ (s : FileSymbol). s.index) nat_cmp_total))))
