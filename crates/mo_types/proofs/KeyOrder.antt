-- The orders of files and of atoms are total ones.
use Rattle.std.specs.Cmp.{IsTotalOrder}
use Rattle.std.proofs.lemmas.Cmp.{nat_cmp_total, on_total, then_total}
use Rattle.mo_types.specs.declared.key.AtomKey.{AtomKey}
use Rattle.mo_types.specs.declared.key.FileId.{FileId}
use Rattle.mo_types.specs.Keys.{compare_files, compare_keys}

pub compare_files_total : IsTotalOrder compare_files
compare_files_total = then_total (on_total (λ (f : FileId). f.position) nat_cmp_total) (on_total (λ (f : FileId). f.member) nat_cmp_total)

pub compare_keys_total : IsTotalOrder compare_keys
compare_keys_total = then_total
    (on_total (λ (k : AtomKey). k.file) compare_files_total)
    (then_total (on_total (λ (k : AtomKey). k.section) nat_cmp_total) (on_total (λ (k : AtomKey). k.offset) nat_cmp_total))
