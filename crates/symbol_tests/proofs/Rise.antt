-- Lists whose neighbours rise.
use Rattle.std.proofs.Common.{◌≡◌, ℕ, ◌-◌, ◌<◌, ◌≤◌, List, length, get_or, ap, sym, ◌∙◌, arith}
use Rattle.std.specs.List.{AllAdjacentBelow, AllPairs}
use Rattle.std.specs.Ordering.{on}
use Rattle.std.specs.declared.cmp.Ordering.{Ordering}
use Rattle.std.specs.declared.cmp.Ordering.TheVariants.{Less}
use Rattle.std.proofs.lemmas.Cmp.{on_total}
use Rattle.std.proofs.lemmas.List.{get_or_default}
use Rattle.atom_index.proofs.Keys.{rises}
use Rattle.list_lemmas.proofs.Rising.{rising_at}
use Rattle.mo_types.specs.Keys.{compare_files}
use Rattle.mo_types.specs.Loaded.{IsBefore}
use Rattle.mo_types.specs.declared.loaded.LoadedFile.{LoadedFile}
use Rattle.mo_types.proofs.KeyOrder.{compare_files_total}

pub apart : {X : Type 0} (R : X → X → Ordering) (xs : List X) (i : ℕ) (a b d : X) → 1 ≤ i → i < length xs → Less ≡ R (get_or xs (i - 1) a) (get_or xs i b) → R (get_or xs (i - 1) d) (get_or xs i d) ≡ Less
apart {X = X} R xs i a b d low high less =
    let first : get_or xs (i - 1) d ≡ get_or xs (i - 1) a = get_or_default xs (i - 1) d a (omega arith) in
    let second : get_or xs i d ≡ get_or xs i b = get_or_default xs i d b high in
    ap (λ (x : X). R x (get_or xs i d)) first ∙ (ap (λ (x : X). R (get_or xs (i - 1) a) x) second ∙ sym less)

pub files_before : (files : List LoadedFile) (i : ℕ) → AllAdjacentBelow (λ (a : LoadedFile) (b : LoadedFile). compare_files a.id b.id ≡ Less) files i → length files ≤ i → AllPairs (λ (a : LoadedFile) (b : LoadedFile). IsBefore a.id b.id) files
files_before files i h past = λ j k d low high.
    rising_at (on (λ (file : LoadedFile). file.id) compare_files) files j k d
    (rises (on_total (λ (file : LoadedFile). file.id) compare_files_total) files (λ n e within. h n e (omega arith))) low high
