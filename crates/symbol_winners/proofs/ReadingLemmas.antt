-- Whole files are one list, in whatever order they were read.
use Rattle.std.proofs.Common.{◌≡◌, List, ap}
use Rattle.std.specs.Ordering.{on}
use Rattle.std.proofs.lemmas.Cmp.{on_total}
use Rattle.list_lemmas.proofs.Members.{Contains_from_in, in_from_Contains}
use Rattle.list_lemmas.proofs.Rising.{rising_same}
use Rattle.mo_types.proofs.KeyOrder.{compare_files_total}
use Rattle.mo_types.specs.Keys.{compare_files}
use Rattle.mo_types.specs.Loaded.{IsWholeLoaded}
use Rattle.mo_types.specs.declared.loaded.Loaded.{Loaded}
use Rattle.mo_types.specs.declared.loaded.LoadedFile.{LoadedFile}
use Rattle.symbol_winners.proofs.OneListLemmas.{rising_from_pairs}
use Rattle.symbol_winners.specs.Laws.{AreSameFiles}

same_list : (a b : Loaded) → IsWholeLoaded a → IsWholeLoaded b → AreSameFiles a b → a.files ≡ b.files
same_list a b p q same =
    rising_same (on_total (λ (file : LoadedFile). file.id) compare_files_total) a.files b.files
    (rising_from_pairs (on (λ (file : LoadedFile). file.id) compare_files) a.files p.rises)
    (rising_from_pairs (on (λ (file : LoadedFile). file.id) compare_files) b.files q.rises)
    (λ file h. in_from_Contains b.files file ((same file).0 (Contains_from_in a.files file h)))
    (λ file h. in_from_Contains a.files file ((same file).1 (Contains_from_in b.files file h)))

pub same_files : (a b : Loaded) → IsWholeLoaded a → IsWholeLoaded b → AreSameFiles a b → a ≡ b
same_files a b p q same = one a b (same_list a b p q same)
  where
    one : (a b : Loaded) → a.files ≡ b.files → a ≡ b
    one a b e = ap (λ (files : List LoadedFile). record { files = files }) e
