-- The candidates of files, added one by one.
use Rattle.std.proofs.Common.{◌≡◌, ℕ, ◌+◌, ◌<◌, ◌≤◌, true, false, List, [], ◌∷◌, ◌++◌, length, drop, get_or, refl, sym, ap, ◌∙◌, append_assoc}
use Rattle.std.specs.List.{enumerate_from, filter_map}
use Rattle.std.proofs.lemmas.List.{drop_all, drop_more}
use Rattle.mo_types.specs.Candidates.{is_candidate}
use Rattle.mo_types.specs.declared.loaded.LoadedFile.{LoadedFile}
use Rattle.mo_types.specs.declared.object.Symbol.{Symbol}
use Rattle.literal_merge.proofs.AddingLemmas.{IsAdding, append_none, there}
use Rattle.symbol_winners.specs.Found.{FileCandidate, found_at, found_in, found}

-- those of a file from a place on
unfoldable pub from : LoadedFile → ℕ → List FileCandidate
from file i = filter_map (found_at file) (enumerate_from i (drop i file.object.symbols))

from_there : (file : LoadedFile) (i : ℕ) (symbol : Symbol) → i < length file.object.symbols → symbol ≡ get_or file.object.symbols i symbol → is_candidate file.object.sections symbol ≡ true → from file i ≡ (record { file = file; index = i; symbol = symbol }) ∷ from file (i + 1)
unfolding from found_at
from_there file i symbol low is yes_it = rw (there file.object.symbols i symbol low is, yes_it) refl

from_other : (file : LoadedFile) (i : ℕ) (symbol : Symbol) → i < length file.object.symbols → symbol ≡ get_or file.object.symbols i symbol → is_candidate file.object.sections symbol ≡ false → from file i ≡ from file (i + 1)
unfolding from found_at
from_other file i symbol low is no_it = rw (there file.object.symbols i symbol low is, no_it) refl

from_start : (file : LoadedFile) → from file 0 ≡ found_in file
unfolding from found_in
from_start file = refl

from_end : (file : LoadedFile) (i : ℕ) → length file.object.symbols ≤ i → from file i ≡ []
unfolding from
from_end file i past = rw (drop_all i file.object.symbols past) refl

pub file_start : (before : List FileCandidate) (file : LoadedFile) → IsAdding before before (found_in file) (from file 0)
file_start before file = record { same = ap (λ xs. before ++ xs) (from_start file) }

pub file_add : (before now new : List FileCandidate) (file : LoadedFile) (i : ℕ) (symbol : Symbol) → IsAdding before now (found_in file) (from file i) → i < length file.object.symbols → symbol ≡ get_or file.object.symbols i symbol → is_candidate file.object.sections symbol ≡ true → new ≡ now ++ (record { file = file; index = i; symbol = symbol }) ∷ [] → IsAdding before new (found_in file) (from file (i + 1))
file_add before now new file i symbol adding low is candidate added = record {
  same =
      ap (λ xs. xs ++ from file (i + 1)) added
      ∙ append_assoc now ((record { file = file; index = i; symbol = symbol }) ∷ []) (from file (i + 1))
      ∙ ap (λ xs. now ++ xs) (sym (from_there file i symbol low is candidate))
      ∙ adding.same;
}

pub file_pass : (before now : List FileCandidate) (file : LoadedFile) (i : ℕ) (symbol : Symbol) → IsAdding before now (found_in file) (from file i) → i < length file.object.symbols → symbol ≡ get_or file.object.symbols i symbol → is_candidate file.object.sections symbol ≡ false → IsAdding before now (found_in file) (from file (i + 1))
file_pass before now file i symbol adding low is other = record { same = ap (λ xs. now ++ xs) (sym (from_other file i symbol low is other)) ∙ adding.same }

pub file_end : (before now : List FileCandidate) (file : LoadedFile) (i : ℕ) → IsAdding before now (found_in file) (from file i) → length file.object.symbols ≤ i → now ≡ before ++ found_in file
file_end before now file i adding past = sym (append_none now) ∙ ap (λ xs. now ++ xs) (sym (from_end file i past)) ∙ adding.same

pub ruleset files_found = (file_start, file_add, file_pass, file_end)

-- ---- files

first_file : (file : LoadedFile) (rest : List LoadedFile) → found (file ∷ rest) ≡ found_in file ++ found rest
unfolding found
first_file file rest = refl

no_files : found [] ≡ []
unfolding found
no_files = refl

pub all_start : (files : List LoadedFile) (now : List FileCandidate) → now ≡ [] → IsAdding [] now (found files) (found (drop 0 files))
all_start files now none = record { same = ap (λ xs. xs ++ found files) none }

pub all_add : (now new : List FileCandidate) (files : List LoadedFile) (i : ℕ) (file : LoadedFile) → IsAdding [] now (found files) (found (drop i files)) → i < length files → file ≡ get_or files i file → new ≡ now ++ found_in file → IsAdding [] new (found files) (found (drop (i + 1) files))
all_add now new files i file adding low is added = record {
  same =
      ap (λ xs. xs ++ found (drop (i + 1) files)) added
      ∙ append_assoc now (found_in file) (found (drop (i + 1) files))
      ∙ ap (λ xs. now ++ xs) (sym (ap found (there files i file low is) ∙ first_file file (drop (i + 1) files)))
      ∙ adding.same;
}

pub all_end : (now : List FileCandidate) (files : List LoadedFile) (i : ℕ) → IsAdding [] now (found files) (found (drop i files)) → length files ≤ i → now ≡ found files
all_end now files i adding past = sym (append_none now) ∙ ap (λ xs. now ++ xs) (sym (ap found (drop_all i files past) ∙ no_files)) ∙ adding.same

pub ruleset all_found = (all_start, all_add, all_end)
