-- The words after the offers of files, one symbol after the other.
use Rattle.std.proofs.Common.{◌≡◌, ℕ, ◌+◌, ◌<◌, ◌≤◌, Bool, true, false, List, [], ◌∷◌, ◌++◌, Some, None, length, drop, get_or, map, min, position, set, refl, sym, ap, ◌∙◌, arith, append-nil}
use Rattle.std.specs.List.{enumerate_from, flat_map}
use Rattle.std.specs.Str.{bytes_eq}
use Rattle.std.proofs.lemmas.List.{drop_all, drop_more, get_or-map}
use Rattle.mo_types.specs.Candidates.{is_candidate, word_of}
use Rattle.mo_types.specs.declared.loaded.LoadedFile.{LoadedFile}
use Rattle.mo_types.specs.declared.object.Symbol.{Symbol}
use Rattle.name_ids.specs.Names.{numbers_in, numbers_of}
use Rattle.race_core.specs.Run.{run}
use Rattle.race_core.proofs.Runs.{length-run, run-append, run-nil, run-one}
use Rattle.name_offers.proofs.OfferLemmas.{a_candidate, candidate_external, from, from_end, from_more, from_start, no_candidate, no_name, number_there}
use Rattle.name_offers.specs.inner.Offering.{offers_at, offers_in}

-- ---- one symbol

pub passed : (names : List (List ℕ)) (file : LoadedFile) (index : ℕ) (symbol : Symbol) (words : List ℕ) → is_candidate file.object.sections symbol ≡ false → words ≡ run words (offers_at names file ((index, symbol) ∷ []))
passed names file index symbol words is = rw (no_candidate names file index symbol is) (run-nil words)

pub unknown : (names : List (List ℕ)) (file : LoadedFile) (index : ℕ) (symbol : Symbol) (words : List ℕ) → position (bytes_eq symbol.name) names ≡ None → words ≡ run words (offers_at names file ((index, symbol) ∷ []))
unknown names file index symbol words none = rw (no_name names file index symbol none) (run-nil words)

pub offered : (names : List (List ℕ)) (file : LoadedFile) (index id word : ℕ) (symbol : Symbol) (words : List ℕ) → is_candidate file.object.sections symbol ≡ true → position (bytes_eq symbol.name) names ≡ Some id → id < length words → word ≡ min (get_or words id 0) (word_of file.id index symbol) → set words id word ≡ run words (offers_at names file ((index, symbol) ∷ []))
offered names file index id word symbol words is there low least =
    ap (λ (w : ℕ). set words id w) least
    ∙ run-one words id (word_of file.id index symbol) low
    ∙ ap (run words) (sym (a_candidate names file index id symbol is there))

pub ruleset symbols = (passed, unknown, offered)

-- ---- the symbols of a file

-- with the offers of the rest of the file there are those of the whole file
pub record IsRunning (names : List (List ℕ)) (file : LoadedFile) (i : ℕ) (first now : List ℕ) : Type 0 where
  pub many : length now ≡ length first
  pub words : run now (from names file i) ≡ run first (offers_in names file)

pub file_start : (names : List (List ℕ)) (file : LoadedFile) (words : List ℕ) → IsRunning names file 0 words words
file_start names file words = record { many = refl; words = ap (run words) (from_start names file) }

pub file_more : (names : List (List ℕ)) (file : LoadedFile) (i : ℕ) (symbol : Symbol) (first now next : List ℕ) → IsRunning names file i first now → i < length file.object.symbols → symbol ≡ get_or file.object.symbols i symbol → next ≡ run now (offers_at names file ((i, symbol) ∷ [])) → IsRunning names file (i + 1) first next
file_more names file i symbol first now next so low is ran = record {
  many = ap length ran ∙ length-run now (offers_at names file ((i, symbol) ∷ [])) ∙ so.many;
  words =
      ap (λ (ws : List ℕ). run ws (from names file (i + 1))) ran
      ∙ run-append now (offers_at names file ((i, symbol) ∷ [])) (from names file (i + 1))
      ∙ ap (run now) (sym (from_more names file i symbol low is))
      ∙ so.words;
}

pub file_end : (names : List (List ℕ)) (file : LoadedFile) (i : ℕ) (first now : List ℕ) → IsRunning names file i first now → length file.object.symbols ≤ i → now ≡ run first (offers_in names file)
file_end names file i first now so past = run-nil now ∙ ap (run now) (sym (from_end names file i past)) ∙ so.words

pub ruleset files = (file_start, file_more, file_end, number_there)

-- ---- files

abbrev pub offers_from : List (List ℕ) → List LoadedFile → ℕ → List (ℕ × ℕ)
offers_from names files i = flat_map (offers_in names) (drop i files)

pub record AreRunning (names : List (List ℕ)) (files : List LoadedFile) (i : ℕ) (first now : List ℕ) : Type 0 where
  pub many : length now ≡ length first
  pub words : run now (offers_from names files i) ≡ run first (flat_map (offers_in names) files)

pub files_start : (names : List (List ℕ)) (files : List LoadedFile) (words : List ℕ) → AreRunning names files 0 words words
files_start names files words = record { many = refl; words = refl }

pub files_more : (names : List (List ℕ)) (files : List LoadedFile) (i : ℕ) (file : LoadedFile) (first now next : List ℕ) → AreRunning names files i first now → i < length files → file ≡ get_or files i file → next ≡ run now (offers_in names file) → AreRunning names files (i + 1) first next
files_more names files i file first now next so low is ran = record {
  many = ap length ran ∙ length-run now (offers_in names file) ∙ so.many;
  words =
      ap (λ (ws : List ℕ). run ws (offers_from names files (i + 1))) ran
      ∙ run-append now (offers_in names file) (offers_from names files (i + 1))
      ∙ ap (λ (fs : List LoadedFile). run now (flat_map (offers_in names) fs)) (sym (drop_more files i file low ∙ ap (λ (f : LoadedFile). f ∷ drop (i + 1) files) (sym is)))
      ∙ so.words;
}

pub files_end : (names : List (List ℕ)) (files : List LoadedFile) (i : ℕ) (first now : List ℕ) → AreRunning names files i first now → length files ≤ i → now ≡ run first (flat_map (offers_in names) files)
files_end names files i first now so past = run-nil now ∙ ap (λ (fs : List LoadedFile). run now (flat_map (offers_in names) fs)) (sym (drop_all i files past)) ∙ so.words

pub list_there : (names lists : List (List ℕ)) (files : List LoadedFile) (i : ℕ) (file : LoadedFile) (numbers : List ℕ) → lists ≡ numbers_of names files → i < length files → file ≡ get_or files i file → numbers ≡ get_or lists i [] → numbers ≡ numbers_in names file
unfolding numbers_of
list_there names lists files i file numbers are low is at =
    at ∙ ap (λ (ns : List (List ℕ)). get_or ns i []) are ∙ get_or-map (numbers_in names) files i file [] low ∙ ap (numbers_in names) (sym is)

pub ruleset lists = (files_start, files_more, files_end, list_there)
