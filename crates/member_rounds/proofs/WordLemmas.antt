-- What the words of names tell of their candidates.
use Rattle.std.proofs.Common.{◌≡◌, ℕ, ◌+◌, ◌*◌, ◌-◌, ◌<◌, ◌≤◌, ◌^◌, ◌==◌, ◌++◌, Bool, true, false, not, min, List, [], ◌∷◌, All, length, map, filter, take, get_or, refl, sym, ap, subst, ◌∙◌, inl, inr, arith}
use Rattle.std.specs.List.{enumerate_from, filter_map, fold, list_any}
use Rattle.std.specs.Str.{bytes_eq}
use Rattle.std.proofs.lemmas.Bool.{ne_eqb}
use Rattle.std.proofs.lemmas.List.{take_all, take_more}
use Rattle.std.proofs.lemmas.List.Elements.{All-cons, All-nil, All-append}
use Rattle.list_lemmas.proofs.Members.{In, any_true, from_flat, in_filter, in_map}
use Rattle.mo_types.specs.Candidates.{Candidate, candidate_at, candidate_word, candidates, candidates_for, candidates_of, is_candidate, least, no_word, strength, word_of}
use Rattle.mo_types.specs.Loaded.{IsWholeFile}
use Rattle.mo_types.specs.declared.loaded.LoadedFile.{LoadedFile}
use Rattle.mo_types.specs.declared.object.Symbol.{Symbol}
use Rattle.mo_types.specs.declared.object.SymbolKind.{SymbolKind}
use Rattle.mo_types.specs.declared.object.SymbolKind.TheVariants.{Absolute, Common, Defined, Passed, Undefined}
use Rattle.input_files.proofs.EachLemmas.{all_has}
use Rattle.member_rounds.specs.Rounds.{has_candidate}

-- ---- the words of candidates are less than that of a name without one

low_strength : (symbol : Symbol) → strength symbol ≤ 2
unfolding strength
low_strength symbol = by symbol.kind symbol.weak_def refl refl
  where
    by : (kind : SymbolKind) (weak : Bool) → symbol.kind ≡ kind → symbol.weak_def ≡ weak → strength symbol ≤ 2
    by (Common align size) weak k w = rw k (omega arith)
    by Undefined true k w = rw (k, w) (omega arith)
    by Undefined false k w = rw (k, w) (omega arith)
    by (Defined section value) true k w = rw (k, w) (omega arith)
    by (Defined section value) false k w = rw (k, w) (omega arith)
    by Absolute true k w = rw (k, w) (omega arith)
    by Absolute false k w = rw (k, w) (omega arith)
    by Passed true k w = rw (k, w) (omega arith)
    by Passed false k w = rw (k, w) (omega arith)

low_sum : (s p m i : ℕ) → s ≤ 2 → p < 2 ^ 16 → m < 2 ^ 20 → i < 2 ^ 24 → s * 2 ^ 60 + p * 2 ^ 44 + m * 2 ^ 24 + i < 2 ^ 64 - 1
low_sum s p m i hs hp hm hi = omega (arith, hs, hp, hm, hi)

-- one of a file's symbols from an index on
record IsFrom (file : LoadedFile) (i n : ℕ) (c : Candidate) : Type 0 where
  pub file_is : c.file ≡ file.id
  pub below : c.index < i + n

in_file : (file : LoadedFile) (i : ℕ) (symbols : List Symbol) (c : Candidate) → In c (filter_map (candidate_at file) (enumerate_from i symbols)) → IsFrom file i (length symbols) c
unfolding candidate_at
in_file file i [] c h = absurd h
in_file file i (s ∷ ss) c h = by (in_file file (i + 1) ss c) (is_candidate file.object.sections s) refl h
  where
    more : IsFrom file (i + 1) (length ss) c → IsFrom file i (length (s ∷ ss)) c
    more later = let below : c.index < i + 1 + length ss = later.below in record { file_is = later.file_is; below = omega (arith, below) }

    by : (In c (filter_map (candidate_at file) (enumerate_from (i + 1) ss)) → IsFrom file (i + 1) (length ss) c) → (b : Bool) → is_candidate file.object.sections s ≡ b → In c (filter_map (candidate_at file) (enumerate_from i (s ∷ ss))) → IsFrom file i (length (s ∷ ss)) c
    by later true e h = elim (rw e at h) [
      | inl same ↦ let here : i ≡ c.index = ap (λ (x : Candidate). x.index) same in record { file_is = sym (ap (λ (x : Candidate). x.file) same); below = omega (arith, here) }
      | inr there ↦ more (later there)
    ]
    by later false e h = more (later (rw e at h))

low_word : (files : List LoadedFile) (c : Candidate) → All IsWholeFile files → All (λ file. file.id.position < 2 ^ 16) files → In c (candidates files) → candidate_word c < no_word
unfolding candidates candidates_of word_of
low_word files c whole low there =
    let of = from_flat candidates_of files c there in
    let from : IsFrom of.0 0 (length of.0.object.symbols) c = in_file of.0 0 of.0.object.symbols c of.2 in
    let one : IsWholeFile of.0 = all_has IsWholeFile files of.0 whole of.1 in
    let position : of.0.id.position < 2 ^ 16 = all_has (λ (file : LoadedFile). file.id.position < 2 ^ 16) files of.0 low of.1 in
    let few : length of.0.object.symbols < 2 ^ 24 = one.few_symbols in
    let below : c.index < 0 + length of.0.object.symbols = from.below in
    let index : c.index < 2 ^ 24 = omega (arith, few, below) in
    low_sum (strength c.symbol) c.file.position c.file.member c.index (low_strength c.symbol) (rw from.file_is position) (rw from.file_is one.member) index

-- ---- the least of some words

fold_below : (words : List ℕ) (start bound : ℕ) → start < bound → fold min start words < bound
fold_below [] start bound low = low
fold_below (w ∷ words) start bound low = fold_below words (min start w) bound (omega (arith, low))

fold_low : (words : List ℕ) (start bound w : ℕ) → In w words → w < bound → fold min start words < bound
fold_low [] start bound w there low = absurd there
fold_low (v ∷ words) start bound w (inl same) low = fold_below words (min start v) bound (omega (arith, same, low))
fold_low (v ∷ words) start bound w (inr there) low = fold_low words (min start v) bound w there low

no_filter : {X : Type 0} (p : X → Bool) (xs : List X) → list_any p xs ≡ false → filter p xs ≡ []
no_filter p [] none = refl
no_filter p (x ∷ xs) none = by (p x) refl (no_filter p xs)
  where
    by : (b : Bool) → p x ≡ b → (list_any p xs ≡ false → filter p xs ≡ []) → filter p (x ∷ xs) ≡ []
    by true e rest = absurd (let s : true ≡ false = rw e at none in cc)
    by false e rest = rw e (rest (rw e at none))

-- a name's least word tells whether it has a candidate
pub word_tells : (files : List LoadedFile) (name : List ℕ) → All IsWholeFile files → All (λ file. file.id.position < 2 ^ 16) files → not (least files name == no_word) ≡ has_candidate files name
unfolding least candidates_for has_candidate
word_tells files name whole low = by (list_any (λ (c : Candidate). bytes_eq name c.symbol.name) (candidates files)) refl
  where
    named : List Candidate
    named = filter (λ (c : Candidate). bytes_eq name c.symbol.name) (candidates files)

    differs : least files name < no_word → not (least files name == no_word) ≡ true
    differs less = let e : (least files name == no_word) ≡ false = ne_eqb (least files name) no_word (λ same. omega (arith, less, same)) in rw e refl

    by : (b : Bool) → list_any (λ (c : Candidate). bytes_eq name c.symbol.name) (candidates files) ≡ b → not (least files name == no_word) ≡ list_any (λ (c : Candidate). bytes_eq name c.symbol.name) (candidates files)
    by true e =
        let found = any_true (λ (c : Candidate). bytes_eq name c.symbol.name) (candidates files) e in
        let there : In (candidate_word found.0) (map candidate_word named) = in_map candidate_word named found.0 (in_filter (λ (c : Candidate). bytes_eq name c.symbol.name) (candidates files) found.0 found.1 found.2) in
        differs (fold_low (map candidate_word named) no_word no_word (candidate_word found.0) there (low_word files found.0 whole low found.1)) ∙ sym e
    by false e = rw (no_filter (λ (c : Candidate). bytes_eq name c.symbol.name) (candidates files) e, e) refl

-- ---- positions, file by file

pub record AreRead (files : List LoadedFile) (i : ℕ) : Type 0 where
  pub low : All (λ file. file.id.position < 2 ^ 16) (take i files)

pub read_start : (files : List LoadedFile) → AreRead files 0
read_start files = record { low = All-nil (λ (file : LoadedFile). file.id.position < 2 ^ 16) }

pub read_more : (files : List LoadedFile) (i : ℕ) (file : LoadedFile) → AreRead files i → i < length files → file ≡ get_or files i file → file.id.position < 2 ^ 16 → AreRead files (i + 1)
read_more files i file so within is low = record {
  low = subst (λ (fs : List LoadedFile). All (λ (f : LoadedFile). f.id.position < 2 ^ 16) fs) (sym (take_more files i file within ∙ ap (λ (f : LoadedFile). take i files ++ f ∷ []) (sym is)))
      (All-append (λ (f : LoadedFile). f.id.position < 2 ^ 16) (take i files) (file ∷ []) so.low (All-cons (λ (f : LoadedFile). f.id.position < 2 ^ 16) file [] low (All-nil (λ (f : LoadedFile). f.id.position < 2 ^ 16))));
}

pub read_end : (files : List LoadedFile) (i : ℕ) → AreRead files i → length files ≤ i → All (λ file. file.id.position < 2 ^ 16) files
read_end files i so past = subst (λ (fs : List LoadedFile). All (λ (f : LoadedFile). f.id.position < 2 ^ 16) fs) (take_all i files past) so.low

pub ruleset positions = (read_start, read_more, read_end)
