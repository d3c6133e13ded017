-- The two files of a duplicate are those of the two least words of its name.
use Rattle.std.proofs.Common.{◌≡◌, ℕ, suc, ◌+◌, ◌-◌, ◌*◌, ◌<◌, ◌≤◌, ◌⊎◌, ◌^◌, Bool, true, false, List, [], ◌∷◌, ◌++◌, length, map, filter, All, Contains, refl, sym, ap, subst, ◌∙◌, inl, inr, arith, Some}
use Rattle.std.specs.Prelude.{fold, min}
use Rattle.std.specs.List.{AllPairs, enumerate_from, filter_map}
use Rattle.std.specs.declared.cmp.Ordering.TheVariants.{Less}
use Rattle.std.specs.Str.{bytes_eq}
use Rattle.std.proofs.Math.Nat.{le-min, min-eq_left, min-eq_right}
use Rattle.std.proofs.lemmas.Bool.{cases_lt, eq-eqb, eqb-true, false≢true}
use Rattle.std.proofs.lemmas.List.Elements.{All-contains}
use Rattle.list_lemmas.proofs.Members.{In, Contains_from_in, from_filter, from_flat, from_map, in_either, in_filter, in_from_Contains, in_map}
use Rattle.mo_types.specs.Candidates.{Candidate, candidate_at, candidate_word, candidates, candidates_for, candidates_of, is_candidate, least, no_word, strength, word_of}
use Rattle.mo_types.specs.Keys.{compare_files}
use Rattle.mo_types.specs.Loaded.{IsBefore, IsWholeFile, IsWholeLoaded}
use Rattle.mo_types.specs.declared.key.FileId.{FileId}
use Rattle.mo_types.specs.declared.loaded.Loaded.{Loaded}
use Rattle.mo_types.specs.declared.loaded.LoadedFile.{LoadedFile}
use Rattle.mo_types.specs.declared.object.Symbol.{Symbol}
use Rattle.symbol_winners.specs.Duplicates.{duplicate_of, first_two, is_strong, strong_for}
use Rattle.symbol_winners.specs.Laws.{AreTwoLeast, HasRoom}
use Rattle.symbol_winners.proofs.WordLemmas.{before_file, by_strength, by_symbol}

-- ---- candidates rise, by file and then by symbol

-- the first of two stands in an earlier file, or in the same one before the second
abbrev Precedes : Candidate → Candidate → Type 0
Precedes a b = (compare_files a.file b.file ≡ Less) ⊎ ((a.file ≡ b.file) × (a.index < b.index))

-- each stands before all behind it
abbrev Rises : List Candidate → Type 0
Rises [] = Unit {0}
Rises (c ∷ cs) = ((d : Candidate) → In d cs → Precedes c d) × Rises cs

-- one of a file's symbols from an index on
record IsFrom (file : LoadedFile) (i n : ℕ) (c : Candidate) : Type 0 where
  pub file_is : c.file ≡ file.id
  pub from : i ≤ c.index
  pub below : c.index < i + n

in_file : (file : LoadedFile) (i : ℕ) (symbols : List Symbol) (c : Candidate) → In c (filter_map (candidate_at file) (enumerate_from i symbols)) → IsFrom file i (length symbols) c
unfolding candidate_at
in_file file i [] c h = absurd h
in_file file i (s ∷ ss) c h = by (in_file file (i + 1) ss c) (is_candidate file.object.sections s) refl h
  where
    more : IsFrom file (i + 1) (length ss) c → IsFrom file i (length (s ∷ ss)) c
    more later =
        let from : i + 1 ≤ c.index = later.from in
        let below : c.index < i + 1 + length ss = later.below in
        record { file_is = later.file_is; from = omega (arith, from); below = omega (arith, below) }

    by : (In c (filter_map (candidate_at file) (enumerate_from (i + 1) ss)) → IsFrom file (i + 1) (length ss) c) → (b : Bool) → is_candidate file.object.sections s ≡ b → In c (filter_map (candidate_at file) (enumerate_from i (s ∷ ss))) → IsFrom file i (length (s ∷ ss)) c
    by later true e h = elim (rw e at h) [
      | inl same ↦
          let here : i ≡ c.index = ap (λ (x : Candidate). x.index) same in
          record { file_is = sym (ap (λ (x : Candidate). x.file) same); from = omega (arith, here); below = omega (arith, here) }
      | inr there ↦ more (later there)
    ]
    by later false e h = more (later (rw e at h))

rises_in : (file : LoadedFile) (i : ℕ) (symbols : List Symbol) → Rises (filter_map (candidate_at file) (enumerate_from i symbols))
unfolding candidate_at
rises_in file i [] = tt
rises_in file i (s ∷ ss) = by (rises_in file (i + 1) ss) (is_candidate file.object.sections s) refl
  where
    before : (d : Candidate) → In d (filter_map (candidate_at file) (enumerate_from (i + 1) ss)) → Precedes (record { file = file.id; index = i; symbol = s }) d
    before d h =
        let later : IsFrom file (i + 1) (length ss) d = in_file file (i + 1) ss d h in
        let from : i + 1 ≤ d.index = later.from in
        inr (sym later.file_is, omega (arith, from))

    by : Rises (filter_map (candidate_at file) (enumerate_from (i + 1) ss)) → (b : Bool) → is_candidate file.object.sections s ≡ b → Rises (filter_map (candidate_at file) (enumerate_from i (s ∷ ss)))
    by rest true e = rw e (before, rest)
    by rest false e = rw e rest

rises_join : (xs ys : List Candidate) → Rises xs → Rises ys → ((c d : Candidate) → In c xs → In d ys → Precedes c d) → Rises (xs ++ ys)
rises_join [] ys first second between = second
rises_join (x ∷ xs) ys first second between = (before, rises_join xs ys first.1 second (λ c d h k. between c d (inr h) k))
  where
    before : (d : Candidate) → In d (xs ++ ys) → Precedes x d
    before d h = elim (in_either xs ys d h) [
      | inl here ↦ first.0 d here
      | inr there ↦ between x d (inl refl) there
    ]

rises_all : (files : List LoadedFile) → AllPairs (λ a b. IsBefore a.id b.id) files → Rises (candidates files)
unfolding candidates candidates_of
rises_all [] rising = tt
rises_all (file ∷ files) rising =
    rises_join (candidates_of file) (candidates files) (rises_in file 0 file.object.symbols)
    (rises_all files (λ i j d less within. rising (suc i) (suc j) d (omega (arith, less)) (omega (arith, within))))
    between
  where
    between : (c d : Candidate) → In c (candidates_of file) → In d (candidates files) → Precedes c d
    between c d h k =
        let other = from_flat candidates_of files d k in
        let place : Contains files other.0 = Contains_from_in files other.0 other.1 in
        let low : place.0 < length files = place.1 in
        let before : compare_files file.id other.0.id ≡ Less = subst (λ (f : LoadedFile). compare_files file.id f.id ≡ Less) place.2 (rising 0 (suc place.0) other.0 (omega arith) (omega (arith, low))) in
        let here : c.file ≡ file.id = (in_file file 0 file.object.symbols c h).file_is in
        let there : d.file ≡ other.0.id = (in_file other.0 0 other.0.object.symbols d other.2).file_is in
        inl (rw (here, there) before)

rises_filter : (t : Candidate → Bool) (cs : List Candidate) → Rises cs → Rises (filter t cs)
rises_filter t [] rises = tt
rises_filter t (c ∷ cs) rises = by (rises_filter t cs rises.1) (t c) refl
  where
    by : Rises (filter t cs) → (b : Bool) → t c ≡ b → Rises (filter t (c ∷ cs))
    by rest true e = rw e ((λ d h. rises.0 d (from_filter t cs d h).0), rest)
    by rest false e = rw e rest

-- ---- and so do the words of strong ones

-- a strong one, whose numbers fit the parts of its word
record IsStrong (c : Candidate) : Type 0 where
  pub member : c.file.member < 2 ^ 20
  pub index : c.index < 2 ^ 24
  pub strength_is : strength c.symbol ≡ 0

word_less : (a b : Candidate) → IsStrong a → IsStrong b → Precedes a b → candidate_word a < candidate_word b
word_less a b x y (inl file) = before_file a b x.member y.member x.index y.index (rw (x.strength_is, y.strength_is) refl) file
word_less a b x y (inr symbol) = by_symbol a b (rw (x.strength_is, y.strength_is) refl) symbol.0 symbol.1

-- the file of a candidate
of_file : (files : List LoadedFile) (c : Candidate) → In c (candidates files) → (file : LoadedFile) × Contains files file × IsFrom file 0 (length file.object.symbols) c
unfolding candidates candidates_of
of_file files c h =
    let file = from_flat candidates_of files c h in
    (file.0, Contains_from_in files file.0 file.1, in_file file.0 0 file.0.object.symbols c file.2)

strong_one : (files : List LoadedFile) (name : List ℕ) (c : Candidate) → All IsWholeFile files → In c (strong_for files name) → IsStrong c
unfolding strong_for candidates_for
strong_one files name c whole h =
    let strong = from_filter is_strong (filter (λ (candidate : Candidate). bytes_eq name candidate.symbol.name) (candidates files)) c h in
    let named = from_filter (λ (candidate : Candidate). bytes_eq name candidate.symbol.name) (candidates files) c strong.0 in
    let file = of_file files c named.0 in
    let one : IsWholeFile file.0 = All-contains IsWholeFile files file.0 whole file.1 in
    let few : length file.0.object.symbols < 2 ^ 24 = one.few_symbols in
    let below : c.index < 0 + length file.0.object.symbols = file.2.below in
    record {
      member = rw file.2.file_is one.member;
      index = omega (arith, few, below);
      strength_is = eqb-true (strength c.symbol) 0 strong.1;
    }

two_of : (cs : List Candidate) (pair : FileId × FileId) → ((c : Candidate) → In c cs → IsStrong c) → Rises cs → first_two cs ≡ Some pair → (first : Candidate) × (second : Candidate) × AreTwoLeast cs first second × (pair ≡ (first.file, second.file))
two_of [] pair strong rises is = cc
two_of (a ∷ []) pair strong rises is = cc
two_of (a ∷ b ∷ cs) pair strong rises is = (
  a,
  b,
  record {
    first_of = Contains_from_in (a ∷ b ∷ cs) a (inl refl);
    second_of = Contains_from_in (a ∷ b ∷ cs) b (inr (inl refl));
    apart = word_less a b (strong a (inl refl)) (strong b (inr (inl refl))) (rises.0 b (inl refl));
    least = λ other there. no_less other (in_from_Contains (a ∷ b ∷ cs) other there);
  },
  let e : Some (a.file, b.file) ≡ Some pair = is in cc,
)
  where
    no_less : (other : Candidate) → In other (a ∷ b ∷ cs) → (other ≡ a) ⊎ (candidate_word b ≤ candidate_word other)
    no_less other (inl same) = inl (sym same)
    no_less other (inr (inl same)) = let e : candidate_word b ≡ candidate_word other = ap candidate_word same in inr (omega (arith, e))
    no_less other (inr (inr there)) =
        let less : candidate_word b < candidate_word other = word_less b other (strong b (inr (inl refl))) (strong other (inr (inr there))) (rises.1.0 other there) in
        inr (omega (arith, less))

pub two_least : (loaded : Loaded) (name : List ℕ) (pair : FileId × FileId) → IsWholeLoaded loaded → duplicate_of loaded.files name ≡ Some pair → (first : Candidate) × (second : Candidate) × AreTwoLeast (strong_for loaded.files name) first second × (pair ≡ (first.file, second.file))
unfolding duplicate_of strong_for candidates_for
two_least loaded name pair whole twice =
    two_of (strong_for loaded.files name) pair (λ c h. strong_one loaded.files name c whole.files h)
    (rises_filter is_strong (filter (λ (candidate : Candidate). bytes_eq name candidate.symbol.name) (candidates loaded.files))
    (rises_filter (λ (candidate : Candidate). bytes_eq name candidate.symbol.name) (candidates loaded.files) (rises_all loaded.files whole.rises)))
    twice

-- ---- the first of them has the word in which the race ends

fold_stays : (ws : List ℕ) (start w : ℕ) → start ≡ w → ((v : ℕ) → In v ws → w ≤ v) → fold min start ws ≡ w
fold_stays [] start w is each = is
fold_stays (v ∷ ws) start w is each =
    let low : w ≤ v = each v (inl refl) in
    fold_stays ws (min start v) w (min-eq_left (omega (arith, low, is)) ∙ is) (λ u k. each u (inr k))

fold_least : (ws : List ℕ) (start w : ℕ) → In w ws → w ≤ start → ((v : ℕ) → In v ws → w ≤ v) → fold min start ws ≡ w
fold_least [] start w h low each = absurd h
fold_least (v ∷ ws) start w (inl is) low each = fold_stays ws (min start v) w (min-eq_right (omega (arith, low, is)) ∙ is) (λ u k. each u (inr k))
fold_least (v ∷ ws) start w (inr h) low each = fold_least ws (min start v) w h (le-min low (each v (inl refl))) (λ u k. each u (inr k))

room : (files : List LoadedFile) (c : Candidate) → All IsWholeFile files → All (λ file. file.id.position < 2 ^ 16) files → In c (candidates files) → HasRoom c
room files c whole positions h =
    let file = of_file files c h in
    let one : IsWholeFile file.0 = All-contains IsWholeFile files file.0 whole file.1 in
    let few : length file.0.object.symbols < 2 ^ 24 = one.few_symbols in
    let below : c.index < 0 + length file.0.object.symbols = file.2.below in
    record {
      position = rw file.2.file_is (All-contains (λ (f : LoadedFile). f.id.position < 2 ^ 16) files file.0 positions file.1);
      member = rw file.2.file_is one.member;
      index = omega (arith, few, below);
    }

low_word : (c : Candidate) → HasRoom c → strength c.symbol ≡ 0 → candidate_word c ≤ no_word
unfolding word_of
low_word c has strong = by (strength c.symbol) c.file.position c.file.member c.index strong has.position has.member has.index
  where
    by : (s p m i : ℕ) → s ≡ 0 → p < 2 ^ 16 → m < 2 ^ 20 → i < 2 ^ 24 → s * 2 ^ 60 + p * 2 ^ 44 + m * 2 ^ 24 + i ≤ 2 ^ 64 - 1
    by s p m i e hp hm hi = omega arith

pub first_word : (loaded : Loaded) (name : List ℕ) (first second : Candidate) → IsWholeLoaded loaded → All (λ file. file.id.position < 2 ^ 16) loaded.files → AreTwoLeast (strong_for loaded.files name) first second → candidate_word first ≡ least loaded.files name
unfolding least strong_for candidates_for
first_word loaded name first second whole positions two =
    sym (fold_least (map candidate_word named) no_word (candidate_word first) (in_map candidate_word named first among.0) (low_word first (has first among.0) none) each)
  where
    named : List Candidate
    named = filter (λ (candidate : Candidate). bytes_eq name candidate.symbol.name) (candidates loaded.files)

    among : In first named × (is_strong first ≡ true)
    among = from_filter is_strong named first (in_from_Contains (filter is_strong named) first two.first_of)

    none : strength first.symbol ≡ 0
    none = eqb-true (strength first.symbol) 0 among.1

    has : (c : Candidate) → In c named → HasRoom c
    has c h = room loaded.files c whole.files positions (from_filter (λ (candidate : Candidate). bytes_eq name candidate.symbol.name) (candidates loaded.files) c h).0

    upto : (c : Candidate) → In c named → (b : Bool) → is_strong c ≡ b → candidate_word first ≤ candidate_word c
    upto c h true strong = elim (two.least c (Contains_from_in (filter is_strong named) c (in_filter is_strong named c h strong))) [
      | inl same ↦ let e : candidate_word first ≡ candidate_word c = sym (ap candidate_word same) in omega (arith, e)
      | inr no_less ↦ let apart : candidate_word first < candidate_word second = two.apart in omega (arith, apart, no_less)
    ]
    upto c h false weak =
        let some : 0 < strength c.symbol = elim (cases_lt 0 (strength c.symbol)) [
          | inl more ↦ more
          | inr most ↦ absurd (false≢true (sym weak ∙ eq-eqb (strength c.symbol) 0 (omega (arith, most))))
        ] in
        let less : candidate_word first < candidate_word c = by_strength first c (has first among.0) (has c h) (omega (arith, some, none)) in
        omega (arith, less)

    each : (v : ℕ) → In v (map candidate_word named) → candidate_word first ≤ v
    each v h =
        let c = from_map candidate_word named v h in
        let low : candidate_word first ≤ candidate_word c.0 = upto c.0 c.1 (is_strong c.0) refl in
        let e : candidate_word c.0 ≡ v = c.2 in
        omega (arith, low, e)
