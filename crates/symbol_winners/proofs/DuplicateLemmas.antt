-- What a table of the first two strong candidates says of names that two strong definitions have.
use Rattle.std.proofs.Common.{◌≡◌, ℕ, zero, suc, ◌<◌, Bool, true, false, List, [], ◌∷◌, ◌++◌, length, map, filter, get_or, slice_get, Contains, refl, sym, ap, ◌∙◌, inl, arith, Some, None}
use Rattle.std.specs.Prelude.{Option, IsSome}
use Rattle.std.specs.List.{enumerate_from, filter_map}
use Rattle.std.specs.Str.{bytes_eq}
use Rattle.std.proofs.lemmas.List.{map-append, get_or_default}
use Rattle.std.proofs.lemmas.List.Elements.{All-contains}
use Rattle.std.proofs.lemmas.Slice.Eq.{bytes_eq-Decides}
use Rattle.list_lemmas.proofs.Members.{In, Contains_from_in, from_filter}
use Rattle.mo_types.specs.Candidates.{Candidate, candidate_at, candidates, candidates_for, candidates_of, is_candidate}
use Rattle.mo_types.specs.declared.key.FileId.{FileId}
use Rattle.mo_types.specs.declared.loaded.LoadedFile.{LoadedFile}
use Rattle.mo_types.specs.declared.object.Symbol.{Symbol}
use Rattle.symbol_winners.specs.Duplicates.{IsDuplicate, duplicate_of, first_two, is_strong, strong_for}
use Rattle.symbol_winners.specs.Found.{AreNamed, candidate_of, found, found_at, found_in}
use Rattle.symbol_winners.specs.declared.firsts.Firsts.{Firsts}
use Rattle.symbol_winners.specs.declared.firsts.Firsts.TheVariants.{Neither}
use Rattle.symbol_winners.specs.inner.Tables.{AreFirsts, IsLeastPair, candidate_name, firsts_of, name_at, named, pair_at, pair_of, strong_among, table_of}
use Rattle.symbol_winners.proofs.TableLemmas.{table_length}

pub name_there : (names : List (List ℕ)) (k : ℕ) (name : List ℕ) → slice_get names k ≡ Some name → name_at names k ≡ name
name_there [] k name is = cc
name_there (n ∷ names) zero name is = let e : Some n ≡ Some name = is in cc
name_there (n ∷ names) (suc k) name is = name_there names k name is

pub name_numbered : (names : List (List ℕ)) (k : ℕ) → k < length names → slice_get names k ≡ Some (name_at names k)
name_numbered [] k low = absurd (omega (arith, low))
name_numbered (n ∷ names) zero low = refl
name_numbered (n ∷ names) (suc k) low = name_numbered names k (omega (arith, low))

-- ---- candidates with and without their files

same_of : (file : LoadedFile) (ps : List (ℕ × Symbol)) → filter_map (candidate_at file) ps ≡ map candidate_of (filter_map (found_at file) ps)
unfolding candidate_at found_at
same_of file [] = refl
same_of file (p ∷ ps) = by (same_of file ps) (is_candidate file.object.sections p.1) refl
  where
    by : filter_map (candidate_at file) ps ≡ map candidate_of (filter_map (found_at file) ps) → (b : Bool) → is_candidate file.object.sections p.1 ≡ b → filter_map (candidate_at file) (p ∷ ps) ≡ map candidate_of (filter_map (found_at file) (p ∷ ps))
    by rest true is = rw is (ap (λ (cs : List Candidate). (record { file = file.id; index = p.0; symbol = p.1 }) ∷ cs) rest)
    by rest false is = rw is rest

same_in : (file : LoadedFile) → candidates_of file ≡ map candidate_of (found_in file)
unfolding candidates_of found_in
same_in file = same_of file (enumerate_from 0 file.object.symbols)

pub same_all : (files : List LoadedFile) → candidates files ≡ map candidate_of (found files)
unfolding candidates found
same_all [] = refl
same_all (file ∷ files) = ap (λ (cs : List Candidate). cs ++ candidates files) (same_in file) ∙ ap (λ (cs : List Candidate). map candidate_of (found_in file) ++ cs) (same_all files) ∙ sym (map-append candidate_of (found_in file) (found files))

-- ---- tables

swapped : {X : Type 0} (p q : X → Bool) (xs : List X) → filter p (filter q xs) ≡ filter q (filter p xs)
swapped p q [] = refl
swapped {X = X} p q (x ∷ xs) = by (swapped p q xs) (p x) (q x) refl refl
  where
    by : filter p (filter q xs) ≡ filter q (filter p xs) → (a b : Bool) → p x ≡ a → q x ≡ b → filter p (filter q (x ∷ xs)) ≡ filter q (filter p (x ∷ xs))
    by rest true true e f = rw (f, e) (rw f (ap (λ (ys : List X). x ∷ ys) rest))
    by rest true false e f = rw (f, e) (rw f rest)
    by rest false true e f = rw (f, e) rest
    by rest false false e f = rw (e, f) rest

pub strong_named : (files : List LoadedFile) (name : List ℕ) → named candidate_name name (strong_among (found files)) ≡ strong_for files name
unfolding strong_among strong_for candidates_for
strong_named files name =
    swapped (λ (c : Candidate). bytes_eq name (candidate_name c)) is_strong (map candidate_of (found files))
    ∙ ap (λ (cs : List Candidate). filter is_strong (named candidate_name name cs)) (sym (same_all files))

pair_first : (cs : List Candidate) → pair_of (firsts_of cs) ≡ first_two cs
unfolding firsts_of
pair_first [] = refl
pair_first (a ∷ []) = refl
pair_first (a ∷ b ∷ cs) = refl

number_at : {X S : Type 0} (f : List X → S) (name_of : X → List ℕ) (names : List (List ℕ)) (xs : List X) (k : ℕ) (d : S) → k < length names → get_or (table_of f name_of names xs) k d ≡ f (named name_of (name_at names k) xs)
unfolding table_of
number_at f name_of [] xs k d low = absurd (omega (arith, low))
number_at f name_of (n ∷ names) xs zero d low = refl
number_at f name_of (n ∷ names) xs (suc k) d low = number_at f name_of names xs k d (omega (arith, low))

pub pair_is : (files : List LoadedFile) (names : List (List ℕ)) (table : List Firsts) (k : ℕ) → AreFirsts names (strong_among (found files)) table → k < length names → pair_at table k ≡ duplicate_of files (name_at names k)
unfolding duplicate_of
pair_is files names table k are low =
    ap (λ (t : List Firsts). pair_of (get_or t k Neither)) are.are
    ∙ ap pair_of (number_at firsts_of candidate_name names (strong_among (found files)) k Neither low)
    ∙ ap (λ (cs : List Candidate). pair_of (firsts_of cs)) (strong_named files (name_at names k))
    ∙ pair_first (strong_for files (name_at names k))

-- ---- each name that two have has a number

first_in : (cs : List Candidate) → IsSome (first_two cs) → (a : Candidate) × In a cs
first_in [] some = absurd (let e : false ≡ true = some in cc)
first_in (a ∷ cs) some = (a, inl refl)

pub has_number : (files : List LoadedFile) (names : List (List ℕ)) (name : List ℕ) → AreNamed names files → IsSome (duplicate_of files name) → (k : ℕ) × (k < length names) × (name_at names k ≡ name)
unfolding duplicate_of strong_for candidates_for
has_number files names name named_all some =
    let a : (a : Candidate) × In a (strong_for files name) = first_in (strong_for files name) some in
    let one = from_filter is_strong (filter (λ (c : Candidate). bytes_eq name c.symbol.name) (candidates files)) a.0 a.1 in
    let two = from_filter (λ (c : Candidate). bytes_eq name c.symbol.name) (candidates files) a.0 one.0 in
    let there : Contains names a.0.symbol.name = All-contains (λ (c : Candidate). Contains names c.symbol.name) (candidates files) a.0 named_all (Contains_from_in (candidates files) a.0 two.0) in
    let same : name ≡ a.0.symbol.name = (bytes_eq-Decides name a.0.symbol.name).0 two.1 in
    (there.0, there.1, get_or_default names there.0 [] a.0.symbol.name there.1 ∙ there.2 ∙ sym same)

-- ---- the answer

none_twice : (files : List LoadedFile) (names : List (List ℕ)) (table : List Firsts) → AreNamed names files → AreFirsts names (strong_among (found files)) table → ((k : ℕ) → k < length table → pair_at table k ≡ None) → (name : List ℕ) → duplicate_of files name ≡ None
none_twice files names table named_all are none name = by (duplicate_of files name) refl
  where
    by : (d : Option (FileId × FileId)) → duplicate_of files name ≡ d → duplicate_of files name ≡ None
    by None is = is
    by (Some p) is =
        let k = has_number files names name named_all (rw is refl) in
        let long : length table ≡ length names = ap length are.are ∙ table_length firsts_of candidate_name names (strong_among (found files)) in
        let at : duplicate_of files name ≡ None = ap (duplicate_of files) (sym k.2) ∙ sym (pair_is files names table k.0 are k.1) ∙ none k.0 (let low : k.0 < length names = k.1 in omega (arith, low, long)) in
        at

pub is_duplicate : (files : List LoadedFile) (names : List (List ℕ)) (table : List Firsts) (found_pair : Option (ℕ × FileId × FileId)) → AreNamed names files → AreFirsts names (strong_among (found files)) table → IsLeastPair names table found_pair → IsDuplicate files names found_pair
is_duplicate files names table None named_all are least = none_twice files names table named_all are least.none
is_duplicate files names table (Some p) named_all are least =
    let long : length table ≡ length names = ap length are.are ∙ table_length firsts_of candidate_name names (strong_among (found files)) in
    let low : p.0 < length names = (let w : p.0 < length table = least.0.within in omega (arith, w, long)) in
    record {
      name = name_at names p.0;
      numbered = name_numbered names p.0 low;
      twice = sym (pair_is files names table p.0 are low) ∙ least.1;
      least = λ other some.
          let k = has_number files names other named_all some in
          let there : k.0 < length names = k.1 in
          let two : IsSome (pair_at table k.0) = rw (pair_is files names table k.0 are k.1, k.2) some in
          rw (sym k.2) (least.0.least k.0 (omega (arith, there, long)) two);
    }
