-- What a round brings, by what its new files ask for.
use Rattle.std.proofs.Common.{◌≡◌, ℕ, zero, suc, ◌⊎◌, ◌&&◌, ◌||◌, ◌++◌, Bool, true, false, not, List, [], ◌∷◌, Some, filter, refl, sym, ap, ◌∙◌, subst, inl, inr}
use Rattle.std.specs.List.{flat_map}
use Rattle.std.specs.Result.{result_ok}
use Rattle.std.specs.Str.{bytes_eq}
use Rattle.list_lemmas.proofs.Members.{In, any_from_in, any_true, from_filter, in_filter, from_flat, in_either, in_flat, in_left, in_right, from_filter_map, in_filter_map}
use Rattle.mo_types.specs.Candidates.{Candidate, candidates, candidates_of}
use Rattle.mo_types.specs.declared.key.FileId.{FileId}
use Rattle.mo_types.specs.declared.loaded.LoadedFile.{LoadedFile}
use Rattle.lib_bind.specs.declared.library.LibraryGraph.{LibraryGraph}
use Rattle.member_rounds.specs.Growth.{after, is_in}
use Rattle.input_files.specs.Files.{all_ids, file_of, is_first}
use Rattle.member_rounds.specs.Rounds.{asked_by, asked_ids, asks, files_of, has_candidate, missing_names, new_ids, round, undefined_in, wanted_names}
use Rattle.input_files.specs.declared.input.Input.{Input}
use Rattle.member_rounds.specs.inner.Working.{asked_of, first_names}
use Rattle.member_rounds.proofs.GrowthLemmas.{has_from_in, in_from_has}

-- ---- members

pub filter_again : {X : Type 0} (p q r : X → Bool) (xs : List X) → ((x : X) → In x xs → (q x && p x) ≡ r x) → filter p (filter q xs) ≡ filter r xs
filter_again p q r [] same = refl
filter_again {X = X} p q r (x ∷ xs) same = by (filter_again p q r xs (λ y there. same y (inr there))) (q x) (p x) refl refl
  where
    by : filter p (filter q xs) ≡ filter r xs → (a b : Bool) → q x ≡ a → p x ≡ b → filter p (filter q (x ∷ xs)) ≡ filter r (x ∷ xs)
    by rest true true qa pb =
        let is : true ≡ r x = rw (qa, pb) at (same x (inl refl)) in
        rw (qa, pb, ← is) (ap (λ (ys : List X). x ∷ ys) rest)
    by rest true false qa pb =
        let is : false ≡ r x = rw (qa, pb) at (same x (inl refl)) in
        rw (qa, pb, ← is) rest
    by rest false b qa pb =
        let is : false ≡ r x = rw qa at (same x (inl refl)) in
        rw (qa, ← is) rest

pub same_tests : (a b : Bool) → (a ≡ true → b ≡ true) → (b ≡ true → a ≡ true) → a ≡ b
same_tests true b to from = sym (to refl)
same_tests false true to from = from refl
same_tests false false to from = refl

pub and_true : (a b : Bool) → (a && b) ≡ true → (a ≡ true) × (b ≡ true)
and_true true b e = (refl, e)
and_true false b e = cc

pub both_true : (a b : Bool) → a ≡ true → b ≡ true → (a && b) ≡ true
both_true true b e f = f
both_true false b e f = e

pub not_true : (a : Bool) → not a ≡ true → a ≡ true → ⊥
not_true true e f = let s : false ≡ true = e in absurd (let t : true ≡ false = sym s in cc)
not_true false e f = absurd (let t : true ≡ false = sym f in cc)

pub not_from : (a : Bool) → (a ≡ true → ⊥) → not a ≡ true
not_from true never = absurd (never refl)
not_from false never = refl

pub or_cases : (a b : Bool) → (a || b) ≡ true → (a ≡ true) ⊎ (b ≡ true)
or_cases true b e = inl refl
or_cases false b e = inr e

-- ---- candidates

pub more_candidates : (xs ys : List LoadedFile) (name : List ℕ) → ((file : LoadedFile) → In file xs → In file ys) → has_candidate xs name ≡ true → has_candidate ys name ≡ true
unfolding has_candidate candidates
more_candidates xs ys name more has =
    let found = any_true (λ (candidate : Candidate). bytes_eq name candidate.symbol.name) (flat_map candidates_of xs) has in
    let from = from_flat candidates_of xs found.0 found.1 in
    any_from_in (λ (candidate : Candidate). bytes_eq name candidate.symbol.name) (flat_map candidates_of ys) found.0 (in_flat candidates_of ys from.0 found.0 (more from.0 from.1) from.2) found.2

pub same_candidates : (xs ys : List LoadedFile) (name : List ℕ) → ((file : LoadedFile) → In file xs → In file ys) → ((file : LoadedFile) → In file ys → In file xs) → has_candidate xs name ≡ has_candidate ys name
same_candidates xs ys name to from = same_tests (has_candidate xs name) (has_candidate ys name) (more_candidates xs ys name to) (more_candidates ys xs name from)

-- ---- rounds

is_as : (p : FileId → Bool) (all xs : List FileId) → xs ≡ filter p all → (x : FileId) → In x all → is_in xs x ≡ p x
is_as p all xs is x there =
    same_tests (is_in xs x) (p x)
    (λ has. (from_filter p all x (subst (λ (ys : List FileId). In x ys) is (in_from_has xs x has))).1)
    (λ passes. has_from_in xs x (subst (λ (ys : List FileId). In x ys) (sym is) (in_filter p all x there passes)))

absorbs : (a b : Bool) → ((a || b) && a) ≡ a
absorbs true b = refl
absorbs false true = refl
absorbs false false = refl

kept_by : (p s : FileId → Bool) (all xs : List FileId) → xs ≡ filter p all → filter (is_in xs) (filter (λ x. is_in xs x || s x) all) ≡ xs
kept_by p s all xs is = filter_again (is_in xs) (λ x. is_in xs x || s x) p all (λ x there. absorbs (is_in xs x) (s x) ∙ is_as p all xs is x there) ∙ sym is

-- what a round has of the files of the round before is those
pub kept_files : (all : List FileId) (first : FileId → Bool) (asks : List FileId → FileId → Bool) (k : ℕ) → filter (is_in (after all first asks k)) (after all first asks (suc k)) ≡ after all first asks k
unfolding after
kept_files all first asks zero = kept_by first (asks (filter first all)) all (filter first all) refl
kept_files all first asks (suc k) = kept_by (λ x. is_in (after all first asks k) x || asks (after all first asks k) x) (asks (after all first asks (suc k))) all (after all first asks (suc k)) refl

pub next_is : (all : List FileId) (first : FileId → Bool) (asks : List FileId → FileId → Bool) (k : ℕ) → after all first asks (suc k) ≡ filter (λ x. is_in (after all first asks k) x || asks (after all first asks k) x) all
unfolding after
next_is all first asks k = refl

pub from_all : (all : List FileId) (first : FileId → Bool) (asks : List FileId → FileId → Bool) (k : ℕ) (x : FileId) → In x (after all first asks k) → In x all
unfolding after
from_all all first asks zero x there = (from_filter first all x there).0
from_all all first asks (suc k) x there = (from_filter (λ x. is_in (after all first asks k) x || asks (after all first asks k) x) all x there).0

pub goes_in : (all : List FileId) (first : FileId → Bool) (asks : List FileId → FileId → Bool) (k : ℕ) (x : FileId) → In x all → (is_in (after all first asks k) x ≡ true) ⊎ (asks (after all first asks k) x ≡ true) → In x (after all first asks (suc k))
goes_in all first asks k x there reason =
    subst (λ (xs : List FileId). In x xs) (sym (next_is all first asks k))
    (in_filter (λ x. is_in (after all first asks k) x || asks (after all first asks k) x) all x there (or_true (is_in (after all first asks k) x) (asks (after all first asks k) x) reason))
  where
    or_true : (a b : Bool) → (a ≡ true) ⊎ (b ≡ true) → (a || b) ≡ true
    or_true true b e = refl
    or_true false b (inl e) = absurd (let s : true ≡ false = sym e in cc)
    or_true false b (inr e) = e

pub stays_in : (all : List FileId) (first : FileId → Bool) (asks : List FileId → FileId → Bool) (k : ℕ) (x : FileId) → In x (after all first asks k) → In x (after all first asks (suc k))
stays_in all first asks k x there = goes_in all first asks k x (from_all all first asks k x there) (inl (has_from_in (after all first asks k) x there))

pub came_in : (all : List FileId) (first : FileId → Bool) (asks : List FileId → FileId → Bool) (k : ℕ) (x : FileId) → In x (after all first asks (suc k)) → In x (after all first asks k) ⊎ (asks (after all first asks k) x ≡ true)
came_in all first asks k x there = elim (or_cases (is_in (after all first asks k) x) (asks (after all first asks k) x) (from_filter (λ x. is_in (after all first asks k) x || asks (after all first asks k) x) all x (subst (λ (xs : List FileId). In x xs) (next_is all first asks k) there)).1) [
  | inl e ↦ inl (in_from_has (after all first asks k) x e)
  | inr e ↦ inr e
]

-- ---- what a round brings

module _ (inputs : List Input) (libs : LibraryGraph) (wanted : List (List ℕ)) where
  abbrev set : ℕ → List FileId
  set k = round inputs libs wanted k

  abbrev fresh : ℕ → List FileId
  fresh k = new_ids inputs libs wanted k

  -- the names that ask in a round
  abbrev pub asking : ℕ → List (List ℕ)
  asking k = flat_map undefined_in (files_of inputs (fresh k)) ++ first_names wanted k

  pub fresh_in : (k : ℕ) (id : FileId) → In id (fresh k) → In id (set k)
  fresh_in zero id there = there
  fresh_in (suc k) id there = (from_filter (λ i. not (is_in (set k) i)) (set (suc k)) id there).0

  pub fresh_or_before : (k : ℕ) (id : FileId) → In id (set (suc k)) → In id (fresh (suc k)) ⊎ In id (set k)
  fresh_or_before k id there = by (is_in (set k) id) refl
    where
      by : (b : Bool) → is_in (set k) id ≡ b → In id (fresh (suc k)) ⊎ In id (set k)
      by true e = inr (in_from_has (set k) id e)
      by false e = inl (in_filter (λ i. not (is_in (set k) i)) (set (suc k)) id there (ap not e))

  pub more_files : (xs ys : List FileId) → ((id : FileId) → In id xs → In id ys) → (file : LoadedFile) → In file (files_of inputs xs) → In file (files_of inputs ys)
  unfolding files_of
  more_files xs ys more file there =
      let from = from_filter_map (λ (id : FileId). result_ok (file_of inputs id)) xs file there in
      in_filter_map (λ (id : FileId). result_ok (file_of inputs id)) ys from.0 file (more from.0 from.1) from.2

  -- a name that is wanted is asking, or was wanted in the round before
  wanted_then : (k : ℕ) (name : List ℕ) → In name (wanted_names (files_of inputs (set (suc k))) wanted) → In name (asking (suc k)) ⊎ In name (wanted_names (files_of inputs (set k)) wanted)
  unfolding wanted_names files_of
  wanted_then k name there = elim (in_either (flat_map undefined_in (files_of inputs (set (suc k)))) wanted name there) [
    | inr w ↦ inr (in_right (flat_map undefined_in (files_of inputs (set k))) wanted name w)
    | inl f ↦
        let of_file = from_flat undefined_in (files_of inputs (set (suc k))) name f in
        let of_id = from_filter_map (λ (id : FileId). result_ok (file_of inputs id)) (set (suc k)) of_file.0 of_file.1 in
        elim (fresh_or_before k of_id.0 of_id.1) [
          | inl new ↦ inl (in_left (flat_map undefined_in (files_of inputs (fresh (suc k)))) [] name (in_flat undefined_in (files_of inputs (fresh (suc k))) of_file.0 name (in_filter_map (λ (id : FileId). result_ok (file_of inputs id)) (fresh (suc k)) of_id.0 of_file.0 new of_id.2) of_file.2))
          | inr old ↦ inr (in_left (flat_map undefined_in (files_of inputs (set k))) wanted name (in_flat undefined_in (files_of inputs (set k)) of_file.0 name (in_filter_map (λ (id : FileId). result_ok (file_of inputs id)) (set k) of_id.0 of_file.0 old of_id.2) of_file.2))
        ]
  ]

  -- what asks is wanted
  asking_wanted : (k : ℕ) (name : List ℕ) → In name (asking k) → In name (wanted_names (files_of inputs (set k)) wanted)
  unfolding wanted_names
  asking_wanted k name there = elim (in_either (flat_map undefined_in (files_of inputs (fresh k))) (first_names wanted k) name there) [
    | inl f ↦
        let of_file = from_flat undefined_in (files_of inputs (fresh k)) name f in
        in_left (flat_map undefined_in (files_of inputs (set k))) wanted name (in_flat undefined_in (files_of inputs (set k)) of_file.0 name (more_files (fresh k) (set k) (fresh_in k) of_file.0 of_file.1) of_file.2)
    | inr w ↦ in_right (flat_map undefined_in (files_of inputs (set k))) wanted name (from_first k w)
  ]
    where
      from_first : (j : ℕ) → In name (first_names wanted j) → In name wanted
      from_first zero w = w
      from_first (suc j) w = absurd w

  missing_then : (k : ℕ) (name : List ℕ) → In name (missing_names (files_of inputs (set (suc k))) wanted) → In name (asking (suc k)) ⊎ In name (missing_names (files_of inputs (set k)) wanted)
  unfolding missing_names
  missing_then k name there =
      let parts = from_filter (λ n. not (has_candidate (files_of inputs (set (suc k))) n)) (wanted_names (files_of inputs (set (suc k))) wanted) name there in
      elim (wanted_then k name parts.0) [
        | inl now ↦ inl now
        | inr then ↦ inr (in_filter (λ n. not (has_candidate (files_of inputs (set k)) n)) (wanted_names (files_of inputs (set k)) wanted) name then
            (not_from (has_candidate (files_of inputs (set k)) name) (λ has. not_true (has_candidate (files_of inputs (set (suc k))) name) parts.1
            (more_candidates (files_of inputs (set k)) (files_of inputs (set (suc k))) name (more_files (set k) (set (suc k)) (stays_in (all_ids inputs) (is_first inputs) (asks inputs libs wanted) k)) has))))
      ]

  missing_has : (k : ℕ) (name : List ℕ) → In name (missing_names (files_of inputs (set k)) wanted) → not (has_candidate (files_of inputs (set k)) name) ≡ true
  unfolding missing_names
  missing_has k name there = (from_filter (λ n. not (has_candidate (files_of inputs (set k)) n)) (wanted_names (files_of inputs (set k)) wanted) name there).1

  missing_in : (k : ℕ) (name : List ℕ) → In name (wanted_names (files_of inputs (set k)) wanted) → not (has_candidate (files_of inputs (set k)) name) ≡ true → In name (missing_names (files_of inputs (set k)) wanted)
  unfolding missing_names
  missing_in k name there is = in_filter (λ n. not (has_candidate (files_of inputs (set k)) n)) (wanted_names (files_of inputs (set k)) wanted) name there is

  asks_by : (ids : List FileId) (name : List ℕ) (id : FileId) → In name (missing_names (files_of inputs ids) wanted) → asked_by inputs libs name ≡ Some id → asks inputs libs wanted ids id ≡ true
  unfolding asks asked_ids
  asks_by ids name id missing is = has_from_in (asked_ids inputs libs wanted ids) id (in_filter_map (asked_by inputs libs) (missing_names (files_of inputs ids) wanted) name id missing is)

  asks_of : (ids : List FileId) (id : FileId) → asks inputs libs wanted ids id ≡ true → (name : List ℕ) × In name (missing_names (files_of inputs ids) wanted) × (asked_by inputs libs name ≡ Some id)
  unfolding asks asked_ids
  asks_of ids id is = from_filter_map (asked_by inputs libs) (missing_names (files_of inputs ids) wanted) id (in_from_has (asked_ids inputs libs wanted ids) id is)

  asking_first : (name : List ℕ) → In name (missing_names (files_of inputs (set zero)) wanted) → In name (asking zero)
  unfolding missing_names wanted_names
  asking_first name missing = (from_filter (λ n. not (has_candidate (files_of inputs (set zero)) n)) (wanted_names (files_of inputs (set zero)) wanted) name missing).0

  -- a file that a round brings is asked for by its new names
  asked_there : (k : ℕ) (id : FileId) (name : List ℕ) → (In id (set k) → ⊥) → In id (all_ids inputs) → In name (missing_names (files_of inputs (set k)) wanted) → asked_by inputs libs name ≡ Some id → In name (asking k)
  asked_there zero id name not_yet there missing is = asking_first name missing
  asked_there (suc k) id name not_yet there missing is = elim (missing_then k name missing) [
    | inl now ↦ now
    | inr then ↦ absurd (not_yet (goes_in (all_ids inputs) (is_first inputs) (asks inputs libs wanted) k id there (inr (asks_by (set k) name id then is))))
  ]

  pub round_brings : (k : ℕ) (asked : List FileId) → asked ≡ asked_of (has_candidate (files_of inputs (set k))) inputs libs (asking k) → (id : FileId) → is_in (fresh (suc k)) id ≡ ((is_in (all_ids inputs) id && not (is_in (set k) id)) && is_in asked id)
  unfolding asked_of
  round_brings k asked are id =
      same_tests (is_in (fresh (suc k)) id) ((is_in (all_ids inputs) id && not (is_in (set k) id)) && is_in asked id)
      (λ has.
      let parts = from_filter (λ i. not (is_in (set k) i)) (set (suc k)) id (in_from_has (fresh (suc k)) id has) in
      let there : In id (all_ids inputs) = from_all (all_ids inputs) (is_first inputs) (asks inputs libs wanted) (suc k) id parts.0 in
      let reason : asks inputs libs wanted (set k) id ≡ true = elim (came_in (all_ids inputs) (is_first inputs) (asks inputs libs wanted) k id parts.0) [
        | inl old ↦ absurd (not_true (is_in (set k) id) parts.1 (has_from_in (set k) id old))
        | inr e ↦ e
      ] in
      let name = asks_of (set k) id reason in
      let in_asking : In name.0 (asking k) = asked_there k id name.0 (λ old. not_true (is_in (set k) id) parts.1 (has_from_in (set k) id old)) there name.1 name.2 in
      let in_asked : In id asked = subst (λ (ids : List FileId). In id ids) (sym are) (in_filter_map (asked_by inputs libs) (filter (λ n. not (has_candidate (files_of inputs (set k)) n)) (asking k)) name.0 id (in_filter (λ n. not (has_candidate (files_of inputs (set k)) n)) (asking k) name.0 in_asking (missing_has k name.0 name.1)) name.2) in
      both_true (is_in (all_ids inputs) id && not (is_in (set k) id)) (is_in asked id) (both_true (is_in (all_ids inputs) id) (not (is_in (set k) id)) (has_from_in (all_ids inputs) id there) parts.1) (has_from_in asked id in_asked))
      (λ is.
      let two = and_true (is_in (all_ids inputs) id && not (is_in (set k) id)) (is_in asked id) is in
      let one = and_true (is_in (all_ids inputs) id) (not (is_in (set k) id)) two.0 in
      let name = from_filter_map (asked_by inputs libs) (filter (λ n. not (has_candidate (files_of inputs (set k)) n)) (asking k)) id (subst (λ (ids : List FileId). In id ids) are (in_from_has asked id two.1)) in
      let parts = from_filter (λ n. not (has_candidate (files_of inputs (set k)) n)) (asking k) name.0 name.1 in
      let missing : In name.0 (missing_names (files_of inputs (set k)) wanted) = missing_in k name.0 (asking_wanted k name.0 parts.0) parts.1 in
      let next : In id (set (suc k)) = goes_in (all_ids inputs) (is_first inputs) (asks inputs libs wanted) k id (in_from_has (all_ids inputs) id one.0) (inr (asks_by (set k) name.0 id missing name.2)) in
      has_from_in (fresh (suc k)) id (in_filter (λ i. not (is_in (set k) i)) (set (suc k)) id next one.1))
