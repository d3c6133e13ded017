-- A link from one round to the next, and to its end.
use Rattle.std.proofs.Common.{◌≡◌, ℕ, zero, suc, ◌+◌, ◌-◌, ◌<◌, ◌≤◌, ◌⊎◌, ◌&&◌, ◌||◌, ◌++◌, Bool, true, false, not, nat_lt, List, [], ◌∷◌, Option, Some, None, Result, Ok, Err, length, map, filter, get_or, refl, sym, ap, ap₂, ◌∙◌, subst, inl, inr, arith}
use Rattle.std.specs.List.{filter_map, flat_map, list_any, range_with_len, IsDistinct}
use Rattle.std.specs.List.Sorted.{IsPermutation, IsStrictlySortedBy, IsSortedBy}
use Rattle.std.specs.Ordering.{is_eq, is_lt, eq_by_cmp, on, ordering_reverse}
use Rattle.std.specs.declared.cmp.Ordering.{Ordering}
use Rattle.std.specs.declared.cmp.Ordering.TheVariants.{Equal, Greater, Less}
use Rattle.std.specs.Result.{result_err, result_ok}
use Rattle.std.specs.Str.{bytes_eq}
use Rattle.std.proofs.Math.Nat.{le_refl}
use Rattle.std.proofs.lemmas.Bool.{ltb-true, ltb-false}
use Rattle.std.proofs.lemmas.Cmp.{on_total}
use Rattle.std.proofs.lemmas.List.{get_or-map, length-map}
use Rattle.std.proofs.lemmas.List.Concat.{flat_map-append}
use Rattle.std.proofs.lemmas.List.Sorted.{IsPermutation-map, IsPermutation-sym, IsPermutation-trans, Contains-permutation}
use Rattle.std.proofs.lemmas.Map.Keys.{IsDistinct-from_sorted, IsDistinct-IsPermutation, apart_from_distinct, sorted_from_all_adjacent}
use Rattle.list_lemmas.proofs.Members.{In, in_from_Contains, Contains_from_in}
use Rattle.list_lemmas.proofs.Rising.{rising_map, rising_same}
use Rattle.mo_types.proofs.KeyOrder.{compare_files_total}
use Rattle.mo_types.specs.Gives.{◌>>=◌}
use Rattle.mo_types.specs.Keys.{compare_files}
use Rattle.mo_types.specs.Scan.{first_some}
use Rattle.mo_types.specs.Candidates.{Candidate, candidates, candidates_of}
use Rattle.mo_types.specs.declared.key.FileId.{FileId}
use Rattle.mo_types.specs.declared.loaded.LoadedFile.{LoadedFile}
use Rattle.lib_bind.specs.declared.library.LibraryGraph.{LibraryGraph}
use Rattle.member_rounds.specs.Growth.{is_in}
use Rattle.input_files.specs.Files.{all_ids, file_of, is_first}
use Rattle.member_rounds.specs.Rounds.{asked_by, asks, files_of, has_candidate, loaded_ids, loaded_of, names_fault, new_ids, round, round_fault, undefined_in}
use Rattle.input_files.specs.declared.fault.LoadFault.{LoadFault}
use Rattle.input_files.specs.declared.input.Input.{Input}
use Rattle.member_rounds.specs.inner.Working.{AreKept, AreSettled, HaveAsked, IsBetween, asked_of, first_names, read_each}
use Rattle.member_rounds.proofs.GrowthLemmas.{has_from_in, in_from_has, round_ends}
use Rattle.member_rounds.proofs.SettledLemmas.{after_settled, asked_alike, noted_settled}
use Rattle.member_rounds.proofs.WorkLemmas.{asking, fresh_in, fresh_or_before, or_cases, next_is, round_brings, same_tests, stays_in}
use Rattle.input_files.proofs.EachLemmas.{all_has}
use Rattle.member_rounds.proofs.StateLemmas.{each_err, each_ok, kept_candidates, fresh_rises, kept_more, kept_names, round_rises, same_ids}

any_append : {X : Type 0} (p : X → Bool) (xs ys : List X) → list_any p (xs ++ ys) ≡ (list_any p xs || list_any p ys)
any_append p [] ys = refl
any_append p (x ∷ xs) ys = ap (λ b. p x || b) (any_append p xs ys) ∙ grouped (p x) (list_any p xs) (list_any p ys)
  where
    grouped : (a b c : Bool) → (a || (b || c)) ≡ ((a || b) || c)
    grouped true b c = refl
    grouped false b c = refl

pub candidates_append : (xs ys : List LoadedFile) (name : List ℕ) → has_candidate (xs ++ ys) name ≡ (has_candidate xs name || has_candidate ys name)
unfolding has_candidate candidates
candidates_append xs ys name = ap (list_any (λ (candidate : Candidate). bytes_eq name candidate.symbol.name)) (flat_map-append candidates_of xs ys) ∙ any_append (λ (candidate : Candidate). bytes_eq name candidate.symbol.name) (flat_map candidates_of xs) (flat_map candidates_of ys)

filter_same : {X : Type 0} (p q : X → Bool) (xs : List X) → ((x : X) → p x ≡ q x) → filter p xs ≡ filter q xs
filter_same p q [] same = refl
filter_same {X = X} p q (x ∷ xs) same = by (filter_same p q xs same) (q x) refl
  where
    by : filter p xs ≡ filter q xs → (b : Bool) → q x ≡ b → filter p (x ∷ xs) ≡ filter q (x ∷ xs)
    by rest true e = rw (same x, e) (ap (λ (ys : List X). x ∷ ys) rest)
    by rest false e = rw (same x, e) rest

same_asked : (has also : List ℕ → Bool) (inputs : List Input) (libs : LibraryGraph) (names : List (List ℕ)) → ((name : List ℕ) → has name ≡ also name) → asked_of has inputs libs names ≡ asked_of also inputs libs names
unfolding asked_of
same_asked has also inputs libs names same = ap (filter_map (asked_by inputs libs)) (filter_same (λ name. not (has name)) (λ name. not (also name)) names (λ name. ap not (same name)))

pub each_files : (inputs : List Input) (ids : List FileId) (files : List LoadedFile) → read_each inputs ids ≡ Ok files → files ≡ files_of inputs ids
unfolding files_of
each_files inputs [] files is = let e : [] ≡ files = (let s : Ok [] ≡ Ok files = is in cc) in sym e
each_files inputs (id ∷ ids) files is = by (λ fs. each_files inputs ids fs) (file_of inputs id) refl
  where
    rest_by : ((fs : List LoadedFile) → read_each inputs ids ≡ Ok fs → fs ≡ filter_map (λ i. result_ok (file_of inputs i)) ids) → (file : LoadedFile) → file_of inputs id ≡ Ok file → (r : Result (List LoadedFile) LoadFault) → read_each inputs ids ≡ r → (r >>= λ fs. Ok (file ∷ fs)) ≡ Ok files → files ≡ filter_map (λ i. result_ok (file_of inputs i)) (id ∷ ids)
    rest_by rest file here (Err e) r s = absurd (let t : Err e ≡ Ok files = s in cc)
    rest_by rest file here (Ok fs) r s =
        let whole : file ∷ fs ≡ files = (let t : Ok (file ∷ fs) ≡ Ok files = s in cc) in
        rw here (sym whole ∙ ap (λ (l : List LoadedFile). file ∷ l) (rest fs r))

    by : ((fs : List LoadedFile) → read_each inputs ids ≡ Ok fs → fs ≡ filter_map (λ i. result_ok (file_of inputs i)) ids) → (r : Result LoadedFile LoadFault) → file_of inputs id ≡ r → files ≡ filter_map (λ i. result_ok (file_of inputs i)) (id ∷ ids)
    by rest (Err e) r = absurd (let t : Err e ≡ Ok files = rw r at is in cc)
    by rest (Ok file) r = rest_by rest file r (read_each inputs ids) refl (rw r at is)

-- ---- faults

first_at : (f : ℕ → Option LoadFault) (n a k : ℕ) (fault : LoadFault) → k < n → ((j : ℕ) → j < k → f (a + j) ≡ None) → f (a + k) ≡ Some fault → first_some f (range_with_len a n) ≡ Some fault
first_at f zero a k fault low none is = absurd (omega (arith, low))
first_at f (suc n) a zero fault low none is =
    let here : f a ≡ Some fault = subst (λ (m : ℕ). f m ≡ Some fault) (let e : a + 0 ≡ a = omega arith in e) is in
    rw here refl
first_at f (suc n) a (suc k) fault low none is =
    let here : f a ≡ None = subst (λ (m : ℕ). f m ≡ None) (let e : a + 0 ≡ a = omega arith in e) (none 0 (omega arith)) in
    let rest : first_some f (range_with_len (a + 1) n) ≡ Some fault = first_at f n (a + 1) k fault (omega (arith, low))
    (λ j below. subst (λ (m : ℕ). f m ≡ None) (let e : a + suc j ≡ (a + 1) + j = omega arith in e) (none (suc j) (omega (arith, below))))
    (subst (λ (m : ℕ). f m ≡ Some fault) (let e : a + suc k ≡ (a + 1) + k = omega arith in e) is) in
    rw here rest

none_in : (f : ℕ → Option LoadFault) (n a : ℕ) → ((j : ℕ) → j < n → f (a + j) ≡ None) → first_some f (range_with_len a n) ≡ None
none_in f zero a none = refl
none_in f (suc n) a none =
    let here : f a ≡ None = subst (λ (m : ℕ). f m ≡ None) (let e : a + 0 ≡ a = omega arith in e) (none 0 (omega arith)) in
    let rest : first_some f (range_with_len (a + 1) n) ≡ None = none_in f n (a + 1) (λ j below. subst (λ (m : ℕ). f m ≡ None) (let e : a + suc j ≡ (a + 1) + j = omega arith in e) (none (suc j) (omega (arith, below)))) in
    rw here rest

algebra : (a r asked : Bool) → ((a && not r) && not asked) ≡ (a && not (r || ((a && not r) && asked)))
algebra true true asked = refl
algebra true false true = refl
algebra true false false = refl
algebra false r asked = refl

under : (a b c : Bool) → (a ≡ true → b ≡ c) → (a && b) ≡ (a && c)
under true b c same = same refl
under false b c same = refl

under_not : (a b c : Bool) → (a ≡ true → b ≡ c) → (a && not b) ≡ (a && not c)
under_not true b c same = ap not (same refl)
under_not false b c same = refl

module _ (inputs : List Input) (libs : LibraryGraph) (wanted : List (List ℕ)) where
  abbrev among : ℕ → List FileId
  among k = round inputs libs wanted k

  abbrev fresh : ℕ → List FileId
  fresh k = new_ids inputs libs wanted k

  abbrev ended : ℕ
  ended = length (all_ids inputs)

  loaded_fails : (k : ℕ) (fault : LoadFault) → k < ended + 1 → ((j : ℕ) → j < k → round_fault inputs libs wanted j ≡ None) → round_fault inputs libs wanted k ≡ Some fault → loaded_of inputs libs wanted ≡ Err fault
  unfolding loaded_of
  loaded_fails k fault low none is =
      let first : first_some (round_fault inputs libs wanted) (range_with_len 0 (ended + 1)) ≡ Some fault = first_at (round_fault inputs libs wanted) (ended + 1) 0 k fault low
      (λ j below. subst (λ (m : ℕ). round_fault inputs libs wanted m ≡ None) (let e : j ≡ 0 + j = omega arith in e) (none j below))
      (subst (λ (m : ℕ). round_fault inputs libs wanted m ≡ Some fault) (let e : k ≡ 0 + k = omega arith in e) is) in
      rw first refl

  loaded_holds : ((j : ℕ) → j < ended + 1 → round_fault inputs libs wanted j ≡ None) → loaded_of inputs libs wanted ≡ Ok (record { files = files_of inputs (loaded_ids inputs libs wanted) })
  unfolding loaded_of
  loaded_holds none =
      let all_none : first_some (round_fault inputs libs wanted) (range_with_len 0 (ended + 1)) ≡ None = none_in (round_fault inputs libs wanted) (ended + 1) 0 (λ j below. subst (λ (m : ℕ). round_fault inputs libs wanted m ≡ None) (let e : j ≡ 0 + j = omega arith in e) (none j below)) in
      rw all_none refl

  fault_of_file : (k : ℕ) (fault : LoadFault) → first_some (λ id. result_err (file_of inputs id)) (fresh k) ≡ Some fault → round_fault inputs libs wanted k ≡ Some fault
  unfolding round_fault
  fault_of_file k fault is = rw is refl

  fault_of_names : (k : ℕ) (r : Option LoadFault) → first_some (λ id. result_err (file_of inputs id)) (fresh k) ≡ None → names_fault (files_of inputs (among k)) wanted ≡ r → round_fault inputs libs wanted k ≡ r
  unfolding round_fault
  fault_of_names k r none is = rw none is

  names_of_fault : (k : ℕ) → round_fault inputs libs wanted k ≡ None → names_fault (files_of inputs (among k)) wanted ≡ None
  unfolding round_fault
  names_of_fault k none = by (first_some (λ id. result_err (file_of inputs id)) (fresh k)) refl
    where
      by : (o : Option LoadFault) → first_some (λ id. result_err (file_of inputs id)) (fresh k) ≡ o → names_fault (files_of inputs (among k)) wanted ≡ None
      by (Some fault) o = absurd (let s : Some fault ≡ None = rw o at none in cc)
      by None o = rw o at none

  round_then : (k : ℕ) (id : FileId) → is_in (among (suc k)) id ≡ (is_in (among k) id || is_in (fresh (suc k)) id)
  round_then k id =
      same_tests (is_in (among (suc k)) id) (is_in (among k) id || is_in (fresh (suc k)) id)
      (λ has. elim (fresh_or_before inputs libs wanted k id (in_from_has (among (suc k)) id has)) [
        | inl new ↦ or_right (is_in (among k) id) (is_in (fresh (suc k)) id) (has_from_in (fresh (suc k)) id new)
        | inr old ↦ or_left (is_in (among k) id) (is_in (fresh (suc k)) id) (has_from_in (among k) id old)
      ])
      (λ has. elim (or_cases (is_in (among k) id) (is_in (fresh (suc k)) id) has) [
        | inl old ↦ has_from_in (among (suc k)) id (stays_in (all_ids inputs) (is_first inputs) (asks inputs libs wanted) k id (in_from_has (among k) id old))
        | inr new ↦ has_from_in (among (suc k)) id (fresh_in inputs libs wanted (suc k) id (in_from_has (fresh (suc k)) id new))
      ])
    where
      or_left : (a b : Bool) → a ≡ true → (a || b) ≡ true
      or_left true b e = refl
      or_left false b e = cc

      or_right : (a b : Bool) → b ≡ true → (a || b) ≡ true
      or_right true b e = refl
      or_right false b e = e

  pub read_fails : (k : ℕ) (kept : List LoadedFile) (settled : List ℕ → Bool) (left new : List FileId) (fault : LoadFault) → IsBetween inputs libs wanted k kept settled left new → read_each inputs new ≡ Err fault → k < ended + 1 → loaded_of inputs libs wanted ≡ Err fault
  read_fails k kept settled left new fault so is low = loaded_fails k fault low so.no_fault (fault_of_file k fault (each_err inputs (fresh k) fault (subst (λ (ids : List FileId). read_each inputs ids ≡ Err fault) so.new_are is)))

  pub names_fail : (k : ℕ) (kept files more : List LoadedFile) (settled : List ℕ → Bool) (left new : List FileId) (fault : LoadFault) → IsBetween inputs libs wanted k kept settled left new → read_each inputs new ≡ Ok files → more ≡ kept ++ files → names_fault more wanted ≡ Some fault → k < ended + 1 → loaded_of inputs libs wanted ≡ Err fault
  names_fail k kept files more settled left new fault so is grown faulty low =
      let read : read_each inputs (fresh k) ≡ Ok files = subst (λ (ids : List FileId). read_each inputs ids ≡ Ok files) so.new_are is in
      let are : AreKept inputs (among k) more = kept_more inputs libs wanted k kept files more so.files read grown in
      loaded_fails k fault low so.no_fault (fault_of_names k (Some fault) (each_ok inputs (fresh k) files read).0 (sym (kept_names inputs (among k) more wanted are) ∙ faulty))

  pub next_round : (k : ℕ) (kept files more : List LoadedFile) (settled noted after : List ℕ → Bool) (left rest new next asked : List FileId)
      → IsStrictlySortedBy compare_files (all_ids inputs)
      → IsBetween inputs libs wanted k kept settled left new
      → read_each inputs new ≡ Ok files
      → more ≡ kept ++ files
      → ((name : List ℕ) (id : FileId) → asked_by inputs libs name ≡ Some id → noted name ≡ (settled name || has_candidate files name))
      → names_fault more wanted ≡ None
      → HaveAsked inputs libs [] noted asked after (flat_map undefined_in files ++ first_names wanted k)
      → ((id : FileId) → is_in rest id ≡ (is_in left id && not (is_in asked id)))
      → IsStrictlySortedBy compare_files next
      → ((id : FileId) → is_in next id ≡ (is_in left id && is_in asked id))
      → IsBetween inputs libs wanted (suc k) more after rest next
  next_round k kept files more settled noted after left rest new next asked rise so is grown learnt fine have rest_are rises next_are =
      let read : read_each inputs (fresh k) ≡ Ok files = subst (λ (ids : List FileId). read_each inputs ids ≡ Ok files) so.new_are is in
      let held : AreKept inputs (among k) more = kept_more inputs libs wanted k kept files more so.files read grown in
      let more_are : (name : List ℕ) → has_candidate more name ≡ (has_candidate kept name || has_candidate files name) = (λ name. ap (λ (fs : List LoadedFile). has_candidate fs name) grown ∙ candidates_append kept files name) in
      let noted_are : AreSettled inputs libs more noted left = noted_settled inputs libs kept files more settled noted left so.settled_are learnt more_are in
      let names : List (List ℕ) = flat_map undefined_in files ++ first_names wanted k in
      let same_names : names ≡ asking inputs libs wanted k = ap (λ (fs : List LoadedFile). flat_map undefined_in fs ++ first_names wanted k) (each_files inputs (fresh k) files read) in
      let wholly : List FileId = asked_of (has_candidate (files_of inputs (among k))) inputs libs (asking inputs libs wanted k) in
      let alike : (id : FileId) → is_in left id ≡ true → is_in asked id ≡ is_in wholly id = (λ id there.
      asked_alike inputs libs more noted after names asked left have noted_are id there
      ∙ ap (λ (ids : List FileId). is_in ids id) (same_asked (has_candidate more) (has_candidate (files_of inputs (among k))) inputs libs names (λ name. kept_candidates inputs (among k) more name held) ∙ ap (asked_of (has_candidate (files_of inputs (among k))) inputs libs) same_names)) in
      let brings : (id : FileId) → is_in (fresh (suc k)) id ≡ ((is_in (all_ids inputs) id && not (is_in (among k) id)) && is_in wholly id) = round_brings inputs libs wanted k wholly refl in
      record {
        files = held;
        settled_are = after_settled inputs libs more noted after names asked left rest noted_are have rest_are;
        left_are = λ id. rest_are id ∙ under_not (is_in left id) (is_in asked id) (is_in wholly id) (alike id) ∙ ap (λ b. b && not (is_in wholly id)) (so.left_are id) ∙ algebra (is_in (all_ids inputs) id) (is_in (among k) id) (is_in wholly id) ∙ ap (λ b. is_in (all_ids inputs) id && not (is_in (among k) id || b)) (sym (brings id)) ∙ ap (λ b. is_in (all_ids inputs) id && not b) (sym (round_then k id));
        new_are = same_ids next (fresh (suc k)) rises (fresh_rises inputs libs wanted (suc k) rise) (λ id. next_are id ∙ under (is_in left id) (is_in asked id) (is_in wholly id) (alike id) ∙ ap (λ b. b && is_in wholly id) (so.left_are id) ∙ sym (brings id));
        no_fault = λ j below. elim (below_or_at j k below) [
          | inl less ↦ so.no_fault j less
          | inr e ↦ subst (λ (m : ℕ). round_fault inputs libs wanted m ≡ None) (sym e) (fault_of_names k None (each_ok inputs (fresh k) files read).0 (sym (kept_names inputs (among k) more wanted held) ∙ fine))
        ];
      }
    where
      below_or_at : (j k : ℕ) → j < suc k → (j < k) ⊎ (j ≡ k)
      below_or_at j k low = by (nat_lt j k) refl
        where
          by : (b : Bool) → nat_lt j k ≡ b → (j < k) ⊎ (j ≡ k)
          by true e = inl (ltb-true j k e)
          by false e = inr (let h : k ≤ j = ltb-false j k e in omega (arith, h, low))

  -- ---- the end

  stays_so : (k : ℕ) → among (suc k) ≡ among k → (j : ℕ) → among (j + k) ≡ among k
  stays_so k same zero = ap among (let e : 0 + k ≡ k = omega arith in e)
  stays_so k same (suc j) =
      ap among (let e : suc j + k ≡ suc (j + k) = omega arith in e)
      ∙ step_same (j + k) k (stays_so k same j) ∙ same
    where
      step_same : (a b : ℕ) → among a ≡ among b → among (suc a) ≡ among (suc b)
      step_same a b e = step_by (among a) (among b) a b refl refl e
        where
          step_by : (xs ys : List FileId) (a b : ℕ) → among a ≡ xs → among b ≡ ys → xs ≡ ys → among (suc a) ≡ among (suc b)
          step_by xs ys a b ea eb e = next_is (all_ids inputs) (is_first inputs) (asks inputs libs wanted) a ∙ ap (λ (zs : List FileId). filter (λ x. is_in zs x || asks inputs libs wanted zs x) (all_ids inputs)) (ea ∙ e ∙ sym eb) ∙ sym (next_is (all_ids inputs) (is_first inputs) (asks inputs libs wanted) b)

  pub ends_early : (k : ℕ) (kept : List LoadedFile) (settled : List ℕ → Bool) (left new : List FileId) → IsStrictlySortedBy compare_files (all_ids inputs) → IsBetween inputs libs wanted (suc k) kept settled left new → new ≡ [] → (loaded_of inputs libs wanted ≡ Ok (record { files = files_of inputs (loaded_ids inputs libs wanted) })) × AreKept inputs (loaded_ids inputs libs wanted) kept
  ends_early k kept settled left new rise so none =
      let no_new : fresh (suc k) ≡ [] = sym so.new_are ∙ none in
      let same : among (suc k) ≡ among k = same_ids (among (suc k)) (among k) (round_rises inputs libs wanted (suc k) rise) (round_rises inputs libs wanted k rise) (λ id. round_then k id ∙ ap (λ (ids : List FileId). is_in (among k) id || is_in ids id) no_new ∙ or_nothing (is_in (among k) id)) in
      let last : loaded_ids inputs libs wanted ≡ among k = last_is k same in
      (loaded_holds (λ j low. by j (nat_lt j (suc k)) refl no_new same so.no_fault), subst (λ (ids : List FileId). AreKept inputs ids kept) (sym last) so.files)
    where
      or_nothing : (a : Bool) → (a || false) ≡ a
      or_nothing true = refl
      or_nothing false = refl

      last_is : (k : ℕ) → among (suc k) ≡ among k → loaded_ids inputs libs wanted ≡ among k
      last_is k same = by (nat_lt k ended) refl
        where
          by : (b : Bool) → nat_lt k ended ≡ b → loaded_ids inputs libs wanted ≡ among k
          by true e =
              let low : k < ended = ltb-true k ended e in
              let n : ended ≡ (ended - k) + k = omega (arith, low) in
              sym (round_ends (all_ids inputs) (is_first inputs) (asks inputs libs wanted) ended (le_refl ended)) ∙ ap among n ∙ stays_so k same (ended - k)
          by false e = sym (round_ends (all_ids inputs) (is_first inputs) (asks inputs libs wanted) k (ltb-false k ended e))

      by : (j : ℕ) (b : Bool) → nat_lt j (suc k) ≡ b → fresh (suc k) ≡ [] → among (suc k) ≡ among k → ((i : ℕ) → i < suc k → round_fault inputs libs wanted i ≡ None) → round_fault inputs libs wanted j ≡ None
      by j true e no_new same before_none = before_none j (ltb-true j (suc k) e)
      by zero false e no_new same before_none = absurd (let h : suc k ≤ 0 = ltb-false 0 (suc k) e in omega (arith, h))
      by (suc i) false e no_new same before_none =
          let h : suc k ≤ suc i = ltb-false (suc i) (suc k) e in
          let n : i ≡ (i - k) + k = omega (arith, h) in
          let one : among i ≡ among k = ap among n ∙ stays_so k same (i - k) in
          let two : among (suc i) ≡ among k = ap among (let m : suc i ≡ suc (i - k) + k = omega (arith, h) in m) ∙ stays_so k same (suc (i - k)) in
          let nothing : fresh (suc i) ≡ [] = ap₂ (λ (xs ys : List FileId). filter (λ id. not (is_in xs id)) ys) one (two ∙ sym same) ∙ no_new in
          fault_of_names (suc i) None (ap (first_some (λ id. result_err (file_of inputs id))) nothing) (ap (λ (ids : List FileId). names_fault (files_of inputs ids) wanted) two ∙ names_of_fault k (before_none k (omega arith)))

  pub ends_late : (kept : List LoadedFile) (settled : List ℕ → Bool) (left new : List FileId) → IsBetween inputs libs wanted (suc ended) kept settled left new → (loaded_of inputs libs wanted ≡ Ok (record { files = files_of inputs (loaded_ids inputs libs wanted) })) × AreKept inputs (loaded_ids inputs libs wanted) kept
  ends_late kept settled left new so =
      (loaded_holds (λ j low. so.no_fault j (omega (arith, low))), subst (λ (ids : List FileId). AreKept inputs ids kept) (round_ends (all_ids inputs) (is_first inputs) (asks inputs libs wanted) ended (le_refl ended)) so.files)

-- ---- the files in order

abbrev by_id : LoadedFile → LoadedFile → Ordering
by_id = on (λ (f : LoadedFile). f.id) compare_files

is_less : (a b : Ordering) → b ≡ ordering_reverse a → is_lt b ≡ false → (a ≡ Equal → ⊥) → a ≡ Less
is_less Less b r e other = refl
is_less Equal b r e other = absurd (other refl)
is_less Greater b r e other = absurd (let s : true ≡ false = rw r at e in let t : true ≡ false = s in cc)

files_again : (inputs : List Input) (files : List LoadedFile) → ((file : LoadedFile) → In file files → file_of inputs file.id ≡ Ok file) → files ≡ files_of inputs (map (λ file. file.id) files)
unfolding files_of
files_again inputs [] read = refl
files_again inputs (file ∷ files) read = rw (read file (inl refl)) (ap (λ (fs : List LoadedFile). file ∷ fs) (files_again inputs files (λ f there. read f (inr there))))

strict : (xs : List LoadedFile) → IsSortedBy (λ a b. is_lt (compare_files a.id b.id)) xs → IsDistinct (eq_by_cmp compare_files) (map (λ file. file.id) xs) → IsStrictlySortedBy by_id xs
unfolding IsStrictlySortedBy
strict [] sorted apart = tt
strict (x ∷ xs) sorted apart = sorted_from_all_adjacent (on_total (λ (f : LoadedFile). f.id) compare_files_total) (x ∷ xs) x (λ k low.
    is_less (by_id (get_or (x ∷ xs) k x) (get_or (x ∷ xs) (k + 1) x)) (by_id (get_or (x ∷ xs) (k + 1) x) (get_or (x ∷ xs) k x))
    (compare_files_total.antisymm (get_or (x ∷ xs) (k + 1) x).id (get_or (x ∷ xs) k x).id)
    (sorted k x (omega arith) low)
    (λ same. differ k low same))
  where
    differ : (k : ℕ) → k + 1 < length (x ∷ xs) → by_id (get_or (x ∷ xs) k x) (get_or (x ∷ xs) (k + 1) x) ≡ Equal → ⊥
    differ k low same =
        let distinct_ids : eq_by_cmp compare_files (get_or (map (λ (f : LoadedFile). f.id) (x ∷ xs)) k x.id) (get_or (map (λ (f : LoadedFile). f.id) (x ∷ xs)) (k + 1) x.id) ≡ false = apart_from_distinct (eq_by_cmp compare_files) (map (λ (f : LoadedFile). f.id) (x ∷ xs)) k (k + 1) x.id apart (omega arith) (omega (arith, low, length-map (x ∷ xs) (λ (f : LoadedFile). f.id))) in
        let first : get_or (map (λ (f : LoadedFile). f.id) (x ∷ xs)) k x.id ≡ (get_or (x ∷ xs) k x).id = get_or-map (λ (f : LoadedFile). f.id) (x ∷ xs) k x x.id (omega (arith, low)) in
        let second : get_or (map (λ (f : LoadedFile). f.id) (x ∷ xs)) (k + 1) x.id ≡ (get_or (x ∷ xs) (k + 1) x).id = get_or-map (λ (f : LoadedFile). f.id) (x ∷ xs) (k + 1) x x.id low in
        let apart_here : eq_by_cmp compare_files (get_or (x ∷ xs) k x).id (get_or (x ∷ xs) (k + 1) x).id ≡ false = ap₂ (λ (a b : FileId). eq_by_cmp compare_files a b) (sym first) (sym second) ∙ distinct_ids in
        let s : true ≡ false = sym (ap is_eq same) ∙ apart_here in absurd (cc)

flips : (a b : FileId) → eq_by_cmp compare_files a b ≡ eq_by_cmp compare_files b a
flips a b = ap is_eq (compare_files_total.antisymm a b) ∙ other (compare_files b a)
  where
    other : (o : Ordering) → is_eq (ordering_reverse o) ≡ is_eq o
    other Less = refl
    other Equal = refl
    other Greater = refl

pub sorted_rises : (inputs : List Input) (ids : List FileId) (kept sorted : List LoadedFile) → AreKept inputs ids kept → IsStrictlySortedBy compare_files ids → IsPermutation kept sorted → IsSortedBy (λ a b. is_lt (compare_files a.id b.id)) sorted → IsStrictlySortedBy (on (λ (f : LoadedFile). f.id) compare_files) sorted
sorted_rises inputs ids kept sorted so rise moved up =
    let moved_ids : IsPermutation ids (map (λ (f : LoadedFile). f.id) sorted) = IsPermutation-trans ids (map (λ (f : LoadedFile). f.id) kept) (map (λ (f : LoadedFile). f.id) sorted) so.ids (IsPermutation-map (λ (f : LoadedFile). f.id) kept sorted moved) in
    strict sorted up (IsDistinct-IsPermutation (eq_by_cmp compare_files) flips ids (map (λ (f : LoadedFile). f.id) sorted) moved_ids (IsDistinct-from_sorted compare_files ids rise))

pub in_order : (inputs : List Input) (ids : List FileId) (kept sorted : List LoadedFile) → AreKept inputs ids kept → IsStrictlySortedBy compare_files ids → IsPermutation kept sorted → IsSortedBy (λ a b. is_lt (compare_files a.id b.id)) sorted → sorted ≡ files_of inputs ids
in_order inputs ids kept sorted so rise moved up =
    let moved_ids : IsPermutation ids (map (λ (f : LoadedFile). f.id) sorted) = IsPermutation-trans ids (map (λ (f : LoadedFile). f.id) kept) (map (λ (f : LoadedFile). f.id) sorted) so.ids (IsPermutation-map (λ (f : LoadedFile). f.id) kept sorted moved) in
    let apart : IsDistinct (eq_by_cmp compare_files) (map (λ (f : LoadedFile). f.id) sorted) = IsDistinct-IsPermutation (eq_by_cmp compare_files) flips ids (map (λ (f : LoadedFile). f.id) sorted) moved_ids (IsDistinct-from_sorted compare_files ids rise) in
    let rises : IsStrictlySortedBy compare_files (map (λ (f : LoadedFile). f.id) sorted) = rising_map (λ (f : LoadedFile). f.id) compare_files sorted (strict sorted up apart) in
    let same : map (λ (f : LoadedFile). f.id) sorted ≡ ids = rising_same compare_files_total (map (λ (f : LoadedFile). f.id) sorted) ids rises rise
    (λ id there. in_from_Contains ids id (Contains-permutation (map (λ (f : LoadedFile). f.id) sorted) ids id (IsPermutation-sym ids (map (λ (f : LoadedFile). f.id) sorted) moved_ids) (Contains_from_in (map (λ (f : LoadedFile). f.id) sorted) id there)))
    (λ id there. in_from_Contains (map (λ (f : LoadedFile). f.id) sorted) id (Contains-permutation ids (map (λ (f : LoadedFile). f.id) sorted) id moved_ids (Contains_from_in ids id there))) in
    files_again inputs sorted (λ f there. all_has (λ (file : LoadedFile). file_of inputs file.id ≡ Ok file) kept f so.read (in_from_Contains kept f (Contains-permutation sorted kept f (IsPermutation-sym kept sorted moved) (Contains_from_in sorted f there)))) ∙ ap (files_of inputs) same
