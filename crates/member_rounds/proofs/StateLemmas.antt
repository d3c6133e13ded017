-- A link from round to round.
use Rattle.std.proofs.Common.{◌≡◌, ℕ, zero, suc, ◌||◌, ◌++◌, Bool, true, not, List, [], ◌∷◌, Some, None, Result, Ok, Err, length, map, refl, sym, ap, ◌∙◌, subst, inl, inr}
use Rattle.std.specs.List.{AllByRecursion, flat_map, list_any}
use Rattle.std.specs.List.Sorted.{IsPermutation, IsStrictlySortedBy}
use Rattle.std.specs.Cmp.Lexicographic.{nat_list_eq_equiv}
use Rattle.std.specs.Result.{result_err, result_ok}
use Rattle.std.specs.Str.{bytes_eq}
use Rattle.std.proofs.lemmas.List.{map-append}
use Rattle.std.proofs.lemmas.List.Kept.{IsStrictlySortedBy-filter}
use Rattle.std.proofs.lemmas.List.Sorted.{IsPermutation-refl, IsPermutation-filter_both, IsPermutation-append, IsPermutation-trans, IsPermutation-sym, Contains-permutation}
use Rattle.std.proofs.lemmas.Map.Made.{length-from_same_keys}
use Rattle.std.proofs.lemmas.Slice.Eq.{bytes_eq-Decides}
use Rattle.list_lemmas.proofs.Members.{In, in_from_Contains, Contains_from_in, any_from_in, any_true, from_map, in_map, all_in, from_filter_map, from_flat, in_either, in_filter_map, in_flat, in_left, in_right}
use Rattle.list_lemmas.proofs.Rising.{rising_same}
use Rattle.mo_types.proofs.KeyOrder.{compare_files_total}
use Rattle.mo_types.specs.Gives.{◌>>=◌}
use Rattle.mo_types.specs.Keys.{compare_files}
use Rattle.mo_types.specs.Scan.{first_some}
use Rattle.mo_types.specs.declared.key.FileId.{FileId}
use Rattle.mo_types.specs.declared.loaded.LoadedFile.{LoadedFile}
use Rattle.lib_bind.specs.declared.library.LibraryGraph.{LibraryGraph}
use Rattle.name_ids.specs.Names.{external_names, external_of, numbered}
use Rattle.name_ids.proofs.Once.{distinct, all, only}
use Rattle.member_rounds.specs.Growth.{after, is_in, union}
use Rattle.input_files.specs.Files.{all_ids, file_of, is_first}
use Rattle.input_files.proofs.FileLemmas.{id_kept}
use Rattle.member_rounds.specs.Rounds.{asks, files_of, has_candidate, loaded_ids, names_fault, new_ids, round}
use Rattle.input_files.specs.declared.fault.LoadFault.{LoadFault}
use Rattle.input_files.specs.declared.input.Input.{Input}
use Rattle.member_rounds.specs.inner.Working.{AreKept, before, read_each}
use Rattle.input_files.proofs.EachLemmas.{all_from, all_has}
use Rattle.member_rounds.proofs.GrowthLemmas.{has_from_in, in_from_has}
use Rattle.member_rounds.proofs.WorkLemmas.{kept_files, same_candidates, same_tests}

-- ---- what is read

pub each_ok : (inputs : List Input) (ids : List FileId) (files : List LoadedFile) → read_each inputs ids ≡ Ok files → (first_some (λ id. result_err (file_of inputs id)) ids ≡ None) × (map (λ file. file.id) files ≡ ids) × AllByRecursion (λ file. file_of inputs file.id ≡ Ok file) files
each_ok inputs [] files is = let e : [] ≡ files = (let s : Ok [] ≡ Ok files = is in cc) in subst (λ (fs : List LoadedFile). (first_some (λ id. result_err (file_of inputs id)) [] ≡ None) × (map (λ file. file.id) fs ≡ []) × AllByRecursion (λ file. file_of inputs file.id ≡ Ok file) fs) e (refl, refl, tt)
each_ok inputs (id ∷ ids) files is = by (λ fs. each_ok inputs ids fs) (file_of inputs id) refl
  where
    rest_by : ((fs : List LoadedFile) → read_each inputs ids ≡ Ok fs → (first_some (λ id. result_err (file_of inputs id)) ids ≡ None) × (map (λ file. file.id) fs ≡ ids) × AllByRecursion (λ file. file_of inputs file.id ≡ Ok file) fs) → (file : LoadedFile) → file_of inputs id ≡ Ok file → (r : Result (List LoadedFile) LoadFault) → read_each inputs ids ≡ r → (r >>= λ fs. Ok (file ∷ fs)) ≡ Ok files → (first_some (λ id. result_err (file_of inputs id)) (id ∷ ids) ≡ None) × (map (λ file. file.id) files ≡ id ∷ ids) × AllByRecursion (λ file. file_of inputs file.id ≡ Ok file) files
    rest_by rest file here (Err e) r s = absurd (let t : Err e ≡ Ok files = s in cc)
    rest_by rest file here (Ok fs) r s =
        let whole : file ∷ fs ≡ files = (let t : Ok (file ∷ fs) ≡ Ok files = s in cc) in
        let more = rest fs r in
        let same : file.id ≡ id = id_kept inputs id file here in
        subst (λ (gs : List LoadedFile). (first_some (λ id. result_err (file_of inputs id)) (id ∷ ids) ≡ None) × (map (λ file. file.id) gs ≡ id ∷ ids) × AllByRecursion (λ file. file_of inputs file.id ≡ Ok file) gs) whole
        (rw here more.0, ap (λ (i : FileId). i ∷ map (λ (f : LoadedFile). f.id) fs) same ∙ ap (λ (l : List FileId). id ∷ l) more.1, (ap (file_of inputs) same ∙ here, more.2))

    by : ((fs : List LoadedFile) → read_each inputs ids ≡ Ok fs → (first_some (λ id. result_err (file_of inputs id)) ids ≡ None) × (map (λ file. file.id) fs ≡ ids) × AllByRecursion (λ file. file_of inputs file.id ≡ Ok file) fs) → (r : Result LoadedFile LoadFault) → file_of inputs id ≡ r → (first_some (λ id. result_err (file_of inputs id)) (id ∷ ids) ≡ None) × (map (λ file. file.id) files ≡ id ∷ ids) × AllByRecursion (λ file. file_of inputs file.id ≡ Ok file) files
    by rest (Err e) r = absurd (let t : Err e ≡ Ok files = rw r at is in cc)
    by rest (Ok file) r = rest_by rest file r (read_each inputs ids) refl (rw r at is)

pub each_err : (inputs : List Input) (ids : List FileId) (fault : LoadFault) → read_each inputs ids ≡ Err fault → first_some (λ id. result_err (file_of inputs id)) ids ≡ Some fault
each_err inputs [] fault is = absurd (let s : Ok [] ≡ Err fault = is in cc)
each_err inputs (id ∷ ids) fault is = by (λ e. each_err inputs ids e) (file_of inputs id) refl
  where
    rest_by : ((e : LoadFault) → read_each inputs ids ≡ Err e → first_some (λ id. result_err (file_of inputs id)) ids ≡ Some e) → (file : LoadedFile) → file_of inputs id ≡ Ok file → (r : Result (List LoadedFile) LoadFault) → read_each inputs ids ≡ r → (r >>= λ fs. Ok (file ∷ fs)) ≡ Err fault → first_some (λ id. result_err (file_of inputs id)) (id ∷ ids) ≡ Some fault
    rest_by rest file here (Ok fs) r s = absurd (let t : Ok (file ∷ fs) ≡ Err fault = s in cc)
    rest_by rest file here (Err e) r s = rw here (rest fault (r ∙ (let t : Err e ≡ Err fault = s in ap Err (let u : e ≡ fault = cc in u))))

    by : ((e : LoadFault) → read_each inputs ids ≡ Err e → first_some (λ id. result_err (file_of inputs id)) ids ≡ Some e) → (r : Result LoadedFile LoadFault) → file_of inputs id ≡ r → first_some (λ id. result_err (file_of inputs id)) (id ∷ ids) ≡ Some fault
    by rest (Err e) r = rw r (let t : Err e ≡ Err fault = rw r at is in ap Some (let u : e ≡ fault = cc in u))
    by rest (Ok file) r = rest_by rest file r (read_each inputs ids) refl (rw r at is)

-- ---- the ids

after_rises : (all : List FileId) (first : FileId → Bool) (asks : List FileId → FileId → Bool) (k : ℕ) → IsStrictlySortedBy compare_files all → IsStrictlySortedBy compare_files (after all first asks k)
unfolding after
after_rises all first asks zero rise = IsStrictlySortedBy-filter compare_files first all rise
after_rises all first asks (suc k) rise = IsStrictlySortedBy-filter compare_files (λ x. is_in (after all first asks k) x || asks (after all first asks k) x) all rise

member_test : (xs ys : List FileId) → ((id : FileId) → is_in xs id ≡ is_in ys id) → (id : FileId) → In id xs → In id ys
member_test xs ys same id there = in_from_has ys id (sym (same id) ∙ has_from_in xs id there)

pub same_ids : (xs ys : List FileId) → IsStrictlySortedBy compare_files xs → IsStrictlySortedBy compare_files ys → ((id : FileId) → is_in xs id ≡ is_in ys id) → xs ≡ ys
same_ids xs ys up also same = rising_same compare_files_total xs ys up also (member_test xs ys same) (member_test ys xs (λ id. sym (same id)))

module _ (inputs : List Input) (libs : LibraryGraph) (wanted : List (List ℕ)) where
  abbrev among : ℕ → List FileId
  among k = round inputs libs wanted k

  abbrev fresh : ℕ → List FileId
  fresh k = new_ids inputs libs wanted k

  pub round_rises : (k : ℕ) → IsStrictlySortedBy compare_files (all_ids inputs) → IsStrictlySortedBy compare_files (among k)
  round_rises k rise = after_rises (all_ids inputs) (is_first inputs) (asks inputs libs wanted) k rise

  pub union_rises : IsStrictlySortedBy compare_files (all_ids inputs) → IsStrictlySortedBy compare_files (loaded_ids inputs libs wanted)
  unfolding union
  union_rises rise = round_rises (length (all_ids inputs)) rise

  pub fresh_rises : (k : ℕ) → IsStrictlySortedBy compare_files (all_ids inputs) → IsStrictlySortedBy compare_files (fresh k)
  fresh_rises zero rise = round_rises zero rise
  fresh_rises (suc k) rise = IsStrictlySortedBy-filter compare_files (λ id. not (is_in (among k) id)) (among (suc k)) (round_rises (suc k) rise)

  parts : (k : ℕ) → IsPermutation (among k) (before inputs libs wanted k ++ fresh k)
  parts zero = IsPermutation-refl (among zero)
  parts (suc k) = subst (λ (xs : List FileId). IsPermutation (among (suc k)) (xs ++ fresh (suc k))) (kept_files (all_ids inputs) (is_first inputs) (asks inputs libs wanted) k) (IsPermutation-filter_both (is_in (among k)) (λ id. not (is_in (among k) id)) (λ id. refl) (among (suc k)))

  pub kept_more : (k : ℕ) (kept files more : List LoadedFile) → AreKept inputs (before inputs libs wanted k) kept → read_each inputs (fresh k) ≡ Ok files → more ≡ kept ++ files → AreKept inputs (among k) more
  kept_more k kept files more so read is = record {
    ids = subst (λ (xs : List FileId). IsPermutation (among k) xs) (sym (ap (map (λ (f : LoadedFile). f.id)) is ∙ map-append (λ (f : LoadedFile). f.id) kept files))
        (IsPermutation-trans (among k) (before inputs libs wanted k ++ fresh k) (map (λ (f : LoadedFile). f.id) kept ++ map (λ (f : LoadedFile). f.id) files) (parts k)
        (IsPermutation-append (before inputs libs wanted k) (map (λ (f : LoadedFile). f.id) kept) (fresh k) (map (λ (f : LoadedFile). f.id) files) so.ids (subst (λ (xs : List FileId). IsPermutation (fresh k) xs) (sym (each_ok inputs (fresh k) files read).1) (IsPermutation-refl (fresh k)))));
    read = all_from (λ (f : LoadedFile). file_of inputs f.id ≡ Ok f) more (λ file there. elim (in_either kept files file (subst (λ (fs : List LoadedFile). In file fs) is there)) [
      | inl old ↦ all_has (λ (f : LoadedFile). file_of inputs f.id ≡ Ok f) kept file so.read old
      | inr new ↦ all_in (λ (f : LoadedFile). file_of inputs f.id ≡ Ok f) files file (each_ok inputs (fresh k) files read).2 new
    ]);
  }

-- ---- the files that are kept

ok_is : (r : Result LoadedFile LoadFault) (file : LoadedFile) → result_ok r ≡ Some file → r ≡ Ok file
ok_is (Ok other) file is = let s : Some other ≡ Some file = is in cc
ok_is (Err fault) file is = absurd (let s : None ≡ Some file = is in cc)

pub kept_there : (inputs : List Input) (ids : List FileId) (kept : List LoadedFile) → AreKept inputs ids kept → (file : LoadedFile) → In file kept → In file (files_of inputs ids)
unfolding files_of
kept_there inputs ids kept so file there =
    let read : file_of inputs file.id ≡ Ok file = all_has (λ (f : LoadedFile). file_of inputs f.id ≡ Ok f) kept file so.read there in
    let at : In file.id ids = in_from_Contains ids file.id (Contains-permutation (map (λ (f : LoadedFile). f.id) kept) ids file.id (IsPermutation-sym ids (map (λ (f : LoadedFile). f.id) kept) so.ids) (Contains_from_in (map (λ (f : LoadedFile). f.id) kept) file.id (in_map (λ (f : LoadedFile). f.id) kept file there))) in
    in_filter_map (λ (id : FileId). result_ok (file_of inputs id)) ids file.id file at (ap result_ok read)

pub there_kept : (inputs : List Input) (ids : List FileId) (kept : List LoadedFile) → AreKept inputs ids kept → (file : LoadedFile) → In file (files_of inputs ids) → In file kept
unfolding files_of
there_kept inputs ids kept so file there =
    let from = from_filter_map (λ (id : FileId). result_ok (file_of inputs id)) ids file there in
    let at : In from.0 (map (λ (f : LoadedFile). f.id) kept) = in_from_Contains (map (λ (f : LoadedFile). f.id) kept) from.0 (Contains-permutation ids (map (λ (f : LoadedFile). f.id) kept) from.0 so.ids (Contains_from_in ids from.0 from.1)) in
    let held = from_map (λ (f : LoadedFile). f.id) kept from.0 at in
    let read : file_of inputs (held.0).id ≡ Ok held.0 = all_has (λ (f : LoadedFile). file_of inputs f.id ≡ Ok f) kept held.0 so.read held.1 in
    let also : file_of inputs from.0 ≡ Ok file = ok_is (file_of inputs from.0) file from.2 in
    let both : Ok held.0 ≡ Ok file = sym read ∙ ap (file_of inputs) held.2 ∙ also in
    let same : held.0 ≡ file = cc in
    subst (λ (f : LoadedFile). In f kept) same held.1

pub kept_candidates : (inputs : List Input) (ids : List FileId) (kept : List LoadedFile) (name : List ℕ) → AreKept inputs ids kept → has_candidate kept name ≡ has_candidate (files_of inputs ids) name
kept_candidates inputs ids kept name so = same_candidates kept (files_of inputs ids) name (kept_there inputs ids kept so) (there_kept inputs ids kept so)

-- ---- how many names

pub named_in : (files : List LoadedFile) (wanted : List (List ℕ)) (name : List ℕ) → list_any (bytes_eq name) (numbered (external_names files ++ wanted)) ≡ true → In name (external_names files ++ wanted)
named_in files wanted name has =
    let found = any_true (bytes_eq name) (numbered (external_names files ++ wanted)) has in
    let same : name ≡ found.0 = (bytes_eq-Decides name found.0).0 found.2 in
    subst (λ (n : List ℕ). In n (external_names files ++ wanted)) (sym same) (in_from_Contains (external_names files ++ wanted) found.0 (only (external_names files ++ wanted) found.0 (Contains_from_in (numbered (external_names files ++ wanted)) found.0 found.1)))

pub in_numbered : (files : List LoadedFile) (wanted : List (List ℕ)) (name : List ℕ) → In name (external_names files ++ wanted) → In name (numbered (external_names files ++ wanted))
in_numbered files wanted name there = in_from_Contains (numbered (external_names files ++ wanted)) name (all (external_names files ++ wanted) name (Contains_from_in (external_names files ++ wanted) name there))

pub in_named : (files : List LoadedFile) (wanted : List (List ℕ)) (name : List ℕ) → In name (external_names files ++ wanted) → list_any (bytes_eq name) (numbered (external_names files ++ wanted)) ≡ true
in_named files wanted name there = any_from_in (bytes_eq name) (numbered (external_names files ++ wanted)) name (in_from_Contains (numbered (external_names files ++ wanted)) name (all (external_names files ++ wanted) name (Contains_from_in (external_names files ++ wanted) name there))) ((bytes_eq-Decides name name).1 refl)

pub more_names : (xs ys : List LoadedFile) (wanted : List (List ℕ)) → ((file : LoadedFile) → In file xs → In file ys) → (name : List ℕ) → In name (external_names xs ++ wanted) → In name (external_names ys ++ wanted)
unfolding external_names
more_names xs ys wanted more name there = elim (in_either (flat_map (λ (f : LoadedFile). external_of f.object.symbols) xs) wanted name there) [
  | inl f ↦
      let from = from_flat (λ (f : LoadedFile). external_of f.object.symbols) xs name f in
      in_left (flat_map (λ (f : LoadedFile). external_of f.object.symbols) ys) wanted name (in_flat (λ (f : LoadedFile). external_of f.object.symbols) ys from.0 name (more from.0 from.1) from.2)
  | inr w ↦ in_right (flat_map (λ (f : LoadedFile). external_of f.object.symbols) ys) wanted name w
]

pub names_same : (xs ys : List LoadedFile) (wanted : List (List ℕ)) → ((file : LoadedFile) → In file xs → In file ys) → ((file : LoadedFile) → In file ys → In file xs) → length (numbered (external_names xs ++ wanted)) ≡ length (numbered (external_names ys ++ wanted))
names_same xs ys wanted to from =
    length-from_same_keys {eq = bytes_eq} nat_list_eq_equiv (numbered (external_names xs ++ wanted)) (numbered (external_names ys ++ wanted)) (distinct (external_names xs ++ wanted)) (distinct (external_names ys ++ wanted))
    (λ name. same_tests (list_any (bytes_eq name) (numbered (external_names xs ++ wanted))) (list_any (bytes_eq name) (numbered (external_names ys ++ wanted)))
    (λ has. in_named ys wanted name (more_names xs ys wanted to name (named_in xs wanted name has)))
    (λ has. in_named xs wanted name (more_names ys xs wanted from name (named_in ys wanted name has))))

pub kept_names : (inputs : List Input) (ids : List FileId) (kept : List LoadedFile) (wanted : List (List ℕ)) → AreKept inputs ids kept → names_fault kept wanted ≡ names_fault (files_of inputs ids) wanted
kept_names inputs ids kept wanted so = rw (names_same kept (files_of inputs ids) wanted (kept_there inputs ids kept so) (there_kept inputs ids kept so)) refl
