-- Where the definition of what is loaded has an answer, each file that a round brings can be read.
use Rattle.std.proofs.Common.{◌≡◌, ℕ, zero, suc, ◌+◌, ◌<◌, ◌≤◌, Bool, true, false, not, List, [], ◌∷◌, Contains, Option, Some, None, Result, Ok, Err, length, refl, sym, ap, ◌∙◌, subst, inl, inr, arith, zero-add}
use Rattle.std.proofs.Math.Nat.{le_refl}
use Rattle.std.specs.List.{range_with_len}
use Rattle.std.specs.Result.{result_err, result_ok}
use Rattle.list_lemmas.proofs.Members.{In, in_filter, in_from_Contains, Contains_from_in, from_filter_map, in_filter_map}
use Rattle.mo_types.specs.Scan.{first_some}
use Rattle.mo_types.specs.declared.key.FileId.{FileId}
use Rattle.mo_types.specs.declared.loaded.Loaded.{Loaded}
use Rattle.mo_types.specs.declared.loaded.LoadedFile.{LoadedFile}
use Rattle.lib_bind.specs.declared.library.LibraryGraph.{LibraryGraph}
use Rattle.member_rounds.specs.Growth.{is_in}
use Rattle.input_files.specs.Files.{all_ids, file_of, is_first}
use Rattle.member_rounds.specs.Rounds.{asks, files_of, loaded_ids, loaded_of, new_ids, round, round_fault}
use Rattle.input_files.specs.declared.fault.LoadFault.{LoadFault}
use Rattle.input_files.specs.declared.input.Input.{Input}
use Rattle.member_rounds.proofs.GrowthLemmas.{in_from_has, round_ends}

none_at : {A B : Type 0} (f : A → Option B) (xs : List A) (x : A) → first_some f xs ≡ None → In x xs → f x ≡ None
none_at f [] x none there = absurd there
none_at {B = B} f (y ∷ ys) x none there = by (λ later rest. none_at f ys x later rest) (f y) refl
  where
    by : (first_some f ys ≡ None → In x ys → f x ≡ None) → (o : Option B) → f y ≡ o → f x ≡ None
    by rest (Some v) o = absurd (let s : Some v ≡ None = rw o at none in cc)
    by rest None o = elim there [
      | inl e ↦ ap f (sym e) ∙ o
      | inr later ↦ rest (rw o at none) later
    ]

in_range : (n a k : ℕ) → k < n → In (a + k) (range_with_len a n)
in_range zero a k low = absurd (omega (arith, low))
in_range (suc n) a zero low = inl (let e : a ≡ a + 0 = omega arith in e)
in_range (suc n) a (suc k) low = inr (subst (λ (m : ℕ). In m (range_with_len (a + 1) n)) (let e : (a + 1) + k ≡ a + suc k = omega arith in e) (in_range n (a + 1) k (omega (arith, low))))

module _ (inputs : List Input) (libs : LibraryGraph) (wanted : List (List ℕ)) where
  pub faultless : (loaded : Loaded) → loaded_of inputs libs wanted ≡ Ok loaded → (first_some (round_fault inputs libs wanted) (range_with_len 0 (length (all_ids inputs) + 1)) ≡ None) × (loaded.files ≡ files_of inputs (loaded_ids inputs libs wanted))
  unfolding loaded_of
  faultless loaded is = by (first_some (round_fault inputs libs wanted) (range_with_len 0 (length (all_ids inputs) + 1))) refl
    where
      by : (o : Option LoadFault) → first_some (round_fault inputs libs wanted) (range_with_len 0 (length (all_ids inputs) + 1)) ≡ o → (first_some (round_fault inputs libs wanted) (range_with_len 0 (length (all_ids inputs) + 1)) ≡ None) × (loaded.files ≡ files_of inputs (loaded_ids inputs libs wanted))
      by (Some fault) o = absurd (let s : Err fault ≡ Ok loaded = rw o at is in cc)
      by None o =
          let s : Ok (record { files = files_of inputs (loaded_ids inputs libs wanted) }) ≡ Ok loaded = rw o at is in
          (o, ap (λ (r : Loaded). r.files) (let e : loaded ≡ record { files = files_of inputs (loaded_ids inputs libs wanted) } = cc in e))

  no_fault_in : (k : ℕ) (id : FileId) → round_fault inputs libs wanted k ≡ None → In id (new_ids inputs libs wanted k) → result_err (file_of inputs id) ≡ None
  unfolding round_fault
  no_fault_in k id none there = by (first_some (λ (i : FileId). result_err (file_of inputs i)) (new_ids inputs libs wanted k)) refl
    where
      by : (o : Option LoadFault) → first_some (λ (i : FileId). result_err (file_of inputs i)) (new_ids inputs libs wanted k) ≡ o → result_err (file_of inputs id) ≡ None
      by (Some fault) o = absurd (let s : Some fault ≡ None = rw o at none in cc)
      by None o = none_at (λ (i : FileId). result_err (file_of inputs i)) (new_ids inputs libs wanted k) id o there

  -- a file of a round is new in it or in one before
  came : (k : ℕ) (id : FileId) → In id (round inputs libs wanted k) → (j : ℕ) × (j ≤ k) × In id (new_ids inputs libs wanted j)
  came zero id there = (zero, le_refl zero, there)
  came (suc k) id there = by (λ before. came k id before) (is_in (round inputs libs wanted k) id) refl
    where
      by : (In id (round inputs libs wanted k) → (j : ℕ) × (j ≤ k) × In id (new_ids inputs libs wanted j)) → (b : Bool) → is_in (round inputs libs wanted k) id ≡ b → (j : ℕ) × (j ≤ suc k) × In id (new_ids inputs libs wanted j)
      by earlier true e = let r = earlier (in_from_has (round inputs libs wanted k) id e) in (r.0, omega (arith, r.1), r.2)
      by earlier false e = (suc k, le_refl (suc k), in_filter (λ (i : FileId). not (is_in (round inputs libs wanted k) i)) (round inputs libs wanted (suc k)) id there (ap not e))

read_then : (r : Result LoadedFile LoadFault) → result_err r ≡ None → (file : LoadedFile) × (r ≡ Ok file)
read_then (Ok file) none = (file, refl)
read_then (Err fault) none = absurd (let s : Some fault ≡ None = none in cc)

result_ok_is : (r : Result LoadedFile LoadFault) (file : LoadedFile) → r ≡ Ok file → result_ok r ≡ Some file
result_ok_is r file is = ap result_ok is

pub ok_back : (r : Result LoadedFile LoadFault) (file : LoadedFile) → result_ok r ≡ Some file → r ≡ Ok file
ok_back (Ok other) file is = let s : Some other ≡ Some file = is in cc
ok_back (Err fault) file is = absurd (let s : None ≡ Some file = is in cc)

pub loaded_all : (inputs : List Input) (libs : LibraryGraph) (wanted : List (List ℕ)) (loaded : Loaded) (id : FileId) → loaded_of inputs libs wanted ≡ Ok loaded → Contains (loaded_ids inputs libs wanted) id → (file : LoadedFile) × (file_of inputs id ≡ Ok file) × Contains loaded.files file
unfolding files_of
loaded_all inputs libs wanted loaded id is there =
    let n : ℕ = length (all_ids inputs) in
    let answer = faultless inputs libs wanted loaded is in
    let in_last : In id (round inputs libs wanted n) = subst (λ (ids : List FileId). In id ids) (sym (round_ends (all_ids inputs) (is_first inputs) (asks inputs libs wanted) n (le_refl n))) (in_from_Contains (loaded_ids inputs libs wanted) id there) in
    let first = came inputs libs wanted n id in_last in
    let at : In first.0 (range_with_len 0 (n + 1)) = subst (λ (m : ℕ). In m (range_with_len 0 (n + 1))) (zero-add first.0) (in_range (n + 1) 0 first.0 (omega (arith, first.1))) in
    let none : round_fault inputs libs wanted first.0 ≡ None = none_at (round_fault inputs libs wanted) (range_with_len 0 (n + 1)) first.0 answer.0 at in
    let read = read_then (file_of inputs id) (no_fault_in inputs libs wanted first.0 id none first.2) in
    (read.0, read.1, Contains_from_in loaded.files read.0 (subst (λ (files : List LoadedFile). In read.0 files) (sym answer.1) (in_filter_map (λ (i : FileId). result_ok (file_of inputs i)) (loaded_ids inputs libs wanted) id read.0 (in_from_Contains (loaded_ids inputs libs wanted) id there) (result_ok_is (file_of inputs id) read.0 read.1))))

pub loaded_only : (inputs : List Input) (libs : LibraryGraph) (wanted : List (List ℕ)) (loaded : Loaded) (file : LoadedFile) → loaded_of inputs libs wanted ≡ Ok loaded → Contains loaded.files file → (id : FileId) × Contains (loaded_ids inputs libs wanted) id × (file_of inputs id ≡ Ok file)
unfolding files_of
loaded_only inputs libs wanted loaded file is there =
    let answer = faultless inputs libs wanted loaded is in
    let found = from_filter_map (λ (i : FileId). result_ok (file_of inputs i)) (loaded_ids inputs libs wanted) file (subst (λ (files : List LoadedFile). In file files) answer.1 (in_from_Contains loaded.files file there)) in
    (found.0, Contains_from_in (loaded_ids inputs libs wanted) found.0 found.1, ok_back (file_of inputs found.0) file found.2)
