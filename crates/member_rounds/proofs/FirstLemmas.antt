-- The objects, which were read, and the members of forced archives are the files of the first round.
use Rattle.std.proofs.Common.{◌≡◌, ℕ, zero, suc, ◌+◌, ◌<◌, ◌≤◌, ◌^◌, ◌==◌, ◌&&◌, ◌||◌, ◌++◌, Bool, true, false, not, List, [], ◌∷◌, All, Option, Some, None, Result, Ok, Err, length, map, filter, refl, sym, ap, ◌∙◌, subst, inl, inr, arith, eqb-true, if◌then◌else◌}
use Rattle.std.specs.List.{AllByRecursion, filter_map, flat_map, range_with_len}
use Rattle.std.specs.List.Sorted.{IsPermutation, IsSortedBy, IsStrictlySortedBy}
use Rattle.std.specs.Ordering.{is_lt, nat_cmp}
use Rattle.std.specs.Result.{result_ok}
use Rattle.std.specs.declared.cmp.Ordering.TheVariants.{Less}
use Rattle.std.proofs.lemmas.Bool.{cases_Bool}
use Rattle.std.proofs.lemmas.Cmp.{nat_cmp_total, tied_itself}
use Rattle.std.proofs.lemmas.List.{map-append}
use Rattle.std.proofs.lemmas.List.Elements.{filter-append}
use Rattle.std.proofs.lemmas.List.Kept.{IsStrictlySortedBy-filter}
use Rattle.std.proofs.lemmas.List.Sorted.{All-permutation, IsPermutation-filter_both}
use Rattle.list_lemmas.proofs.Members.{In, all_in, any_from_in, from_filter, from_map, in_filter, in_map, in_either}
use Rattle.mo_types.specs.Gives.{◌>>=◌}
use Rattle.mo_types.specs.Keys.{compare_files}
use Rattle.mo_types.specs.Loaded.{IsWholeFile}
use Rattle.mo_types.specs.Scan.{first_some, option_or_else}
use Rattle.mo_types.specs.declared.key.FileId.{FileId}
use Rattle.mo_types.specs.declared.loaded.LoadedFile.{LoadedFile}
use Rattle.mo_ar.specs.declared.archive.Archive.{Archive}
use Rattle.input_files.specs.Files.{all_ids, archive_in, content_in, content_of, file_of, id_at, ids_as, ids_in, is_first, read_as}
use Rattle.member_rounds.specs.Rounds.{files_of}
use Rattle.input_files.specs.Sources.{AreInOrder, AreObjects, inputs_of, object_as, object_reads}
use Rattle.input_files.specs.declared.fault.LoadFault.{LoadFault}
use Rattle.input_files.specs.declared.input.Input.{Input}
use Rattle.input_files.specs.declared.sources.Source.{Source}
use Rattle.input_files.specs.inner.Holding.{AreReadable}
use Rattle.member_rounds.specs.inner.Working.{AreKept, read_each}
use Rattle.input_files.proofs.FileLemmas.{few_ids, id_kept, ids_rise}
use Rattle.input_files.proofs.PlaceLemmas.{other_position}
use Rattle.input_files.proofs.EachLemmas.{all_from, all_has}
use Rattle.member_rounds.proofs.StateLemmas.{each_ok}
use Rattle.member_rounds.proofs.StepLemmas.{in_order}

-- ---- the input of a file

module _ {B : Type 0} (h : Input → Option B) where
  abbrev at : ℕ → Input → Option B
  at p input = if input.position == p then h input else None

  none_later : (p : ℕ) (inputs : List Input) → AllByRecursion (λ q. nat_cmp p q ≡ Less) (map (λ input. input.position) inputs) → first_some (at p) inputs ≡ None
  none_later p [] later = refl
  none_later p (input ∷ inputs) later = rw (other_position p input.position later.0) (none_later p inputs later.1)

  alone : (o : Option B) → option_or_else o None ≡ o
  alone None = refl
  alone (Some v) = refl

  self : (p : ℕ) → (p == p) ≡ true
  self p = grind arith

  other_after : (p q : ℕ) → nat_cmp p q ≡ Less → (p == q) ≡ false
  other_after p q less = by (p == q) refl
    where
      by : (b : Bool) → (p == q) ≡ b → (p == q) ≡ false
      by true e = let same : p ≡ q = eqb-true p q e in absurd (let s : nat_cmp p p ≡ Less = ap (nat_cmp p) same ∙ less in let t = sym (tied_itself nat_cmp_total p) ∙ s in cc)
      by false e = e

  pub found_in : (inputs : List Input) (input : Input) → IsStrictlySortedBy nat_cmp (map (λ i. i.position) inputs) → In input inputs → first_some (at input.position) inputs ≡ h input
  unfolding IsStrictlySortedBy
  found_in [] input order there = absurd there
  found_in (i ∷ inputs) input order (inl e) =
      let here : first_some (at i.position) (i ∷ inputs) ≡ h i = rw (self i.position, none_later i.position inputs order.0) (alone (h i)) in
      subst (λ (j : Input). first_some (at j.position) (i ∷ inputs) ≡ h j) e here
  found_in (i ∷ inputs) input order (inr later) =
      let less : nat_cmp i.position input.position ≡ Less = all_in (λ (p : ℕ). nat_cmp i.position p ≡ Less) (map (λ (j : Input). j.position) inputs) input.position order.0 (in_map (λ (j : Input). j.position) inputs input later) in
      rw (other_after i.position input.position less) (found_in inputs input order.1 later)

-- ---- the objects

abbrev is_object : FileId → Bool
is_object id = id.member == 0

module _ (inputs : List Input) (order : AreInOrder inputs) where
  abbrev first_objects : List FileId → List FileId
  first_objects ids = filter is_object (filter (is_first inputs) ids)

  object_content : (input : Input) → In input inputs → archive_in input ≡ None → content_of inputs (id_at input 0) ≡ record { label = input.label; bytes = input.bytes }
  unfolding content_of content_in
  object_content input there none = rw (found_in (λ (i : Input). content_in i 0) inputs input order there, none) refl

  object_file : (input : Input) → In input inputs → archive_in input ≡ None → file_of inputs (id_at input 0) ≡ read_as (id_at input 0) input.label input.bytes
  unfolding file_of
  object_file input there none = rw (object_content input there none) refl

  object_first : (input : Input) → In input inputs → is_first inputs (id_at input 0) ≡ true
  unfolding is_first
  object_first input there = any_from_in (λ (i : Input). (i.position == input.position) && ((0 == 0) || i.forced)) inputs input there (rw (self_is input.position) refl)
    where
      self_is : (p : ℕ) → (p == p) ≡ true
      self_is p = grind arith

  -- no member counts from 0
  in_range : (n a k : ℕ) → In k (range_with_len a n) → a ≤ k
  in_range zero a k there = absurd there
  in_range (suc n) a k (inl e) = omega (arith, e)
  in_range (suc n) a k (inr later) = let r : a + 1 ≤ k = in_range n (a + 1) k later in omega (arith, r)

  none_pass : {X : Type 0} (t : X → Bool) (xs : List X) → ((x : X) → In x xs → t x ≡ false) → filter t xs ≡ []
  none_pass t [] none = refl
  none_pass t (x ∷ xs) none = rw (none x (inl refl)) (none_pass t xs (λ y there. none y (inr there)))

  above_zero : (k : ℕ) → 1 ≤ k → (k == 0) ≡ false
  above_zero k low = grind (arith, low)

  no_members : (input : Input) (n : ℕ) → first_objects (map (id_at input) (range_with_len 1 n)) ≡ []
  no_members input n = none_pass is_object (filter (is_first inputs) (map (id_at input) (range_with_len 1 n))) (λ id there.
      let from = from_map (id_at input) (range_with_len 1 n) id (from_filter (is_first inputs) (map (id_at input) (range_with_len 1 n)) id there).0 in
      ap is_object (sym from.2) ∙ above_zero from.0 (in_range n 1 from.0 from.1))

  both_append : (xs ys : List FileId) → first_objects (xs ++ ys) ≡ first_objects xs ++ first_objects ys
  both_append xs ys = ap (filter is_object) (filter-append (is_first inputs) xs ys) ∙ filter-append is_object (filter (is_first inputs) xs) (filter (is_first inputs) ys)

  ids_by : (input : Input) (o : Option Archive) → archive_in input ≡ o → ids_in input ≡ ids_as input o
  unfolding ids_in
  ids_by input o e = rw e refl

  abbrev Fine : List Input → List LoadedFile → Type 0
  Fine some objects = (map (λ file. file.id) objects ≡ first_objects (flat_map ids_in some)) × AllByRecursion (λ file. file_of inputs file.id ≡ Ok file) objects

  abbrev reads : List Input → List (Result LoadedFile LoadFault)
  reads some = filter_map (λ i. object_as i (archive_in i)) some

  objects_in : (some : List Input) → ((input : Input) → In input some → In input inputs) → (objects : List LoadedFile) → object_reads some ≡ map Ok objects → Fine some objects
  unfolding object_reads
  objects_in [] within [] is = (refl, tt)
  objects_in [] within (object ∷ objects) is = absurd (cc)
  objects_in (input ∷ some) within objects is = by (λ os. objects_in some (λ i there. within i (inr there)) os) (archive_in input) refl is
    where
      with_object : ((os : List LoadedFile) → reads some ≡ map Ok os → Fine some os) → archive_in input ≡ None → (objects : List LoadedFile) → read_as (id_at input 0) input.label input.bytes ∷ reads some ≡ map Ok objects → Fine (input ∷ some) objects
      with_object rest none [] h = absurd (cc)
      with_object rest none (o ∷ os) h =
          let read : read_as (id_at input 0) input.label input.bytes ≡ Ok o = cc in
          let more : reads some ≡ map Ok os = cc in
          let later = rest os more in
          let here : file_of inputs (id_at input 0) ≡ Ok o = object_file input (within input (inl refl)) none ∙ read in
          let same : o.id ≡ id_at input 0 = id_kept inputs (id_at input 0) o here in
          let first : first_objects (ids_in input) ≡ id_at input 0 ∷ [] = ap first_objects (ids_by input None none) ∙ rw (object_first input (within input (inl refl))) refl in
          (ap (λ (i : FileId). i ∷ map (λ (f : LoadedFile). f.id) os) same ∙ ap (λ (l : List FileId). id_at input 0 ∷ l) later.0 ∙ sym (both_append (ids_in input) (flat_map ids_in some) ∙ ap (λ (l : List FileId). l ++ first_objects (flat_map ids_in some)) first), (ap (file_of inputs) same ∙ here, later.1))

      by : ((os : List LoadedFile) → reads some ≡ map Ok os → Fine some os) → (o : Option Archive) → archive_in input ≡ o → reads (input ∷ some) ≡ map Ok objects → Fine (input ∷ some) objects
      by rest None e h = with_object rest e objects (rw e at h)
      by rest (Some archive) e h =
          let later = rest objects (rw e at h) in
          let first : first_objects (ids_in input) ≡ [] = ap first_objects (ids_by input (Some archive) e) ∙ no_members input (length archive.members) in
          (later.0 ∙ sym (both_append (ids_in input) (flat_map ids_in some) ∙ ap (λ (l : List FileId). l ++ first_objects (flat_map ids_in some)) first), later.1)

  objects_are : (objects : List LoadedFile) → AreObjects inputs objects → (map (λ file. file.id) objects ≡ first_objects (all_ids inputs)) × AllByRecursion (λ file. file_of inputs file.id ≡ Ok file) objects
  unfolding all_ids
  objects_are objects so = objects_in inputs (λ i there. there) objects so.read

-- ---- the first round

pub readable_members : (sources : List Source) (ids members : List FileId) → AreInOrder (inputs_of sources) → ids ≡ filter (is_first (inputs_of sources)) (all_ids (inputs_of sources)) → members ≡ filter (λ id. not (id.member == 0)) ids → AreReadable sources members
readable_members sources ids members order are is = record {
  order = order;
  few = all_from (λ (id : FileId). id.member < 2 ^ 20) members (λ id there.
      let one : In id ids = (from_filter (λ (i : FileId). not (i.member == 0)) ids id (subst (λ (l : List FileId). In id l) is there)).0 in
      few_ids (inputs_of sources) id (from_filter (is_first (inputs_of sources)) (all_ids (inputs_of sources)) id (subst (λ (l : List FileId). In id l) are one)).0);
}

-- the files of ids that can all be read
each_from : (inputs : List Input) (ids : List FileId) → ((id : FileId) → In id ids → (file : LoadedFile) × (file_of inputs id ≡ Ok file)) → read_each inputs ids ≡ Ok (files_of inputs ids)
unfolding files_of
each_from inputs [] all = refl
each_from inputs (id ∷ ids) all =
    let here = all id (inl refl) in
    let more : read_each inputs ids ≡ Ok (filter_map (λ i. result_ok (file_of inputs i)) ids) = each_from inputs ids (λ i there. all i (inr there)) in
    rw (here.1, more) refl

-- a fault among some of the ids is the first of all, where the others can be read
fault_of_some : (inputs : List Input) (t : FileId → Bool) (ids : List FileId) (fault : LoadFault) → ((id : FileId) → In id ids → t id ≡ false → (file : LoadedFile) × (file_of inputs id ≡ Ok file)) → read_each inputs (filter t ids) ≡ Err fault → read_each inputs ids ≡ Err fault
fault_of_some inputs t [] fault fine is = absurd (cc)
fault_of_some inputs t (id ∷ ids) fault fine is = by (λ e. fault_of_some inputs t ids fault (λ i there is_none. fine i (inr there) is_none) e) (t id) refl
  where
    after : (r : Result LoadedFile LoadFault) → file_of inputs id ≡ r → (r >>= λ file. read_each inputs (filter t ids) >>= λ files. Ok (file ∷ files)) ≡ Err fault → (read_each inputs (filter t ids) ≡ Err fault → read_each inputs ids ≡ Err fault) → (r >>= λ file. read_each inputs ids >>= λ files. Ok (file ∷ files)) ≡ Err fault
    after (Err e) r h rest = h
    after (Ok file) r h rest = within (read_each inputs (filter t ids)) refl h
      where
        within : (q : Result (List LoadedFile) LoadFault) → read_each inputs (filter t ids) ≡ q → (q >>= λ files. Ok (file ∷ files)) ≡ Err fault → (read_each inputs ids >>= λ files. Ok (file ∷ files)) ≡ Err fault
        within (Ok files) q k = absurd (let s : Ok (file ∷ files) ≡ Err fault = k in cc)
        within (Err e) q k = let s : Err e ≡ Err fault = k in let same : e ≡ fault = cc in ap (λ (p : Result (List LoadedFile) LoadFault). p >>= λ files. Ok (file ∷ files)) (rest (q ∙ ap Err same))

    by : (read_each inputs (filter t ids) ≡ Err fault → read_each inputs ids ≡ Err fault) → (b : Bool) → t id ≡ b → read_each inputs (id ∷ ids) ≡ Err fault
    by rest true e = after (file_of inputs id) refl (rw e at is) rest
    by rest false e = let here = fine id (inl refl) e in rw here.1 (ap (λ (p : Result (List LoadedFile) LoadFault). p >>= λ files. Ok (here.0 ∷ files)) (rest (rw e at is)))

module _ (inputs : List Input) (objects : List LoadedFile) (ids : List FileId) (order : AreInOrder inputs) (so : AreObjects inputs objects) (are : ids ≡ filter (is_first inputs) (all_ids inputs)) where
  object_ids : map (λ (f : LoadedFile). f.id) objects ≡ filter is_object ids
  object_ids = (objects_are inputs order objects so).0 ∙ ap (filter is_object) (sym are)

  object_read : (file : LoadedFile) → In file objects → file_of inputs file.id ≡ Ok file
  object_read file there = all_in (λ (f : LoadedFile). file_of inputs f.id ≡ Ok f) objects file (objects_are inputs order objects so).1 there

  not_member : (id : FileId) → not (id.member == 0) ≡ false → is_object id ≡ true
  not_member id is_none = by (id.member == 0) refl
    where
      by : (b : Bool) → (id.member == 0) ≡ b → (id.member == 0) ≡ true
      by true e = e
      by false e = absurd (let s : true ≡ false = rw e at is_none in cc)

  objects_fine : (id : FileId) → In id ids → is_object id ≡ true → (file : LoadedFile) × (file_of inputs id ≡ Ok file)
  objects_fine id there is_one =
      let at : In id (map (λ (f : LoadedFile). f.id) objects) = subst (λ (l : List FileId). In id l) (sym object_ids) (in_filtered id there is_one) in
      let from = from_map (λ (f : LoadedFile). f.id) objects id at in
      (from.0, ap (file_of inputs) (sym from.2) ∙ object_read from.0 from.1)
    where
      in_filtered : (id : FileId) → In id ids → is_object id ≡ true → In id (filter is_object ids)
      in_filtered id there is_one = in_filter is_object ids id there is_one

  pub first_fails : (members : List FileId) (fault : LoadFault) → members ≡ filter (λ id. not (id.member == 0)) ids → read_each inputs members ≡ Err fault → read_each inputs ids ≡ Err fault
  first_fails members fault is faulty = fault_of_some inputs (λ id. not (id.member == 0)) ids fault (λ id there is_none. objects_fine id there (not_member id is_none)) (subst (λ (l : List FileId). read_each inputs l ≡ Err fault) is faulty)

  module _ (members : List FileId) (read more sorted : List LoadedFile) (is : members ≡ filter (λ id. not (id.member == 0)) ids) (each : read_each inputs members ≡ Ok read) (joined : more ≡ objects ++ read) where
    kept_first : AreKept inputs ids more
    kept_first = record {
      ids = subst (λ (l : List FileId). IsPermutation ids l) (sym (ap (map (λ (f : LoadedFile). f.id)) joined ∙ map-append (λ (f : LoadedFile). f.id) objects read ∙ ap (λ (l : List FileId). l ++ map (λ (f : LoadedFile). f.id) read) object_ids ∙ ap (λ (l : List FileId). filter is_object ids ++ l) ((each_ok inputs members read each).1 ∙ is)))
          (IsPermutation-filter_both is_object (λ id. not (is_object id)) (λ id. refl) ids);
      read = all_from (λ (f : LoadedFile). file_of inputs f.id ≡ Ok f) more (λ file there. elim (in_either objects read file (subst (λ (fs : List LoadedFile). In file fs) joined there)) [
        | inl o ↦ object_read file o
        | inr m ↦ all_in (λ (f : LoadedFile). file_of inputs f.id ≡ Ok f) read file (each_ok inputs members read each).2 m
      ]);
    }

    rise : IsStrictlySortedBy compare_files ids
    rise = subst (λ (l : List FileId). IsStrictlySortedBy compare_files l) (sym are) (IsStrictlySortedBy-filter compare_files (is_first inputs) (all_ids inputs) (ids_rise inputs order))

    all_fine : (id : FileId) → In id ids → (file : LoadedFile) × (file_of inputs id ≡ Ok file)
    all_fine id there = elim (cases_Bool (is_object id)) [
      | inl is_one ↦ objects_fine id there is_one
      | inr is_none ↦
          let at : In id (map (λ (f : LoadedFile). f.id) read) = subst (λ (l : List FileId). In id l) (sym ((each_ok inputs members read each).1 ∙ is)) (in_filter (λ (i : FileId). not (is_object i)) ids id there (ap not is_none)) in
          let from = from_map (λ (f : LoadedFile). f.id) read id at in
          (from.0, ap (file_of inputs) (sym from.2) ∙ all_in (λ (f : LoadedFile). file_of inputs f.id ≡ Ok f) read from.0 (each_ok inputs members read each).2 from.1)
    ]

    pub first_reads : IsPermutation more sorted → IsSortedBy (λ a b. is_lt (compare_files a.id b.id)) sorted → read_each inputs ids ≡ Ok sorted
    first_reads moved up = each_from inputs ids all_fine ∙ ap Ok (sym (in_order inputs ids more sorted kept_first rise moved up))

    pub first_whole : IsPermutation more sorted → All IsWholeFile read → All IsWholeFile sorted
    first_whole moved whole = All-permutation IsWholeFile more sorted moved (all_from IsWholeFile more (λ file there. elim (in_either objects read file (subst (λ (fs : List LoadedFile). In file fs) joined there)) [
      | inl o ↦ all_has IsWholeFile objects file so.whole o
      | inr m ↦ all_has IsWholeFile read file whole m
    ]))
