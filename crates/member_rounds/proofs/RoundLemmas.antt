-- The files that a link loads, by what names ask for.
use Rattle.std.proofs.Common.{◌≡◌, ℕ, ◌<◌, ◌≤◌, ◌⊎◌, Bool, true, false, List, Contains, Option, Some, None, nat_lt, refl, inl, inr}
use Rattle.std.proofs.lemmas.Bool.{ltb-false}
use Rattle.list_lemmas.proofs.Members.{in_from_Contains, Contains_from_in, from_filter_map, in_filter_map}
use Rattle.mo_types.specs.Scan.{first_some}
use Rattle.mo_types.specs.declared.key.FileId.{FileId}
use Rattle.lib_bind.specs.Provides.{offer_of}
use Rattle.lib_bind.specs.declared.library.LibraryGraph.{LibraryGraph}
use Rattle.lib_bind.specs.declared.provider.Offer.{Offer}
use Rattle.input_files.specs.Files.{all_ids, is_first}
use Rattle.member_rounds.specs.Rounds.{asked_by, asked_ids, asks, files_of, is_header_name, loaded_ids, missing_names, offer_in, round, unless_before}
use Rattle.input_files.specs.declared.input.Input.{Input}
use Rattle.member_rounds.proofs.GrowthLemmas.{has_from_in, in_from_has, round_closed, round_reason}

asks_for : (inputs : List Input) (libs : LibraryGraph) (wanted : List (List ℕ)) (ids : List FileId) (name : List ℕ) (id : FileId) → Contains (missing_names (files_of inputs ids) wanted) name → asked_by inputs libs name ≡ Some id → asks inputs libs wanted ids id ≡ true
unfolding asks asked_ids
asks_for inputs libs wanted ids name id missing is = has_from_in (asked_ids inputs libs wanted ids) id (in_filter_map (asked_by inputs libs) (missing_names (files_of inputs ids) wanted) name id (in_from_Contains (missing_names (files_of inputs ids) wanted) name missing) is)

asked_for : (inputs : List Input) (libs : LibraryGraph) (wanted : List (List ℕ)) (ids : List FileId) (id : FileId) → asks inputs libs wanted ids id ≡ true → (name : List ℕ) × Contains (missing_names (files_of inputs ids) wanted) name × (asked_by inputs libs name ≡ Some id)
unfolding asks asked_ids
asked_for inputs libs wanted ids id is =
    let found = from_filter_map (asked_by inputs libs) (missing_names (files_of inputs ids) wanted) id (in_from_has (asked_ids inputs libs wanted ids) id is) in
    (found.0, Contains_from_in (missing_names (files_of inputs ids) wanted) found.0 found.1, found.2)

pub loaded_closed : (inputs : List Input) (libs : LibraryGraph) (wanted : List (List ℕ)) (name : List ℕ) (id : FileId) → Contains (missing_names (files_of inputs (loaded_ids inputs libs wanted)) wanted) name → asked_by inputs libs name ≡ Some id → Contains (all_ids inputs) id → Contains (loaded_ids inputs libs wanted) id
loaded_closed inputs libs wanted name id missing is there =
    round_closed (all_ids inputs) (is_first inputs) (asks inputs libs wanted) id there (asks_for inputs libs wanted (loaded_ids inputs libs wanted) name id missing is)

pub loaded_reason : (inputs : List Input) (libs : LibraryGraph) (wanted : List (List ℕ)) (k : ℕ) (id : FileId) → Contains (round inputs libs wanted k) id → (is_first inputs id ≡ true) ⊎ ((j : ℕ) × (name : List ℕ) × (j < k) × Contains (missing_names (files_of inputs (round inputs libs wanted j)) wanted) name × (asked_by inputs libs name ≡ Some id))
loaded_reason inputs libs wanted k id there = elim (round_reason (all_ids inputs) (is_first inputs) (asks inputs libs wanted) k id there) [
  | inl f ↦ inl f
  | inr r ↦ let found = asked_for inputs libs wanted (round inputs libs wanted r.0) id r.2 in inr (r.0, found.0, r.1, found.1, found.2)
]

pub library_first : (inputs : List Input) (libs : LibraryGraph) (name : List ℕ) (id : FileId) (offer : Offer) → asked_by inputs libs name ≡ Some id → offer_of libs name ≡ Some offer → id.position ≤ offer.library.position
unfolding asked_by
library_first inputs libs name id offer asked offers = by (is_header_name name) refl
  where
    before : (o : Option FileId) → unless_before o (Some offer) ≡ Some id → id.position ≤ offer.library.position
    before None e = absurd (let s : None ≡ Some id = e in cc)
    before (Some other) e = by_test (nat_lt offer.library.position other.position) refl
      where
        by_test : (b : Bool) → nat_lt offer.library.position other.position ≡ b → id.position ≤ offer.library.position
        by_test true low = absurd (let s : None ≡ Some id = rw low at e in cc)
        by_test false high =
            let s : Some other ≡ Some id = rw high at e in
            let same : other ≡ id = cc in
            rw same at (ltb-false offer.library.position other.position high)

    by : (b : Bool) → is_header_name name ≡ b → id.position ≤ offer.library.position
    by true header = absurd (let s : None ≡ Some id = rw header at asked in cc)
    by false other = before (first_some (offer_in name) inputs) (rw (other, offers) at asked)

pub header_asks_nobody : (inputs : List Input) (libs : LibraryGraph) (name : List ℕ) → is_header_name name ≡ true → asked_by inputs libs name ≡ None
unfolding asked_by
header_asks_nobody inputs libs name header = rw header refl

pub ruleset loads = (loaded_closed, loaded_reason, library_first, header_asks_nobody)
