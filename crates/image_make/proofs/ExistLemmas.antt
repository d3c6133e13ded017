-- Each plan has an image, or a reason why there is none.
use Rattle.std.proofs.Common.{◌≡◌, ◌≢◌, ℕ, ◌-◌, ◌<◌, ◌≤◌, ◌^◌, ◌⊎◌, inl, inr, pos, ℤ, Bool, true, false, List, [], ◌∷◌, length, replicate, take, drop, Option, Some, None, Ok, Err, refl, sym, ◌∙◌, arith, if◌then◌else◌}
use Rattle.std.specs.Prelude.{◌==◌, All, slice_get}
use Rattle.std.specs.Option.{option_map_or}
use Rattle.std.proofs.lemmas.Bool.{cases_lt}
use Rattle.std.proofs.lemmas.Cmp.{on_total}
use Rattle.std.proofs.lemmas.List.{length-replicate}
use Rattle.std.proofs.lemmas.List.Elements.{All-contains, All-from_recursion}
use Rattle.list_lemmas.proofs.Members.{Contains_from_in, In, all_from_in}
use Rattle.sort_lemmas.proofs.Sorting.{sorted_exists}
use Rattle.fixup_chain.specs.Chained.{AreChains, AreMany, IsCause}
use Rattle.fixup_chain.specs.declared.chains.ChainFault.{ChainFault}
use Rattle.fixup_chain.specs.declared.chains.ChainFault.TheVariants as chain
use Rattle.fixup_chain.specs.declared.chains.ChainWord.{ChainWord}
use Rattle.fixup_chain.specs.declared.chains.Chains.{Chains}
use Rattle.fixup_chain.specs.declared.chains.Fixup.{Fixup}
use Rattle.fixup_chain.proofs.ExistLemmas.{an_answer}
use Rattle.mo_types.proofs.KeyOrder.{compare_keys_total}
use Rattle.mo_types.specs.AtomBytes.{atom_bytes}
use Rattle.mo_types.specs.Loaded.{IsWholeLoaded}
use Rattle.mo_types.specs.RelocationRules.{section_numbered}
use Rattle.mo_types.specs.declared.atom.Atom.{Atom}
use Rattle.mo_types.specs.declared.key.AtomKey.{AtomKey}
use Rattle.mo_types.specs.declared.loaded.LoadedFile.{LoadedFile}
use Rattle.mo_types.specs.declared.object.Object.{Object}
use Rattle.mo_types.specs.declared.object.Section.{Section}
use Rattle.sect_place.specs.Layout.{base_of, image_places, image_sections, image_segments, image_size}
use Rattle.sect_place.specs.declared.layout.Layout.{Layout}
use Rattle.sect_place.specs.declared.layout.Placed.{Placed}
use Rattle.sect_place.specs.declared.size.PlaceFault.TheVariants.{ImageSize}
use Rattle.patch.specs.Range.{HasBytes, IsLeastFault, IsPlaced, IsSameBeside, bytes_of}
use Rattle.patch.specs.declared.met.RangeFault.{RangeFault}
use Rattle.patch.specs.declared.range.PlacedWork.{PlacedWork}
use Rattle.patch.proofs.ChosenLemmas.{in_slice}
use Rattle.patch.proofs.ExistLemmas.{AreBytes, all_from_bytes, bytes_from_all, bytes_left, bytes_taken, placed_or_fault}
use Rattle.ref_meet.specs.Mets.{mets_of}
use Rattle.ref_meet.specs.Pointers.{AreFixups, all_fixups}
use Rattle.ref_meet.proofs.PairLemmas.{up_exists}
use Rattle.unwind_link.specs.declared.kept.KeptUnwind.{KeptUnwind}
use Rattle.image_make.specs.Atoms.{AreLow, AreRising}
use Rattle.image_make.specs.Frames.{HaveFrames}
use Rattle.image_make.specs.Made.{IsFirstInfo, IsLaid, IsMade, IsMadeWith, ImageInputs, binds_of, blank, kept_of, rows_of, scene_of, with_info}
use Rattle.image_make.specs.Parts.{linkedit_offset, whole_size}
use Rattle.image_make.specs.Whole.{AreBytesIn}
use Rattle.image_make.specs.declared.fault.MakeFault.TheVariants.{Place, Range}
use Rattle.image_make.specs.declared.unfit.AtomFault.{AtomFault}
use Rattle.image_make.specs.inner.Filled.{IsLayFault}
use Rattle.image_make.specs.inner.Laying.{IsPlacedWith, plan_sized}
use Rattle.image_make.specs.inner.Unfit.{first_of}
use Rattle.image_make.proofs.AloneLemmas.{least_alike}
use Rattle.image_make.proofs.BindLemmas.{few_imports}
use Rattle.image_make.proofs.FieldLemmas.{are_work}
use Rattle.image_make.proofs.LayLemmas.{bare_fault, entries_ready, first_fault, first_info, laid_bare, laid_with, later_fault, some_info}
use Rattle.image_make.proofs.RoomLemmas.{blank_long}
use Rattle.image_make.proofs.SetLemmas.{overlong_is}
use Rattle.image_make.proofs.SpreadLemmas.{are_spread}
use Rattle.image_make.proofs.UnfitLemmas.{both_unfit, field_unfit, pointer_unfit, slot_unfit}

-- ---- a layout

a_layout : (m : ImageInputs) (unwind : ℕ) → image_size (plan_sized m unwind) < 2 ^ 32 → (layout : Layout) × IsPlacedWith m unwind layout
a_layout m unwind small =
    let plan = plan_sized m unwind in
    let sorted = sorted_exists (on_total (λ (p : Placed). p.atom) compare_keys_total) (image_places plan) in (
      record { segments = image_segments m.command plan; sections = image_sections plan; placed = sorted.0 },
      record { layout_of = record { segments = refl; sections = refl; places = sorted.1; order = sorted.2 }; small = small },
    )

-- ---- bytes

numbered_in : (sections : List Section) (number : ℕ) (section : Section) → section_numbered sections number ≡ Some section → In section sections
numbered_in sections number section is = by (number == 0) is
  where
    by : (b : Bool) → (if b then None else slice_get sections (number - 1)) ≡ Some section → In section sections
    by true e = absurd cc
    by false e = in_slice sections (number - 1) section e

atom_of_bytes : (object : Object) (atom : Atom) → All (λ (section : Section). All (λ byte. byte < 256) section.bytes) object.sections → AreBytes (atom_bytes object atom)
atom_of_bytes object atom low = by (section_numbered object.sections atom.key.section) refl
  where
    by : (o : Option Section) → section_numbered object.sections atom.key.section ≡ o → AreBytes (option_map_or (λ (section : Section). take atom.size (drop atom.key.offset section.bytes)) o [])
    by None e = λ k. omega arith
    by (Some section) e =
        bytes_taken atom.size (drop atom.key.offset section.bytes) (bytes_left atom.key.offset section.bytes (bytes_from_all section.bytes
        (All-contains (λ (s : Section). All (λ byte. byte < 256) s.bytes) object.sections section low (Contains_from_in object.sections section (numbered_in object.sections atom.key.section section e)))))

row_bytes : (files : List LoadedFile) (row : PlacedWork) → AreBytesIn files → All (λ byte. byte < 256) (bytes_of files row)
unfolding bytes_of
row_bytes files row low = all_from_bytes (bytes_of files row) (by (slice_get files row.file) refl)
  where
    by : (o : Option LoadedFile) → slice_get files row.file ≡ o → AreBytes (option_map_or (λ (file : LoadedFile). atom_bytes file.object row.atom) o [])
    by None e = λ k. omega arith
    by (Some file) e =
        atom_of_bytes file.object row.atom
        (All-contains (λ (f : LoadedFile). All (λ (section : Section). All (λ byte. byte < 256) section.bytes) f.object.sections) files file low (Contains_from_in files file (in_slice files row.file file e)))

-- ---- an image, or why there is none

-- an answer of a layout that isn't want of memory
abbrev pub IsAnsweredWith : ImageInputs → Type 0
IsAnsweredWith m =
    ((image : List ℕ) × IsMadeWith m (Ok image))
    ⊎ (((value : ℤ) × IsMadeWith m (Err (Place (ImageSize value))))
    ⊎ ((atom : Option AtomKey) × (fault : RangeFault) × IsMadeWith m (Err (Range atom fault))))

-- what fields give over some bytes
abbrev Filled : ImageInputs → Layout → List ChainWord → List ℕ → Type 0
Filled m layout words old =
    ((new : List ℕ) × IsSameBeside m.files 0 (rows_of m layout) old new × All (IsPlaced m.files (mets_of (scene_of m layout) words) 0 new) (rows_of m layout) × All (HasBytes m.files 0 new) (rows_of m layout))
    ⊎ ((key : AtomKey) × (fault : RangeFault) × IsLeastFault m.files (mets_of (scene_of m layout) words) (rows_of m layout) key fault)

filled : (m : ImageInputs) (layout : Layout) (words : List ChainWord) (old : List ℕ) → IsWholeLoaded (record { files = m.files }) → AreBytesIn m.files → AreRising (kept_of m) → AreLow (kept_of m) → IsLaid m layout → linkedit_offset layout.segments ≤ length old → Filled m layout words old
filled m layout words old whole bytes rising low is behind =
    placed_or_fault m.files (mets_of (scene_of m layout) words) 0 (rows_of m layout) old (are_work m layout words (length old) whole.files rising low is behind)
    (All-from_recursion (λ (row : PlacedWork). All (λ byte. byte < 256) (bytes_of m.files row)) (rows_of m layout) (all_from_in (λ (row : PlacedWork). All (λ byte. byte < 256) (bytes_of m.files row)) (rows_of m layout) (λ row h. row_bytes m.files row bytes)))

-- what fields tell themselves, over zeros
told : (m : ImageInputs) (layout : Layout) → IsWholeLoaded (record { files = m.files }) → AreBytesIn m.files → AreRising (kept_of m) → AreLow (kept_of m) → IsLaid m layout → Filled m layout [] (replicate (linkedit_offset layout.segments) 0)
told m layout whole bytes rising low is =
    let long = length-replicate {A = ℕ} (linkedit_offset layout.segments) 0 in
    filled m layout [] (replicate (linkedit_offset layout.segments) 0) whole bytes rising low is (omega (arith, long))

with_chains : (m : ImageInputs) (layout : Layout) (fixups : List Fixup) (chains : Chains) → IsWholeLoaded (record { files = m.files }) → AreBytesIn m.files → AreRising (kept_of m) → AreLow (kept_of m) → IsLaid m layout → AreFixups (scene_of m layout) (rows_of m layout) fixups → AreChains layout fixups chains → IsAnsweredWith m
with_chains m layout fixups chains whole bytes rising low is pointers chained = elim (cases_lt (whole_size (base_of m.command) layout chains) (2 ^ 32)) [
  | inl few ↦ small few (filled m layout chains.words (blank m layout fixups chains) whole bytes rising low is (let long = blank_long m layout fixups chains in omega (arith, long)))
  | inr long ↦ large long (told m layout whole bytes rising low is)
]
  where
    unfit : (words : List ChainWord) (key : AtomKey) (fault : RangeFault) → IsLeastFault m.files (mets_of (scene_of m layout) words) (rows_of m layout) key fault → IsAnsweredWith m
    unfit words key fault least = inr (inr (Some key, fault, (layout, field_unfit m layout fixups chains key fault rising is pointers chained (least_alike (scene_of m layout) words [] (rows_of m layout) key fault least))))

    small : whole_size (base_of m.command) layout chains < 2 ^ 32 → Filled m layout chains.words (blank m layout fixups chains) → IsAnsweredWith m
    small few (inl (new, beside, placed, low_bytes)) = inl (
      new,
      (
        layout,
        fixups,
        chains,
        record {
          laid = is;
          chained = record { pointers = pointers; chains_are = chained };
          few = few;
          filled = record { beside = beside; placed = placed; bytes = low_bytes };
        },
      ),
    )
    small few (inr (key, fault, least)) = unfit chains.words key fault least

    large : 2 ^ 32 ≤ whole_size (base_of m.command) layout chains → Filled m layout [] (replicate (linkedit_offset layout.segments) 0) → IsAnsweredWith m
    large long (inl (new, beside, placed, low_bytes)) =
        inr (inl (pos (whole_size (base_of m.command) layout chains), overlong_is m layout fixups chains new is pointers chained long placed))
    large long (inr (key, fault, least)) = unfit [] key fault least

with_fault : (m : ImageInputs) (layout : Layout) (fixups : List Fixup) (why : ChainFault) → IsWholeLoaded (record { files = m.files }) → AreBytesIn m.files → AreRising (kept_of m) → AreLow (kept_of m) → ¬ AreMany (binds_of m) → IsLaid m layout → AreFixups (scene_of m layout) (rows_of m layout) fixups → why ≢ chain.OutOfMemory → IsCause layout fixups why → IsAnsweredWith m
with_fault m layout fixups (chain.Limit limit) whole bytes rising low few is pointers some cause = absurd (few_imports m layout fixups whole.files pointers few cause.1)
with_fault m layout fixups chain.OutOfMemory whole bytes rising low few is pointers some cause = absurd (some refl)
with_fault m layout fixups (chain.Range None place kind value) whole bytes rising low few is pointers some cause =
    inr (inr (None, record { file_place = place; kind = kind; value = value }, (layout, slot_unfit m layout fixups (record { file_place = place; kind = kind; value = value }) whole.files rising is pointers cause)))
with_fault m layout fixups (chain.Range (Some key) place kind value) whole bytes rising low few is pointers some cause = by (told m layout whole bytes rising low is)
  where
    pointer : AtomFault
    pointer = record { key = key; fault = record { file_place = place; kind = kind; value = value } }

    by : Filled m layout [] (replicate (linkedit_offset layout.segments) 0) → IsAnsweredWith m
    by (inl (new, beside, placed, low_bytes)) = inr (inr (Some key, record { file_place = place; kind = kind; value = value }, (layout, pointer_unfit m layout fixups (Some key) (record { file_place = place; kind = kind; value = value }) new whole.files rising is pointers cause placed)))
    by (inr (other, fault, least)) =
        let field : AtomFault = record { key = other; fault = fault } in
        inr (inr (Some (first_of (record { key = key; fault = record { file_place = place; kind = kind; value = value } }) field).key, (first_of (record { key = key; fault = record { file_place = place; kind = kind; value = value } }) field).fault, (layout, both_unfit m layout fixups (record { key = key; fault = record { file_place = place; kind = kind; value = value } }) field whole.files rising is pointers cause least)))

laid_answer : (m : ImageInputs) (layout : Layout) → IsWholeLoaded (record { files = m.files }) → AreBytesIn m.files → AreRising (kept_of m) → AreLow (kept_of m) → ¬ AreMany (binds_of m) → IsLaid m layout → IsAnsweredWith m
laid_answer m layout whole bytes rising low few is =
    let order = up_exists (λ (fixup : Fixup). fixup.address) (all_fixups (scene_of m layout) (rows_of m layout)) (are_spread m layout whole.files rising is) in
    chained (order.0, record { apart = order.2; all = order.1 })
  where
    chained : (fixups : List Fixup) × AreFixups (scene_of m layout) (rows_of m layout) fixups → IsAnsweredWith m
    chained (fixups, pointers) = elim (an_answer layout fixups) [
      | inl (chains, are) ↦ with_chains m layout fixups chains whole bytes rising low is pointers are
      | inr (why, some, cause) ↦ with_fault m layout fixups why whole bytes rising low few is pointers some cause
    ]

-- ---- the bytes of `__unwind_info`

-- an answer that isn't want of memory
abbrev pub IsAnswered : ImageInputs → Type 0
IsAnswered m =
    ((image : List ℕ) × IsMade m (Ok image))
    ⊎ (((value : ℤ) × IsMade m (Err (Place (ImageSize value))))
    ⊎ ((atom : Option AtomKey) × (fault : RangeFault) × IsMade m (Err (Range atom fault))))

answered_by : (m : ImageInputs) (info : List ℕ) → IsAnsweredWith (with_info m info) → IsAnswered m
answered_by m info (inl (image, is)) = inl (image, (info, is))
answered_by m info (inr (inl (value, is))) = inr (inl (value, inr (info, is)))
answered_by m info (inr (inr (atom, fault, is))) = inr (inr (atom, fault, (info, is)))

pub answered : (m : ImageInputs) → IsWholeLoaded (record { files = m.files }) → AreBytesIn m.files → AreRising (kept_of m) → AreLow (kept_of m) → HaveFrames m → ¬ AreMany (binds_of m) → IsAnswered m
answered m whole bytes rising low frames few = by m.unwinds refl
  where
    here : (info : List ℕ) (layout : Layout) → IsLaid (with_info m info) layout → IsAnswered m
    here info layout is = answered_by m info (laid_answer (with_info m info) layout whole bytes rising low few is)

    -- with so many bytes it is too large
    large : (unwind : ℕ) → IsLayFault m (Place (ImageSize (pos (image_size (plan_sized m unwind))))) → IsAnswered m
    large unwind is = inr (inl (pos (image_size (plan_sized m unwind)), inl is))

    bare : m.unwinds ≡ [] → IsAnswered m
    bare none = elim (cases_lt (image_size (plan_sized m 0)) (2 ^ 32)) [
      | inl small ↦ let one = a_layout m 0 small in here [] one.0 (laid_bare m one.0 none one.1)
      | inr many ↦ large 0 (bare_fault m (Place (ImageSize (pos (image_size (plan_sized m 0))))) none (many, refl))
    ]

    later : (m.unwinds ≡ [] → ⊥) → (info : List ℕ) → IsFirstInfo m info → IsAnswered m
    later some info first = elim (cases_lt (image_size (plan_sized m (length info))) (2 ^ 32)) [
      | inl small ↦
          let one = a_layout m (length info) small in
          let other = some_info (scene_of m one.0) m.unwinds (entries_ready m (length info) one.0 whole rising low frames one.1) in
          here other.0 one.0 (laid_with m info other.0 one.0 whole rising frames some first one.1 other.1)
      | inr many ↦ large (length info) (later_fault m info (length info) (Place (ImageSize (pos (image_size (plan_sized m (length info)))))) first refl (many, refl))
    ]

    framed : (m.unwinds ≡ [] → ⊥) → IsAnswered m
    framed some = elim (cases_lt (image_size (plan_sized m 1)) (2 ^ 32)) [
      | inl small ↦
          let one = a_layout m 1 small in
          let info = some_info (scene_of m one.0) m.unwinds (entries_ready m 1 one.0 whole rising low frames one.1) in
          later some info.0 (first_info m one.0 info.0 some one.1 info.1)
      | inr many ↦ large 1 (first_fault m (Place (ImageSize (pos (image_size (plan_sized m 1))))) some (many, refl))
    ]

    by : (unwinds : List KeptUnwind) → m.unwinds ≡ unwinds → IsAnswered m
    by [] e = bare e
    by (entry ∷ more) e = framed (λ none. let both = sym e ∙ none in cc)
