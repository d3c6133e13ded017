-- What is laid out can be filled, and what is answered of it.
use Rattle.std.proofs.Common.{◌≡◌, ℕ, ◌+◌, ◌-◌, ◌<◌, ◌≤◌, ◌^◌, ◌==◌, Bool, true, false, List, [], ◌∷◌, length, map, Option, Some, None, Result, Ok, Err, pos, All, refl, sym, ap, ◌∙◌, subst, inl, inr, arith, if◌then◌else◌}
use Rattle.std.specs.List.{list_any}
use Rattle.std.specs.List.Sorted.{IsStrictlySortedBy}
use Rattle.std.specs.Option.{option_map}
use Rattle.std.specs.Ordering.{nat_cmp}
use Rattle.std.specs.declared.cmp.Ordering.TheVariants.{Less}
use Rattle.std.specs.Cmp.{nat_cmp_is}
use Rattle.fixup_chain.specs.Chained.{AreChains, IsRefused}
use Rattle.fixup_chain.specs.Encoded.{AreApart}
use Rattle.fixup_chain.specs.Words.{chain_word, words_of}
use Rattle.fixup_chain.specs.declared.chains.ChainFault.TheVariants as chain
use Rattle.fixup_chain.specs.declared.chains.ChainWord.{ChainWord}
use Rattle.fixup_chain.specs.declared.chains.Chains.{Chains}
use Rattle.fixup_chain.specs.declared.chains.Fixup.{Fixup}
use Rattle.image_join.specs.Joined.{LieApart}
use Rattle.image_join.specs.declared.parts.Parts.{Parts}
use Rattle.image_join.proofs.JoinedLemmas.{length-joined}
use Rattle.slot_plan.specs.declared.list.Slots.{Slots}
use Rattle.list_lemmas.proofs.Members.{all_from_in, all_map}
use Rattle.load_cmds.specs.Commands.{commands_of}
use Rattle.mo_format.specs.declared.loader.TheConstants.{MH_BINDS_TO_WEAK, MH_HAS_TLV_DESCRIPTORS, MH_NOUNDEFS, S_THREAD_LOCAL_VARIABLES}
use Rattle.mo_types.specs.declared.key.AtomKey.{AtomKey}
use Rattle.patch.specs.Range.{AreWork, IsLeastFault, IsPlaced}
use Rattle.patch.specs.declared.met.RangeFault.{RangeFault}
use Rattle.patch.specs.declared.range.PlacedWork.{PlacedWork}
use Rattle.patch.proofs.ChosenLemmas.{Pairs}
use Rattle.sect_list.proofs.Homes.{files_rise}
use Rattle.ref_meet.specs.Addresses.{entry_address}
use Rattle.ref_meet.specs.Mets.{mets_of}
use Rattle.ref_meet.specs.Pointers.{AreFixups}
use Rattle.ref_meet.specs.Ready.{AreInOrder, IsSound}
use Rattle.ref_meet.specs.Ready as ready
use Rattle.ref_meet.specs.Scene.{Scene}
use Rattle.sect_place.specs.Layout.{base_of}
use Rattle.sect_place.specs.declared.layout.Layout.{Layout}
use Rattle.sect_place.specs.declared.layout.PlacedSection.{PlacedSection}
use Rattle.sect_place.specs.declared.size.PlaceFault.TheVariants.{ImageSize}
use Rattle.image_make.specs.Flags.{bound_flags, flag_if, is_flat, is_weak}
use Rattle.image_make.specs.Made.{IsFilledImage, IsLaid, IsMadeWith, IsOverlong, IsUnfit, ImageInputs, blank, entry_offset, front_of, rows_of, scene_of, told_mets}
use Rattle.image_make.specs.Parts.{blank_of, image_parts, linkedit_address, linkedit_offset, parts_of, whole_size}
use Rattle.image_make.specs.declared.fault.MakeFault.{MakeFault}
use Rattle.image_make.specs.declared.fault.MakeFault.TheVariants.{Place, Range, OutOfMemory}
use Rattle.image_make.specs.declared.filling.Laid as code
use Rattle.image_make.specs.declared.unfit.AtomFault.{AtomFault}
use Rattle.image_make.specs.inner.Filled.{IsFillFault, IsFilled}
use Rattle.image_make.specs.inner.Laid.{AreGood, IsLaidOut}
use Rattle.image_make.specs.inner.PartsReady.{AreReadyParts}
use Rattle.image_make.specs.inner.Unfit.{first_with, of_atom}
use Rattle.image_make.proofs.AloneLemmas.{least_alike}
use Rattle.image_make.proofs.FieldLemmas.{are_work}
use Rattle.image_make.proofs.LowLemmas.{address_low}
use Rattle.image_make.proofs.OwnLemmas.{laid_reach, laid_room}
use Rattle.image_make.proofs.PartLemmas.{base_low, file_few, parts_apart}
use Rattle.image_make.proofs.RoomLemmas.{front_room}
use Rattle.image_make.proofs.Rowed.{placed_once}
use Rattle.image_make.proofs.SpreadLemmas.{pairs_all}
use Rattle.image_make.proofs.UnfitLemmas.{both_unfit, field_unfit, none_fails, pointer_unfit, slot_unfit}

pub sound : (m : ImageInputs) (layout : Layout) → AreGood m → IsLaid m layout → IsSound (scene_of m layout)
sound m layout good laid = record {
  files = files_rise m.files good.whole.rises;
  once = placed_once m layout good.rising laid;
  low = address_low m layout laid;
  room = laid_room m layout laid;
  goals = good.near.goals;
  refs = good.near.refs;
}

-- ---- words are in the order of pointers

abbrev Behind : Fixup → Fixup → Type 0
Behind a b = a.address + 8 ≤ b.address

rising_words : (f : Fixup → ChainWord) (fixups : List Fixup) → ((fixup : Fixup) → (f fixup).address ≡ fixup.address) → Pairs Behind fixups → AreInOrder (map f fixups)
unfolding IsStrictlySortedBy
rising_words f [] same apart = tt
rising_words f (fixup ∷ fixups) same apart = (
  all_map f (λ (word : ChainWord). nat_cmp (f fixup).address word.address ≡ Less) fixups
      (all_from_in (λ (other : Fixup). nat_cmp (f fixup).address (f other).address ≡ Less) fixups
      (λ other h. let behind = apart.0 other h in let one = same fixup in let two = same other in sym (nat_cmp_is (f fixup).address (f other).address Less (omega (arith, behind, one, two))))),
  rising_words f fixups same apart.1,
)

pub words_rise : (layout : Layout) (fixups : List Fixup) (chains : Chains) → AreApart fixups → AreChains layout fixups chains → AreInOrder chains.words
unfolding words_of chain_word
words_rise layout fixups chains apart chained =
    subst AreInOrder (sym chained.words) (rising_words _ fixups (λ fixup. refl) (pairs_all Behind fixups apart))

-- ---- what is laid out

-- the layout
abbrev pub layout_of : code.Laid → Layout
layout_of laid = laid.scene.now.layout.now

pub laid_sound : (m : ImageInputs) (laid : code.Laid) → IsLaidOut m laid → IsSound (ready.scene_of laid.scene.now)
laid_sound m laid is = subst IsSound (sym is.scene) (sound m (layout_of laid) is.good is.is_laid)

pub laid_work : (m : ImageInputs) (laid : code.Laid) (words : List ChainWord) (size : ℕ) → IsLaidOut m laid → linkedit_offset (layout_of laid).segments ≤ size → AreWork laid.scene.now.loaded.now.files (mets_of (ready.scene_of laid.scene.now) words) 0 size laid.work.now
laid_work m laid words size is behind =
    subst (λ (scene : Scene). AreWork scene.files (mets_of scene words) 0 size laid.work.now) (sym is.scene)
    (subst (λ (work : List PlacedWork). AreWork m.files (mets_of (scene_of m (layout_of laid)) words) 0 size work) (sym is.work)
    (are_work m (layout_of laid) words size is.good.whole.files is.good.rising is.good.low is.is_laid behind))

pub laid_sized : (m : ImageInputs) (laid : code.Laid) → IsLaidOut m laid → linkedit_address (layout_of laid).segments < 2 ^ 63
laid_sized m laid is =
    let room = front_room m (layout_of laid) is.is_laid in
    let low = room.low in
    let base = base_low m in
    omega (arith, low, base)

base_is : (m : ImageInputs) (laid : code.Laid) → IsLaidOut m laid → laid.scene.now.base ≡ base_of m.command
base_is m laid is = ap (λ (scene : Scene). scene.base) is.scene

-- what fields answer is of the image
fill_fault : (m : ImageInputs) (laid : code.Laid) (words : List ChainWord) (fault : MakeFault) → IsLaidOut m laid → IsFillFault laid.scene.now.loaded.now.files (mets_of (ready.scene_of laid.scene.now) words) laid.work.now fault → IsFillFault m.files (mets_of (scene_of m (layout_of laid)) words) (rows_of m (layout_of laid)) fault
fill_fault m laid words fault is fill =
    subst (λ (work : List PlacedWork). IsFillFault m.files (mets_of (scene_of m (layout_of laid)) words) work fault) is.work
    (subst (λ (scene : Scene). IsFillFault scene.files (mets_of scene words) laid.work.now fault) is.scene fill)

made_fault : (m : ImageInputs) (layout : Layout) (fixups : List Fixup) (chains : Chains) (words : List ChainWord) (fault : MakeFault) → AreGood m → IsLaid m layout → AreFixups (scene_of m layout) (rows_of m layout) fixups → AreChains layout fixups chains → IsFillFault m.files (mets_of (scene_of m layout) words) (rows_of m layout) fault → IsMadeWith m (Err fault)
made_fault m layout fixups chains words (Range atom fault) good laid pointers chained (key, named, least) = (
  layout,
  subst (λ (o : Option AtomKey). IsUnfit m layout o fault) (sym named)
      (field_unfit m layout fixups chains key fault good.rising laid pointers chained (least_alike (scene_of m layout) words [] (rows_of m layout) key fault least)),
)
made_fault m layout fixups chains words (Place fault) good laid pointers chained never = absurd never
made_fault m layout fixups chains words OutOfMemory good laid pointers chained fill = tt

-- a fault of a field, where pointers have chains
pub laid_fault : (m : ImageInputs) (laid : code.Laid) (chains : Chains) (words : List ChainWord) (fault : MakeFault) → IsLaidOut m laid → AreChains (layout_of laid) laid.fixups.now chains → IsFillFault laid.scene.now.loaded.now.files (mets_of (ready.scene_of laid.scene.now) words) laid.work.now fault → IsMadeWith m (Err fault)
laid_fault m laid chains words fault is chained fill = made_fault m (layout_of laid) laid.fixups.now chains words fault is.good is.is_laid is.pointers chained (fill_fault m laid words fault is fill)

placed_told : (m : ImageInputs) (laid : code.Laid) (image : List ℕ) → IsLaidOut m laid → All (IsPlaced laid.scene.now.loaded.now.files (mets_of (ready.scene_of laid.scene.now) []) 0 image) laid.work.now → All (IsPlaced m.files (mets_of (scene_of m (layout_of laid)) []) 0 image) (rows_of m (layout_of laid))
placed_told m laid image is placed =
    subst (λ (work : List PlacedWork). All (IsPlaced m.files (mets_of (scene_of m (layout_of laid)) []) 0 image) work) is.work
    (subst (λ (scene : Scene). All (IsPlaced scene.files (mets_of scene []) 0 image) laid.work.now) is.scene placed)

-- the image is too large where all fields fit
pub overlong_is : (m : ImageInputs) (layout : Layout) (fixups : List Fixup) (chains : Chains) (image : List ℕ) → IsLaid m layout → AreFixups (scene_of m layout) (rows_of m layout) fixups → AreChains layout fixups chains → 2 ^ 32 ≤ whole_size (base_of m.command) layout chains
    → All (IsPlaced m.files (mets_of (scene_of m layout) []) 0 image) (rows_of m layout) → IsOverlong m (ImageSize (pos (whole_size (base_of m.command) layout chains)))
overlong_is m layout fixups chains image laid pointers chained long placed = record {
  layout = layout;
  laid = laid;
  fixups = fixups;
  chains = chains;
  chained = record { pointers = pointers; chains_are = chained };
  fit = λ spot fault failing. elim failing [
    | inl pointer ↦ no_fault (chained.sound pointer.fixup pointer.among) pointer.fails
    | inr field ↦ none_fails m layout image spot fault placed field
  ];
  long = (long, refl);
}
  where
    no_fault : {X : Type 0} {o : Option X} {x : X} → o ≡ None → o ≡ Some x → ⊥
    no_fault e f = cc

pub laid_long : (m : ImageInputs) (laid : code.Laid) (chains : Chains) (image : List ℕ) (value : ℕ) → IsLaidOut m laid → AreChains (layout_of laid) laid.fixups.now chains → 2 ^ 32 ≤ whole_size laid.scene.now.base (layout_of laid) chains → value ≡ whole_size laid.scene.now.base (layout_of laid) chains
    → All (IsPlaced laid.scene.now.loaded.now.files (mets_of (ready.scene_of laid.scene.now) []) 0 image) laid.work.now → IsMadeWith m (Err (Place (ImageSize (pos value))))
laid_long m laid chains image value is chained long size placed =
    let base = base_is m laid is in
    let there = placed_told m laid image is placed in
    let same : value ≡ whole_size (base_of m.command) (layout_of laid) chains = size ∙ ap (λ (b : ℕ). whole_size b (layout_of laid) chains) base in
    let large : 2 ^ 32 ≤ whole_size (base_of m.command) (layout_of laid) chains = subst (λ (b : ℕ). 2 ^ 32 ≤ whole_size b (layout_of laid) chains) base long in
    subst (λ (n : ℕ). IsMadeWith m (Err (Place (ImageSize (pos n))))) (sym same)
    (overlong_is m (layout_of laid) laid.fixups.now chains image is.is_laid is.pointers chained large there)

-- ---- a pointer that is out of range

pub slot_made : (m : ImageInputs) (laid : code.Laid) (fault : RangeFault) → IsLaidOut m laid → IsRefused (layout_of laid) laid.fixups.now (chain.Range None fault.file_place fault.kind fault.value) → IsMadeWith m (Err (Range None fault))
slot_made m laid fault is refused = (layout_of laid, slot_unfit m (layout_of laid) laid.fixups.now fault is.good.whole.files is.good.rising is.is_laid is.pointers refused)

pub pointer_made : (m : ImageInputs) (laid : code.Laid) (pointer : AtomFault) (image : List ℕ) → IsLaidOut m laid → IsRefused (layout_of laid) laid.fixups.now (chain.Range (Some pointer.key) pointer.fault.file_place pointer.fault.kind pointer.fault.value) → All (IsPlaced laid.scene.now.loaded.now.files (mets_of (ready.scene_of laid.scene.now) []) 0 image) laid.work.now → IsMadeWith m (Err (of_atom pointer))
pointer_made m laid pointer image is refused placed = (layout_of laid, pointer_unfit m (layout_of laid) laid.fixups.now (Some pointer.key) pointer.fault image is.good.whole.files is.good.rising is.is_laid is.pointers refused (placed_told m laid image is placed))

first_made : (m : ImageInputs) (layout : Layout) (fixups : List Fixup) (pointer : AtomFault) (field : MakeFault) → AreGood m → IsLaid m layout → AreFixups (scene_of m layout) (rows_of m layout) fixups → IsRefused layout fixups (chain.Range (Some pointer.key) pointer.fault.file_place pointer.fault.kind pointer.fault.value) → IsFillFault m.files (told_mets m layout) (rows_of m layout) field → IsMadeWith m (Err (first_with pointer field))
first_made m layout fixups pointer (Range (Some key) fault) good laid pointers refused (other, named, least) =
    let same : other ≡ key = cc named in
    (layout, both_unfit m layout fixups pointer (record { key = key; fault = fault }) good.whole.files good.rising laid pointers refused (subst (λ (k : AtomKey). IsLeastFault m.files (told_mets m layout) (rows_of m layout) k fault) same least))
first_made m layout fixups pointer (Range None fault) good laid pointers refused (other, named, least) = absurd (let e = named in cc)
first_made m layout fixups pointer (Place fault) good laid pointers refused never = absurd never
first_made m layout fixups pointer OutOfMemory good laid pointers refused fill = tt

pub laid_first : (m : ImageInputs) (laid : code.Laid) (pointer : AtomFault) (field : MakeFault) → IsLaidOut m laid → IsRefused (layout_of laid) laid.fixups.now (chain.Range (Some pointer.key) pointer.fault.file_place pointer.fault.kind pointer.fault.value) → IsFillFault laid.scene.now.loaded.now.files (mets_of (ready.scene_of laid.scene.now) []) laid.work.now field → IsMadeWith m (Err (first_with pointer field))
laid_first m laid pointer field is refused fill = first_made m (layout_of laid) laid.fixups.now pointer field is.good is.is_laid is.pointers refused (fill_fault m laid [] field is fill)

-- ---- the image

pub front_is : (m : ImageInputs) (laid : code.Laid) (chains : Chains) (flags : ℕ) (front : List ℕ) → IsLaidOut m laid → flags ≡ m.flags + bound_flags laid.fixups.now (layout_of laid).sections
    → front ≡ commands_of (layout_of laid) (parts_of flags (option_map (λ (address : ℕ). address - laid.scene.now.base) (entry_address (ready.scene_of laid.scene.now) m.entry)) (layout_of laid) chains) m.command m.libs → front ≡ front_of m (layout_of laid) laid.fixups.now chains
front_is m laid chains flags front is flag front_by =
    front_by
    ∙ ap (λ (scene : Scene). commands_of (layout_of laid) (parts_of flags (option_map (λ (address : ℕ). address - scene.base) (entry_address scene m.entry)) (layout_of laid) chains) m.command m.libs) is.scene
    ∙ ap (λ (n : ℕ). commands_of (layout_of laid) (parts_of n (entry_offset m (layout_of laid)) (layout_of laid) chains) m.command m.libs) flag

pub laid_parts : (m : ImageInputs) (laid : code.Laid) (chains : Chains) (front : List ℕ) → IsLaidOut m laid → AreChains (layout_of laid) laid.fixups.now chains → whole_size laid.scene.now.base (layout_of laid) chains < 2 ^ 32 → front ≡ front_of m (layout_of laid) laid.fixups.now chains → AreReadyParts (layout_of laid) m.slots m.info chains front
laid_parts m laid chains front is chained few front_by = record {
  slots = record {
    room = laid_room m (layout_of laid) is.is_laid;
    reached = (base_of m.command, laid_reach m (layout_of laid) is.is_laid);
    words = words_rise (layout_of laid) laid.fixups.now chains is.pointers.apart chained;
  };
  apart = subst (λ (bytes : List ℕ). LieApart (record { size = linkedit_offset (layout_of laid).segments + length chains.blob; parts = image_parts (layout_of laid) m.slots m.info chains bytes })) (sym front_by) (parts_apart m (layout_of laid) laid.fixups.now chains is.good.low is.is_laid);
  few = file_few m (layout_of laid) chains is.is_laid (subst (λ (b : ℕ). whole_size b (layout_of laid) chains < 2 ^ 32) (base_is m laid is) few);
}

pub laid_made : (m : ImageInputs) (laid : code.Laid) (chains : Chains) (front old : List ℕ) (answer : Result (List ℕ) MakeFault) → IsLaidOut m laid → AreChains (layout_of laid) laid.fixups.now chains → whole_size laid.scene.now.base (layout_of laid) chains < 2 ^ 32 → front ≡ front_of m (layout_of laid) laid.fixups.now chains → old ≡ blank_of (layout_of laid) m.slots m.info chains front
    → IsFilled laid.scene.now.loaded.now.files (mets_of (ready.scene_of laid.scene.now) chains.words) laid.work.now old answer → IsMadeWith m answer
laid_made m laid chains front old (Err fault) is chained few front_by old_by fill = laid_fault m laid chains chains.words fault is chained fill
laid_made m laid chains front old (Ok image) is chained few front_by old_by fill =
    let layout = layout_of laid in
    let filled : IsFilledImage m.files (mets_of (scene_of m layout) chains.words) (rows_of m layout) old image =
    subst (λ (work : List PlacedWork). IsFilledImage m.files (mets_of (scene_of m layout) chains.words) work old image) is.work
    (subst (λ (scene : Scene). IsFilledImage scene.files (mets_of scene chains.words) laid.work.now old image) is.scene fill) in
    let blanks : old ≡ blank m layout laid.fixups.now chains = old_by ∙ ap (blank_of layout m.slots m.info chains) front_by in (
      layout,
      laid.fixups.now,
      chains,
      record {
        laid = is.is_laid;
        chained = record { pointers = is.pointers; chains_are = chained };
        few = subst (λ (b : ℕ). whole_size b layout chains < 2 ^ 32) (base_is m laid is) few;
        filled = subst (λ (bytes : List ℕ). IsFilledImage m.files (mets_of (scene_of m layout) chains.words) (rows_of m layout) bytes image) blanks filled;
      },
    )

pub blank_behind : (layout : Layout) (slots : Slots) (info : List ℕ) (chains : Chains) (front old : List ℕ) → old ≡ blank_of layout slots info chains front → linkedit_offset layout.segments ≤ length old
unfolding blank_of
blank_behind layout slots info chains front old is =
    let parts : Parts = record { size = linkedit_offset layout.segments + length chains.blob; parts = image_parts layout slots info chains front } in
    let long = length-joined parts in
    let same = ap length is in
    omega (arith, long, same)

-- flags have 32 bits
pub flags_low : (fixups : List Fixup) (sections : List PlacedSection) → bound_flags fixups sections < 2 ^ 31
unfolding bound_flags
flags_low fixups sections = by (list_any (λ (fixup : Fixup). is_flat fixup.goal) fixups) (list_any (λ (fixup : Fixup). is_weak fixup.goal) fixups) (list_any (λ (placed : PlacedSection). placed.section.kind == S_THREAD_LOCAL_VARIABLES) sections)
  where
    by : (a b c : Bool) → flag_if (if a then false else true) MH_NOUNDEFS + flag_if b MH_BINDS_TO_WEAK + flag_if c MH_HAS_TLV_DESCRIPTORS < 2 ^ 31
    by true true true = omega arith
    by true true false = omega arith
    by true false true = omega arith
    by true false false = omega arith
    by false true true = omega arith
    by false true false = omega arith
    by false false true = omega arith
    by false false false = omega arith
