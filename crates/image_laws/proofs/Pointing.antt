-- The pointers of an image: each lies in a segment, and holds the word of its chain.
use Rattle.std.proofs.Common.{◌≡◌, ℕ, suc, ◌+◌, ◌-◌, ◌*◌, ◌<◌, ◌≤◌, ◌^◌, ◌⊎◌, inl, inr, Bool, true, false, pos, List, [], ◌∷◌, ◌++◌, map, length, get_or, Option, Some, None, Contains, refl, sym, ap, ◌∙◌, arith, subst, if◌then◌else◌}
use Rattle.std.specs.Prelude.{All}
use Rattle.std.specs.List.{enumerate_from, flat_map}
use Rattle.std.specs.Option.{option_map, option_map_or}
use Rattle.std.proofs.lemmas.Bool.{le-leb, lt-ltb}
use Rattle.std.proofs.lemmas.List.Sorted.{Contains-permutation, IsPermutation-sym}
use Rattle.list_lemmas.proofs.Members.{Contains_from_in, In, from_filter_map, from_flat, from_map, in_either, in_filter_map, in_from_Contains}
use Rattle.mo_types.specs.Loaded.{IsWholeFile}
use Rattle.mo_types.specs.Rows.{field_size}
use Rattle.mo_types.specs.declared.goal.Goal.{Goal}
use Rattle.mo_types.specs.declared.reference.Ref.{Ref}
use Rattle.mo_types.specs.declared.reference.RefKind.{RefKind}
use Rattle.mo_types.specs.declared.reference.RefKind.TheVariants.{Pointer, Diff32, Diff64, Branch, Page, PageOff, GotPage, GotPageOff, GotDelta, GotPointer, TlvPage, TlvPageOff}
use Rattle.patch.specs.Patched.{size_of}
use Rattle.patch.specs.declared.range.PlacedWork.{PlacedWork}
use Rattle.fixup_chain.specs.Places.{is_in}
use Rattle.fixup_chain.specs.declared.chains.Chains.{Chains}
use Rattle.fixup_chain.specs.declared.chains.Fixup.{Fixup}
use Rattle.sect_place.specs.declared.layout.Layout.{Layout}
use Rattle.sect_place.specs.declared.layout.PlacedSection.{PlacedSection}
use Rattle.sect_place.specs.declared.layout.Segment.{Segment}
use Rattle.slot_place.specs.Places.{goals_for, own_section, start_of, starts_of, unit_of}
use Rattle.slot_place.specs.declared.places.SlotStarts.{SlotStarts}
use Rattle.slot_plan.specs.declared.need.Way.{Way}
use Rattle.slot_plan.specs.declared.need.Way.TheVariants.{Got, Stub, Tlv}
use Rattle.ref_meet.specs.Mets.{chained_met, met_by, met_of, met_with, mets_of, word_at}
use Rattle.ref_meet.specs.Pointers.{all_fixups, fixup_of, fixup_to, pointee, pointee_by, row_fixups, slot_fixup, slot_fixups}
use Rattle.ref_meet.specs.Scene.{Scene, goal_of, refs_of}
use Rattle.ref_meet.specs.Template.{holds_offset}
use Rattle.ref_meet.specs.declared.pointers.Pointee.{Pointee}
use Rattle.field_laws.specs.Memory.{AreInMemory}
use Rattle.field_laws.specs.Pointers.{IsPointerKind}
use Rattle.field_laws.proofs.Pointers.{word_there}
use Rattle.image_make.specs.Made.{IsLaid, ImageInputs, plan_for, rows_of, scene_of}
use Rattle.image_make.specs.Parts.{own_bytes, slot_word, slot_words}
use Rattle.image_make.proofs.RoomLemmas.{base_small}
use Rattle.image_make.proofs.WorkLemmas.{few_bytes}
use Rattle.image_read.specs.Fixups.{long_at}
use Rattle.image_laws.specs.Means.{AreRising, Imaged}
use Rattle.image_laws.proofs.Blank.{slots_long}
use Rattle.image_laws.proofs.ChainWords.{HasWord, has_word}
use Rattle.image_laws.proofs.Layouts.{held_in_layout, is_plan, own_in, own_is, row_at_place}
use Rattle.image_laws.proofs.Loading.{field_holds, field_within}
use Rattle.image_laws.proofs.OwnBytes.{own_there, slot_holds}
use Rattle.image_laws.proofs.Units.{section_found}

-- a pointer lies in a segment, and once the image is loaded the word of its chain stands there
pub record IsThere (image : List ℕ) (layout : Layout) (chains : Chains) (fixup : Fixup) : Type 0 where
  pub segment : Segment
  pub among : Contains layout.segments segment
  pub inside : is_in segment fixup.address ≡ true
  pub holds : (word : ℕ) → word_at chains.words fixup.address ≡ Some word → word < 2 ^ 64 → long_at image fixup.address ≡ Some word

in_segment : (segment : Segment) (address : ℕ) → segment.address ≤ address → address < segment.address + segment.vmsize → is_in segment address ≡ true
in_segment segment address low high = rw (le-leb segment.address address low, lt-ltb (address - segment.address) segment.vmsize (omega arith)) refl

-- ---- slots

-- a goal that is counted has its number
pub record IsCounted (at : ℕ) (goals : List Goal) (p : ℕ × Goal) : Type 0 where
  pub number : ℕ
  pub within : number < length goals
  pub is : p.0 ≡ at + number
  pub goal : get_or goals number p.1 ≡ p.1

from_counted : (at : ℕ) (goals : List Goal) (p : ℕ × Goal) → In p (enumerate_from at goals) → IsCounted at goals p
from_counted at [] p h = absurd h
from_counted at (goal ∷ goals) p (inl e) = record {
  number = 0;
  within = omega arith;
  is = sym (ap (λ (q : ℕ × Goal). q.0) e) ∙ (let n : at ≡ at + 0 = omega arith in n);
  goal = ap (λ (q : ℕ × Goal). q.1) e;
}
from_counted at (goal ∷ goals) p (inr h) =
    let later = from_counted (at + 1) goals p h in
    let within = later.within in
    let is = later.is in
    record { number = suc later.number; within = omega arith; is = omega arith; goal = later.goal }

-- a slot and its pointer
pub record IsSlotOf (m : ImageInputs) (layout : Layout) (way : Way) (fixup : Fixup) : Type 0 where
  pub placed : PlacedSection
  pub section : own_section layout.sections way ≡ Some placed
  pub number : ℕ
  pub within : number < length (goals_for m.slots way)
  pub goal : get_or (goals_for m.slots way) number fixup.goal ≡ fixup.goal
  pub at : fixup.address ≡ placed.address + 8 * number

pub slot_behind : (m : ImageInputs) (layout : Layout) (way : Way) (fixup : Fixup) → In fixup (slot_fixups (start_of (starts_of layout.sections) way) (goals_for m.slots way)) → IsSlotOf m layout way fixup
unfolding slot_fixups
slot_behind m layout way fixup h = by (start_of (starts_of layout.sections) way) refl h
  where
    goals : List Goal
    goals = goals_for m.slots way

    by : (start : Option ℕ) → start_of (starts_of layout.sections) way ≡ start → In fixup (option_map_or (λ at. map (slot_fixup at) (enumerate_from 0 goals)) start []) → IsSlotOf m layout way fixup
    by None e none = absurd none
    by (Some at) e there =
        let found = section_found layout way at e in
        let from : (p : ℕ × Goal) × In p (enumerate_from 0 goals) × (slot_fixup at p ≡ fixup) = from_map (slot_fixup at) (enumerate_from 0 goals) fixup there in
        let counted = from_counted 0 goals from.0 from.1 in
        let place : from.0.0 ≡ counted.number = (let is = counted.is in omega arith) in
        let goal : from.0.1 ≡ fixup.goal = ap (λ (f : Fixup). f.goal) from.2 in
        record {
          placed = found.0;
          section = found.1;
          number = counted.number;
          within = counted.within;
          goal = subst (λ (g : Goal). get_or goals counted.number g ≡ g) goal counted.goal;
          at = ap (λ (f : Fixup). f.address) (sym from.2) ∙ ap (λ (n : ℕ). n + 8 * from.0.0) (sym found.2) ∙ ap (λ (n : ℕ). found.0.address + 8 * n) place;
        }

-- the ways in which slots are needed
abbrev pub HasSlots : Way → Type 0
HasSlots Got = Unit {0}
HasSlots Stub = ⊥
HasSlots Tlv = Unit {0}

slots_are : (m : ImageInputs) (layout : Layout) (chains : Chains) (way : Way) (placed : PlacedSection) → HasSlots way → own_section layout.sections way ≡ Some placed → own_bytes layout m.slots chains.words way ≡ flat_map (slot_word chains.words placed.address) (enumerate_from 0 (goals_for m.slots way))
unfolding slot_words
slots_are m layout chains Got placed slots e = ap (λ (o : Option PlacedSection). option_map_or (λ (at : ℕ). flat_map (slot_word chains.words at) (enumerate_from 0 m.slots.got)) (option_map (λ (p : PlacedSection). p.address) o) []) e
slots_are m layout chains Stub placed slots e = absurd slots
slots_are m layout chains Tlv placed slots e = ap (λ (o : Option PlacedSection). option_map_or (λ (at : ℕ). flat_map (slot_word chains.words at) (enumerate_from 0 m.slots.tlv)) (option_map (λ (p : PlacedSection). p.address) o) []) e

pub eight : (way : Way) → HasSlots way → unit_of way ≡ 8
eight Got slots = refl
eight Stub slots = absurd slots
eight Tlv slots = refl

base_low : (m : ImageInputs) (layout : Layout) → IsLaid m layout → (plan_for m).base ≤ 2 ^ 32
base_low m layout laid = subst (λ (n : ℕ). n ≤ 2 ^ 32) (sym (is_plan m layout laid).base) (base_small m.command.dylib)

-- where an own section ends
pub own_low : (m : ImageInputs) (layout : Layout) (way : Way) (placed : PlacedSection) → IsLaid m layout → own_section layout.sections way ≡ Some placed → placed.address + placed.size < 2 ^ 33
own_low m layout way placed laid e =
    let ends = (own_is m layout way placed laid e).ends in
    let small = laid.small in
    let base : (plan_for m).base ≤ 2 ^ 32 = base_low m layout laid in
    omega (arith, ends, small, base)

slot_there : (m : ImageInputs) (image : List ℕ) (of : Imaged m image) (way : Way) (fixup : Fixup) → AreRising m → HasSlots way → In fixup (slot_fixups (start_of (starts_of of.layout.sections) way) (goals_for m.slots way)) → IsThere image of.layout of.chains fixup
slot_there m image of way fixup rising slots h =
    let laid = of.is_image.laid in
    let slot = slot_behind m of.layout way fixup h in
    let placed : PlacedSection = slot.placed in
    let goals : List Goal = goals_for m.slots way in
    let number : ℕ = slot.number in
    let by = held_in_layout m of.layout placed laid (own_in m of.layout way placed slot.section) in
    let low = by.held.low in
    let high = by.held.high in
    let at = slot.at in
    let within = slot.within in
    let unit = eight way slots in
    let sized : placed.size ≡ 8 * length goals = (own_is m of.layout way placed laid slot.section).sized ∙ ap (λ (n : ℕ). n * length goals) unit in
    let ends = own_low m of.layout way placed laid slot.section in
    record {
      segment = by.segment;
      among = Contains_from_in of.layout.segments by.segment by.among;
      inside = in_segment by.segment fixup.address (omega (arith, low, at)) (omega (arith, high, at, within, sized));
      holds = λ word found small.
          ap (long_at image) at
          ∙ slot_holds image of.chains.words placed.address number word goals fixup.goal
          (subst (λ (z : List ℕ). AreInMemory image placed.address z) (slots_are m of.layout of.chains way placed slots slot.section) (own_there m image of way placed rising slot.section))
          within (slots_long of.chains.words placed.address 0 goals) (omega (arith, ends, sized, within)) (ap (word_at of.chains.words) (sym at) ∙ found) small;
    }

-- ---- pointers of atoms

-- a reference whose pointer is filled in met the word of its chain
abbrev MeetsWord : Scene → Chains → PlacedWork → Ref → Type 0
MeetsWord scene chains row r = IsPointerKind r.kind × (met_of scene chains.words row r ≡ chained_met chains.words row r)

if_none : {X : Type 0} (b : Bool) (x y : X) → (if b then None else Some x) ≡ Some y → b ≡ false
if_none true x y e = absurd cc
if_none false x y e = refl

meets_by : (kind : RefKind) (scene : Scene) (chains : Chains) (row : PlacedWork) (r : Ref) (p : Pointee) → pointee_by kind scene row (goal_of scene row.file r.target) r.addend ≡ Some p → IsPointerKind kind × (met_by kind scene chains.words row r (goal_of scene row.file r.target) ≡ chained_met chains.words row r)
meets_by Pointer scene chains row r p e =
    let away : holds_offset scene.files row (goal_of scene row.file r.target) ≡ false = if_none (holds_offset scene.files row (goal_of scene row.file r.target)) (record { goal = goal_of scene row.file r.target; addend = r.addend }) p e in
    (tt, rw away refl)
meets_by GotPointer scene chains row r p e = (tt, refl)
meets_by Diff32 scene chains row r p e = absurd cc
meets_by Diff64 scene chains row r p e = absurd cc
meets_by Branch scene chains row r p e = absurd cc
meets_by Page scene chains row r p e = absurd cc
meets_by PageOff scene chains row r p e = absurd cc
meets_by GotPage scene chains row r p e = absurd cc
meets_by GotPageOff scene chains row r p e = absurd cc
meets_by GotDelta scene chains row r p e = absurd cc
meets_by TlvPage scene chains row r p e = absurd cc
meets_by TlvPageOff scene chains row r p e = absurd cc

-- no field is empty
pub some_size : (kind : RefKind) → 0 < field_size kind
some_size Pointer = omega arith
some_size GotPointer = omega arith
some_size Diff64 = omega arith
some_size Diff32 = omega arith
some_size Branch = omega arith
some_size Page = omega arith
some_size PageOff = omega arith
some_size GotPage = omega arith
some_size GotPageOff = omega arith
some_size GotDelta = omega arith
some_size TlvPage = omega arith
some_size TlvPageOff = omega arith

-- a pointer is that of a reference of an atom
pub record IsPointerOf (scene : Scene) (chains : Chains) (row : PlacedWork) (r : Ref) (fixup : Fixup) : Type 0 where
  pub among : In r (refs_of scene.files row)
  pub pointer : IsPointerKind r.kind
  pub meets : met_of scene chains.words row r ≡ chained_met chains.words row r
  pub is : fixup_of scene row r ≡ Some fixup
  pub at : fixup.address ≡ row.address + r.place

-- that of a reference
pub reference_pointer : (scene : Scene) (chains : Chains) (row : PlacedWork) (r : Ref) (fixup : Fixup) → In r (refs_of scene.files row) → fixup_of scene row r ≡ Some fixup → IsPointerOf scene chains row r fixup
unfolding fixup_of pointee met_of
reference_pointer scene chains row r fixup among is = by (pointee scene row r) refl is
  where
    by : (p : Option Pointee) → pointee scene row r ≡ p → option_map (fixup_to row r) p ≡ Some fixup → IsPointerOf scene chains row r fixup
    by None e f = absurd cc
    by (Some p) e f =
        let meets = meets_by r.kind scene chains row r p e in
        let same : fixup_to row r p ≡ fixup = cc in
        record { among = among; pointer = meets.0; meets = meets.1; is = is; at = ap (λ (g : Fixup). g.address) (sym same) }

pub pointer_behind : (scene : Scene) (chains : Chains) (row : PlacedWork) (fixup : Fixup) → In fixup (row_fixups scene row) → (r : Ref) × IsPointerOf scene chains row r fixup
unfolding row_fixups
pointer_behind scene chains row fixup h =
    let from : (r : Ref) × In r (refs_of scene.files row) × (fixup_of scene row r ≡ Some fixup) = from_filter_map (fixup_of scene row) (refs_of scene.files row) fixup h in
    (from.0, reference_pointer scene chains row from.0 fixup from.1 from.2)

-- it is among those that the atom met
pub pointer_met : (m : ImageInputs) (image : List ℕ) (of : Imaged m image) (row : PlacedWork) (r : Ref) (fixup : Fixup) → IsPointerOf (scene_of m of.layout) of.chains row r fixup → (word : ℕ) → word_at of.chains.words fixup.address ≡ Some word → In (met_with r word 0 (pos 0)) (mets_of (scene_of m of.layout) of.chains.words row)
unfolding mets_of
pointer_met m image of row r fixup one word found =
    let scene = scene_of m of.layout in
    in_filter_map (met_of scene of.chains.words row) (refs_of m.files row) r (met_with r word 0 (pos 0)) one.among
    (one.meets ∙ ap (option_map (λ (w : ℕ). met_with r w 0 (pos 0))) (ap (word_at of.chains.words) (sym one.at) ∙ found))

pointer_there : (m : ImageInputs) (image : List ℕ) (of : Imaged m image) (row : PlacedWork) (fixup : Fixup) → All IsWholeFile m.files → AreRising m → In row (rows_of m of.layout) → HasWord of.chains fixup → In fixup (row_fixups (scene_of m of.layout) row) → IsThere image of.layout of.chains fixup
pointer_there m image of row fixup whole rising h known there =
    let laid = of.is_image.laid in
    let behind = pointer_behind (scene_of m of.layout) of.chains row fixup there in
    let r : Ref = behind.0 in
    let one : IsPointerOf (scene_of m of.layout) of.chains row r fixup = behind.1 in
    let at = one.at in
    let stands = row_at_place m of.layout row rising laid h in
    let few = few_bytes m.files row in
    let low = stands.low in
    let high = stands.high in
    let within = field_within m image of row (met_with r known.word 0 (pos 0)) whole rising h (pointer_met m image of row r fixup one known.word known.found) in
    let size : 0 < size_of (met_with r known.word 0 (pos 0)) = some_size r.kind in
    record {
      segment = stands.segment;
      among = Contains_from_in of.layout.segments stands.segment stands.among;
      inside = in_segment stands.segment fixup.address (omega (arith, at, low)) (omega (arith, at, high, few, within, size));
      holds = λ word found small.
          ap (long_at image) at
          ∙ word_there image (row.address + r.place) (met_with r word 0 (pos 0)) (field_holds m image of row (met_with r word 0 (pos 0)) whole rising h (pointer_met m image of row r fixup one word found)) (record { kind = one.pointer; addend = refl; low = small });
    }

-- ---- all

-- a pointer of the image is that of a slot or of an atom
pub data IsOfImage (m : ImageInputs) (image : List ℕ) (of : Imaged m image) (fixup : Fixup) : Type 0 where
  of_slot : (way : Way) → HasSlots way → In fixup (slot_fixups (start_of (starts_of of.layout.sections) way) (goals_for m.slots way)) → IsOfImage m image of fixup
  of_atom : (row : PlacedWork) → In row (rows_of m of.layout) → In fixup (row_fixups (scene_of m of.layout) row) → IsOfImage m image of fixup

pub pointer_of : (m : ImageInputs) (image : List ℕ) (of : Imaged m image) (fixup : Fixup) → Contains of.fixups fixup → IsOfImage m image of fixup
unfolding all_fixups
pointer_of m image of fixup there =
    by (in_either (slot_fixups starts.got m.slots.got) (slot_fixups starts.tlv m.slots.tlv ++ flat_map (row_fixups scene) rows) fixup (in_from_Contains (all_fixups scene rows) fixup among))
  where
    scene : Scene
    scene = scene_of m of.layout

    rows : List PlacedWork
    rows = rows_of m of.layout

    starts : SlotStarts
    starts = starts_of of.layout.sections

    among : Contains (all_fixups scene rows) fixup
    among = Contains-permutation of.fixups (all_fixups scene rows) fixup (IsPermutation-sym (all_fixups scene rows) of.fixups of.is_image.chained.pointers.all) there

    behind : In fixup (slot_fixups starts.tlv m.slots.tlv) ⊎ In fixup (flat_map (row_fixups scene) rows) → IsOfImage m image of fixup
    behind (inl h) = of_slot Tlv tt h
    behind (inr h) =
        let from : (row : PlacedWork) × In row rows × In fixup (row_fixups scene row) = from_flat (row_fixups scene) rows fixup h in
        of_atom from.0 from.1 from.2

    by : In fixup (slot_fixups starts.got m.slots.got) ⊎ In fixup (slot_fixups starts.tlv m.slots.tlv ++ flat_map (row_fixups scene) rows) → IsOfImage m image of fixup
    by (inl h) = of_slot Got tt h
    by (inr h) = behind (in_either (slot_fixups starts.tlv m.slots.tlv) (flat_map (row_fixups scene) rows) fixup h)

pub pointer_known : (m : ImageInputs) (image : List ℕ) (of : Imaged m image) (fixup : Fixup) → Contains of.fixups fixup → HasWord of.chains fixup
pointer_known m image of fixup there = has_word of.layout of.fixups of.chains fixup of.is_image.chained.chains_are of.is_image.chained.pointers.apart there

pub pointers_there : (m : ImageInputs) (image : List ℕ) (of : Imaged m image) (fixup : Fixup) → All IsWholeFile m.files → AreRising m → Contains of.fixups fixup → IsThere image of.layout of.chains fixup
pointers_there m image of fixup whole rising there = by (pointer_of m image of fixup there)
  where
    by : IsOfImage m image of fixup → IsThere image of.layout of.chains fixup
    by (of_slot way slots h) = slot_there m image of way fixup rising slots h
    by (of_atom row h among) = pointer_there m image of row fixup whole rising h (pointer_known m image of fixup there) among
