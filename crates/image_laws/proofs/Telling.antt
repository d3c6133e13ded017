-- The fields of an image's references tell their goals.
use Rattle.std.proofs.Common.{[], ◌≡◌, ℕ, ◌+◌, ◌*◌, ◌<◌, ◌≤◌, ◌^◌, ◌==◌, ◌&&◌, Bool, true, false, pos, ◌-ℤ◌, List, length, Option, Some, None, Contains, refl, sym, ap, ◌∙◌, arith, subst, if◌then◌else◌}
use Rattle.std.specs.Prelude.{All, IsSome}
use Rattle.std.specs.List.{flat_map}
use Rattle.std.specs.Option.{option_and_then, option_map, option_map_or}
use Rattle.std.proofs.lemmas.Bool.{le-leb}
use Rattle.std.proofs.lemmas.List.Sorted.{Contains-permutation}
use Rattle.list_lemmas.proofs.Members.{Contains_from_in, In, in_filter, in_filter_map, in_flat, in_from_Contains, in_right}
use Rattle.mo_format.specs.declared.loader.TheConstants.{S_THREAD_LOCAL_VARIABLES}
use Rattle.mo_types.specs.Loaded.{IsWholeFile}
use Rattle.mo_types.specs.Rows.{field_size}
use Rattle.mo_types.specs.declared.goal.Goal.{Goal}
use Rattle.mo_types.specs.declared.goal.Goal.TheVariants.{Header}
use Rattle.mo_types.specs.declared.loaded.LoadedFile.{LoadedFile}
use Rattle.mo_types.specs.declared.reference.Ref.{Ref}
use Rattle.mo_types.specs.declared.reference.RefKind.{RefKind}
use Rattle.mo_types.specs.declared.reference.RefKind.TheVariants.{Pointer, Diff32, Diff64, Branch, Page, PageOff, GotPage, GotPageOff, GotDelta, GotPointer, TlvPage, TlvPageOff}
use Rattle.mo_types.specs.declared.reference.Target.{Target}
use Rattle.patch.specs.Range.{bytes_of}
use Rattle.patch.specs.declared.met.Met.{Met}
use Rattle.patch.specs.declared.range.PlacedWork.{PlacedWork}
use Rattle.fixup_chain.specs.declared.chains.Fixup.{Fixup}
use Rattle.sect_place.specs.Layout.{base_of}
use Rattle.sect_place.specs.declared.layout.Layout.{Layout}
use Rattle.slot_needs.specs.Needs.{way_of}
use Rattle.slot_place.specs.Places.{slot_address, starts_of, unit_of}
use Rattle.slot_plan.specs.declared.need.Way.{Way}
use Rattle.slot_plan.specs.declared.need.Way.TheVariants.{Got, Stub, Tlv}
use Rattle.field_laws.specs.Fields.{IsBySlot, IsOwnBy}
use Rattle.field_laws.specs.Memory.{Holds}
use Rattle.field_laws.specs.Pointers.{IsPointerTo, addresses_of}
use Rattle.field_laws.proofs.Own.{own_told}
use Rattle.field_laws.proofs.Pointers.{offset_told, pointer_told, slot_pointer_told}
use Rattle.field_laws.proofs.Rebases.{in_range}
use Rattle.field_laws.proofs.Slots.{slot_told}
use Rattle.field_laws.proofs.Stubs.{stub_told}
use Rattle.image_make.specs.Made.{IsLaid, ImageInputs, rows_of, scene_of}
use Rattle.image_make.proofs.FieldLemmas.{row_low}
use Rattle.image_make.proofs.WorkLemmas.{few_bytes}
use Rattle.image_read.specs.Denotes.{offset_for}
use Rattle.image_read.specs.Fixups.{long_at}
use Rattle.image_read.specs.Held.{AtomMap, goal_address}
use Rattle.image_read.specs.Meaning.{long_in}
use Rattle.image_read.specs.Reaches.{is_looked_up, is_zero}
use Rattle.ref_meet.specs.Addresses.{address_by}
use Rattle.ref_meet.specs.Mets.{added, is_difference, met_by, met_of, met_with, mets_of, minus_address, told_met}
use Rattle.ref_meet.specs.Pointers.{all_fixups, fixup_of, fixup_to, pointee, pointee_by, row_fixups, slot_fixups}
use Rattle.ref_meet.specs.Scene.{Scene, goal_of, is_ref_of, refs_among, refs_of}
use Rattle.ref_meet.specs.Template.{has_descriptors, holds_offset, is_descriptor, leads_to_template, template_offset}
use Rattle.ref_meet.specs.declared.pointers.Pointee.{Pointee}
use Rattle.image_laws.specs.Means.{AreRising, Imaged}
use Rattle.image_laws.specs.References.{AreFillable, AreOffsets, HasAddress, HasEnd, HasOffset, IsReferenceOf, IsServed, IsServedBy, StubsHaveSlots, TellsGoal, places_of, section_of}
use Rattle.image_laws.proofs.Carrying.{others_plain, pointers_held}
use Rattle.image_laws.proofs.Goals.{base_is, goal_same}
use Rattle.image_laws.proofs.Layouts.{own_is}
use Rattle.image_laws.proofs.Loading.{field_holds, field_within}
use Rattle.image_laws.proofs.Overlaps.{no_pointer_at}
use Rattle.image_laws.proofs.Pointing.{HasSlots, own_low, pointer_known, pointer_met as pointer_among, pointers_there, reference_pointer}
use Rattle.image_laws.proofs.Stubbing.{slot_held, stub_leads}
use Rattle.image_laws.proofs.Units.{unit_found}

-- ---- what is met

-- what is known of an image and a reference of one of its atoms
pub record IsKnown (m : ImageInputs) (image : List ℕ) (of : Imaged m image) (row : PlacedWork) (r : Ref) : Type 0 where
  pub whole : All IsWholeFile m.files
  pub rising : AreRising m
  pub fillable : AreFillable (scene_of m of.layout) of.fixups
  pub slots : StubsHaveSlots m.slots
  pub listed : In row (rows_of m of.layout)
  pub among : In r (refs_of m.files row)

reference_among : (m : ImageInputs) (row : PlacedWork) (r : Ref) → IsReferenceOf m row r → In r (refs_of m.files row)
unfolding refs_of
reference_among m row r is =
    subst (λ (o : Option LoadedFile). In r (option_map_or (λ (f : LoadedFile). refs_among f.refs row.atom.key) o [])) (sym is.of_file)
    (in_filter (is_ref_of row.atom.key.section row.atom.key.offset) is.file.refs r (in_from_Contains is.file.refs r is.among) is.of_atom)

met_holds : (m : ImageInputs) (image : List ℕ) (of : Imaged m image) (row : PlacedWork) (r : Ref) (met : Met) → IsKnown m image of row r → met_of (scene_of m of.layout) of.chains.words row r ≡ Some met → Holds image (row.address + met.place) met
unfolding mets_of
met_holds m image of row r met known is =
    field_holds m image of row met known.whole known.rising known.listed
    (in_filter_map (met_of (scene_of m of.layout) of.chains.words row) (refs_of m.files row) r met known.among is)

met_within : (m : ImageInputs) (image : List ℕ) (of : Imaged m image) (row : PlacedWork) (r : Ref) (met : Met) → IsKnown m image of row r → met_of (scene_of m of.layout) of.chains.words row r ≡ Some met → met.place + field_size met.kind ≤ length (bytes_of m.files row)
unfolding mets_of
met_within m image of row r met known is =
    field_within m image of row met known.whole known.rising known.listed
    (in_filter_map (met_of (scene_of m of.layout) of.chains.words row) (refs_of m.files row) r met known.among is)

-- the goal of a reference
abbrev to_goal : {m : ImageInputs} {image : List ℕ} → Imaged m image → PlacedWork → Ref → Goal
to_goal {m = m} of row r = goal_of (scene_of m of.layout) row.file r.target

told_as : (scene : Scene) (row : PlacedWork) (r : Ref) (way : Option Way) (goal : Goal) (value minus : ℕ) → address_by scene way goal ≡ Some value → minus_address scene row r ≡ Some minus → told_met scene row r way goal ≡ Some (met_with r value minus (added way r))
told_as scene row r way goal value minus e f =
    ap (λ (o : Option ℕ). option_and_then (λ (v : ℕ). option_map (λ (n : ℕ). met_with r v n (added way r)) (minus_address scene row r)) o) e
    ∙ ap (option_map (λ (n : ℕ). met_with r value n (added way r))) f

-- the field of a reference that tells an address or a distance holds it
told_holds : (m : ImageInputs) (image : List ℕ) (of : Imaged m image) (row : PlacedWork) (r : Ref) (way : Option Way) (value minus : ℕ) → IsKnown m image of row r → met_by r.kind (scene_of m of.layout) of.chains.words row r (to_goal of row r) ≡ told_met (scene_of m of.layout) row r way (to_goal of row r) → address_by (scene_of m of.layout) way (to_goal of row r) ≡ Some value → minus_address (scene_of m of.layout) row r ≡ Some minus
    → Holds image (row.address + r.place) (met_with r value minus (added way r))
unfolding met_of
told_holds m image of row r way value minus known told e f =
    met_holds m image of row r (met_with r value minus (added way r)) known (told ∙ told_as (scene_of m of.layout) row r way (to_goal of row r) value minus e f)

some_of : (found : Option ℕ) → IsSome found → (n : ℕ) × (found ≡ Some n)
some_of None is = absurd cc
some_of (Some n) is = (n, refl)

none_subtracted : (scene : Scene) (row : PlacedWork) (r : Ref) (kind : RefKind) → r.kind ≡ kind → is_difference kind ≡ false → minus_address scene row r ≡ Some 0
none_subtracted scene row r kind e not = ap (λ (b : Bool). if b then option_and_then (λ (target : Target). address_by scene None (goal_of scene row.file target)) r.minus else Some 0) (ap is_difference e ∙ not)

-- ---- the goal's own address

goal_found : (m : ImageInputs) (image : List ℕ) (of : Imaged m image) (goal : Goal) → AreRising m → address_by (scene_of m of.layout) None goal ≡ goal_address image (addresses_of of.layout.placed) goal
unfolding address_by
goal_found m image of goal rising = goal_same m image of goal rising

-- the goal that is subtracted
abbrev from_goal : {m : ImageInputs} {image : List ℕ} → Imaged m image → PlacedWork → Ref → Option Goal
from_goal {m = m} of row r = option_map (goal_of (scene_of m of.layout) row.file) r.minus

own_tells : (m : ImageInputs) (image : List ℕ) (of : Imaged m image) (offsets : AtomMap) (section : ℕ) (row : PlacedWork) (r : Ref) (value minus : ℕ) → IsKnown m image of row r → met_by r.kind (scene_of m of.layout) of.chains.words row r (to_goal of row r) ≡ told_met (scene_of m of.layout) row r None (to_goal of row r) → address_by (scene_of m of.layout) None (to_goal of row r) ≡ Some value → minus_address (scene_of m of.layout) row r ≡ Some minus
    → IsOwnBy r.kind image (addresses_of of.layout.placed) (to_goal of row r) (from_goal of row r) (met_with r value minus r.addend) → TellsGoal m of.layout image offsets section row r
own_tells m image of offsets section row r value minus known told e f own =
    own_told image (places_of of.layout offsets) (row.address + r.place) section r (to_goal of row r) (from_goal of row r) (met_with r value minus r.addend)
    (told_holds m image of row r None value minus known told e f)
    (record { kind = refl; addend = refl; value = sym (goal_found m image of (to_goal of row r) known.rising) ∙ e; own = own })

-- what is subtracted has its address
end_found : (m : ImageInputs) (image : List ℕ) (of : Imaged m image) (file : ℕ) (minus : Option Target) → AreRising m → HasEnd (scene_of m of.layout) file minus
    → (n : ℕ) × (option_and_then (λ (target : Target). address_by (scene_of m of.layout) None (goal_of (scene_of m of.layout) file target)) minus ≡ Some n) × (option_and_then (goal_address image (addresses_of of.layout.placed)) (option_map (goal_of (scene_of m of.layout) file) minus) ≡ Some n)
end_found m image of file None rising has = absurd has
end_found m image of file (Some target) rising has =
    let scene = scene_of m of.layout in
    let found = some_of (address_by scene None (goal_of scene file target)) has in
    (found.0, found.1, sym (goal_found m image of (goal_of scene file target) rising) ∙ found.1)

-- ---- slots

-- a slot ends low
slot_low : (m : ImageInputs) (layout : Layout) (way : Way) (goal : Goal) (slot : ℕ) → IsLaid m layout → slot_address (starts_of layout.sections) m.slots way goal ≡ Some slot → slot < 2 ^ 64
slot_low m layout way goal slot laid e =
    let unit = unit_found m layout way goal slot e in
    let ends = own_low m layout way unit.placed laid unit.section in
    let sized = (own_is m layout way unit.placed laid unit.section).sized in
    let within = unit.within in
    let stands = unit.stands in
    by way (length (Rattle.slot_place.specs.Places.goals_for m.slots way)) unit.number slot unit.placed.address unit.placed.size within stands sized ends
  where
    by : (w : Way) (count number at start size : ℕ) → number < count → at ≡ start + unit_of w * number → size ≡ unit_of w * count → start + size < 2 ^ 33 → at < 2 ^ 64
    by Got count number at start size a b c d = omega arith
    by Stub count number at start size a b c d = omega arith
    by Tlv count number at start size a b c d = omega arith

slot_tells : (m : ImageInputs) (image : List ℕ) (of : Imaged m image) (offsets : AtomMap) (section : ℕ) (row : PlacedWork) (r : Ref) (way : Way) → IsKnown m image of row r → HasSlots way → IsBySlot r.kind → met_by r.kind (scene_of m of.layout) of.chains.words row r (to_goal of row r) ≡ told_met (scene_of m of.layout) row r (Some way) (to_goal of row r) → minus_address (scene_of m of.layout) row r ≡ Some 0
    → HasAddress (scene_of m of.layout) (Some way) (to_goal of row r) → TellsGoal m of.layout image offsets section row r
unfolding address_by
slot_tells m image of offsets section row r way known slots by_slot told none has =
    let goal : Goal = to_goal of row r in
    let found = some_of (slot_address (starts_of of.layout.sections) m.slots way goal) has in
    slot_told image (places_of of.layout offsets) (row.address + r.place) section r goal (from_goal of row r) (met_with r found.0 0 (pos 0))
    (told_holds m image of row r (Some way) found.0 0 known told found.1 none)
    (record { kind = refl; by_slot = by_slot; addend = refl; low = slot_low m of.layout way goal found.0 of.is_image.laid found.1; held = slot_held m image of way goal found.0 known.whole known.rising known.fillable slots found.1 })

-- ---- pointers

-- a pointer of an atom is one of the image's
fixup_among : (m : ImageInputs) (image : List ℕ) (of : Imaged m image) (row : PlacedWork) (r : Ref) (fixup : Fixup) → IsKnown m image of row r → fixup_of (scene_of m of.layout) row r ≡ Some fixup → Contains of.fixups fixup
unfolding all_fixups row_fixups
fixup_among m image of row r fixup known is =
    let scene = scene_of m of.layout in
    let rows : List PlacedWork = rows_of m of.layout in
    let starts = starts_of of.layout.sections in
    let here : In fixup (row_fixups scene row) = in_filter_map (fixup_of scene row) (refs_of m.files row) r fixup known.among is in
    let all : In fixup (all_fixups scene rows) =
    in_right (slot_fixups starts.got m.slots.got) _ fixup (in_right (slot_fixups starts.tlv m.slots.tlv) (flat_map (row_fixups scene) rows) fixup (in_flat (row_fixups scene) rows row fixup known.listed here)) in
    Contains-permutation (all_fixups scene rows) of.fixups fixup of.is_image.chained.pointers.all (Contains_from_in (all_fixups scene rows) fixup all)

long_from : (image : List ℕ) (address n : ℕ) → address + 8 ≤ 2 ^ 64 → long_at image address ≡ Some n → long_in image address ≡ Some n
long_from image address n low e = rw (le-leb (address + 8) (2 ^ 64) low) e

base_room : (dylib : Bool) → (if dylib then 0 else 2 ^ 32) + 2 ^ 36 ≤ 2 ^ 64
base_room true = omega arith
base_room false = omega arith

pointer_within : (m : ImageInputs) (image : List ℕ) (of : Imaged m image) (row : PlacedWork) (r : Ref) (fixup : Fixup) → IsKnown m image of row r → field_size r.kind ≡ 8 → fixup_of (scene_of m of.layout) row r ≡ Some fixup → Contains of.fixups fixup → r.place + 8 ≤ length (bytes_of m.files row)
pointer_within m image of row r fixup known eight is there =
    let word = pointer_known m image of fixup there in
    let one = reference_pointer (scene_of m of.layout) of.chains row r fixup known.among is in
    let within = field_within m image of row (met_with r word.word 0 (pos 0)) known.whole known.rising known.listed (pointer_among m image of row r fixup one word.word word.found) in
    omega (arith, within, eight)

-- the loader fills it in
pointer_to : (m : ImageInputs) (image : List ℕ) (of : Imaged m image) (row : PlacedWork) (r : Ref) (p : Pointee) → IsKnown m image of row r → field_size r.kind ≡ 8 → fixup_of (scene_of m of.layout) row r ≡ Some (fixup_to row r p) → IsPointerTo image (addresses_of of.layout.placed) (row.address + r.place) p.goal p.addend
pointer_to m image of row r p known eight is =
    let scene = scene_of m of.layout in
    let laid = of.is_image.laid in
    let fixup : Fixup = fixup_to row r p in
    let there = fixup_among m image of row r fixup known is in
    let word = pointer_known m image of fixup there in
    let low = row_low m of.layout row known.rising laid known.listed in
    let few = few_bytes m.files row in
    let within : r.place + 8 ≤ length (bytes_of m.files row) = pointer_within m image of row r fixup known eight is there in
    record {
      number = word.word;
      there = long_from image (row.address + r.place) word.word (omega (arith, low, few, within)) ((pointers_there m image of fixup known.whole known.rising there).holds word.word word.found word.small);
      held = pointers_held m image of fixup known.whole known.rising known.fillable there;
      in_range = in_range image (row.address + r.place) (base_of m.command) (base_is m image of known.rising) (base_room m.command.dylib);
    }

got_pointer_tells : (m : ImageInputs) (image : List ℕ) (of : Imaged m image) (offsets : AtomMap) (section : ℕ) (row : PlacedWork) (r : Ref) → IsKnown m image of row r → r.kind ≡ GotPointer → HasAddress (scene_of m of.layout) (Some Got) (to_goal of row r) → TellsGoal m of.layout image offsets section row r
unfolding address_by fixup_of pointee
got_pointer_tells m image of offsets section row r known kind has =
    let scene = scene_of m of.layout in
    let goal : Goal = to_goal of row r in
    let base = base_of m.command in
    let found = some_of (slot_address (starts_of of.layout.sections) m.slots Got goal) has in
    let p : Pointee = record { goal = Header; addend = pos found.0 -ℤ pos base } in
    let is : fixup_of scene row r ≡ Some (fixup_to row r p) =
    ap (λ (k : RefKind). option_map (fixup_to row r) (pointee_by k scene row goal r.addend)) kind
    ∙ ap (λ (o : Option ℕ). option_map (fixup_to row r) (option_map (λ (slot : ℕ). let q : Pointee = record { goal = Header; addend = pos slot -ℤ pos base } in q) o)) found.1 in
    slot_pointer_told image (places_of of.layout offsets) (row.address + r.place) section r goal (from_goal of row r) kind
    (record {
      base = base;
      begins = base_is m image of known.rising;
      slot = found.0;
      pointer = pointer_to m image of row r p known (ap field_size kind) is;
      held = slot_held m image of Got goal found.0 known.whole known.rising known.fillable tt found.1;
    })

-- ---- pointers to goals

-- whether the reference is of a descriptor of a thread-local variable, by the type of its section
descriptor_is : (m : ImageInputs) (row : PlacedWork) (r : Ref) (is : IsReferenceOf m row r) → is_descriptor m.files row ≡ (section_of is == S_THREAD_LOCAL_VARIABLES)
unfolding is_descriptor
descriptor_is m row r is = ap (λ (o : Option LoadedFile). option_map_or (λ (file : LoadedFile). has_descriptors file row.atom.key.section) o false) is.of_file

both_true : (a b : Bool) → (a && b) ≡ true → (a ≡ true) × (b ≡ true)
both_true true b e = (refl, e)
both_true false b e = absurd cc

no_offset : (a b : Bool) (found : Option ℕ) → (a && b) ≡ false → (if a then (if b then found else None) else None) ≡ None
no_offset true b found e = rw e refl
no_offset false b found e = refl

offset_if : (a b : Bool) (found : Option ℕ) → (a && b) ≡ true → (if a then (if b then found else None) else None) ≡ found
offset_if a b found e = let both = both_true a b e in rw (both.0, both.1) refl

-- the offset that a reference's pointer is to hold
offset_is : (m : ImageInputs) (image : List ℕ) (of : Imaged m image) (offsets : AtomMap) (row : PlacedWork) (r : Ref) (is : IsReferenceOf m row r) → AreOffsets (scene_of m of.layout) offsets → offset_for (section_of is) offsets (to_goal of row r) ≡ (if is_descriptor m.files row then (if leads_to_template m.files (to_goal of row r) then template_offset (scene_of m of.layout) (to_goal of row r) else None) else None)
offset_is m image of offsets row r is are =
    ap (λ (o : Option ℕ). if section_of is == S_THREAD_LOCAL_VARIABLES then o else None) (are (to_goal of row r))
    ∙ ap (λ (b : Bool). if b then (if leads_to_template m.files (to_goal of row r) then template_offset (scene_of m of.layout) (to_goal of row r) else None) else None) (sym (descriptor_is m row r is))

pointer_tells : (m : ImageInputs) (image : List ℕ) (of : Imaged m image) (offsets : AtomMap) (row : PlacedWork) (r : Ref) (is : IsReferenceOf m row r) → IsKnown m image of row r → AreOffsets (scene_of m of.layout) offsets → r.kind ≡ Pointer → HasOffset (holds_offset m.files row (to_goal of row r)) (scene_of m of.layout) (to_goal of row r) → TellsGoal m of.layout image offsets (section_of is) row r
unfolding fixup_of pointee met_of
pointer_tells m image of offsets row r is known are kind served = by (holds_offset m.files row goal) refl served
  where
    scene : Scene
    scene = scene_of m of.layout

    goal : Goal
    goal = to_goal of row r

    p : ℕ
    p = row.address + r.place

    -- no pointer stands there, if it holds an offset
    none : holds_offset m.files row goal ≡ true → fixup_of scene row r ≡ None
    none holds = ap (λ (k : RefKind). option_map (fixup_to row r) (pointee_by k scene row goal r.addend)) kind ∙ ap (λ (b : Bool). option_map (fixup_to row r) (if b then None else Some (let q : Pointee = record { goal = goal; addend = r.addend } in q))) holds

    some : holds_offset m.files row goal ≡ false → fixup_of scene row r ≡ Some (fixup_to row r (record { goal = goal; addend = r.addend }))
    some not = ap (λ (k : RefKind). option_map (fixup_to row r) (pointee_by k scene row goal r.addend)) kind ∙ ap (λ (b : Bool). option_map (fixup_to row r) (if b then None else Some (let q : Pointee = record { goal = goal; addend = r.addend } in q))) not

    met_is : (offset : ℕ) → holds_offset m.files row goal ≡ true → template_offset scene goal ≡ Some offset → met_of scene of.chains.words row r ≡ Some (met_with r offset 0 r.addend)
    met_is offset holds e =
        ap (λ (k : RefKind). met_by k scene of.chains.words row r goal) kind
        ∙ ap (λ (b : Bool). if b then option_map (λ (n : ℕ). met_with r n 0 r.addend) (template_offset scene goal) else Rattle.ref_meet.specs.Mets.chained_met of.chains.words row r) holds
        ∙ ap (option_map (λ (n : ℕ). met_with r n 0 r.addend)) e

    by : (b : Bool) → holds_offset m.files row goal ≡ b → HasOffset b scene goal → TellsGoal m of.layout image offsets (section_of is) row r
    by false e has =
        pointer_told image (places_of of.layout offsets) p (section_of is) r goal (from_goal of row r) kind
        (offset_is m image of offsets row r is are ∙ no_offset (is_descriptor m.files row) (leads_to_template m.files goal) (template_offset scene goal) e)
        (pointer_to m image of row r (record { goal = goal; addend = r.addend }) known (ap field_size kind) (some e))
    by true e has =
        let found = some_of (template_offset scene goal) has in
        let met : Met = met_with r found.0 0 r.addend in
        let as_met = met_is found.0 e found.1 in
        let within = met_within m image of row r met known as_met in
        offset_told image (places_of of.layout offsets) p (section_of is) r goal (from_goal of row r) met (met_holds m image of row r met known as_met)
        (record {
          kind = refl;
          pointer = kind;
          addend = refl;
          offset = offset_is m image of offsets row r is are ∙ offset_if (is_descriptor m.files row) (leads_to_template m.files goal) (template_offset scene goal) e ∙ found.1;
          plain = others_plain m image of p known.whole known.rising known.fillable (λ fixup there. no_pointer_at m image of row r fixup known.whole known.rising known.listed known.among within (none e) there);
        })

-- ---- branches

branch_tells : (m : ImageInputs) (image : List ℕ) (of : Imaged m image) (offsets : AtomMap) (section : ℕ) (row : PlacedWork) (r : Ref) → IsKnown m image of row r → r.kind ≡ Branch → HasAddress (scene_of m of.layout) (way_of Branch r.addend (to_goal of row r)) (to_goal of row r) → TellsGoal m of.layout image offsets section row r
branch_tells m image of offsets section row r known kind has = by (is_looked_up goal && is_zero r.addend) refl has
  where
    scene : Scene
    scene = scene_of m of.layout

    goal : Goal
    goal = to_goal of row r

    none : minus_address scene row r ≡ Some 0
    none = none_subtracted scene row r Branch kind refl

    told : (b : Bool) → (is_looked_up goal && is_zero r.addend) ≡ b → met_by r.kind scene of.chains.words row r goal ≡ told_met scene row r (if b then Some Stub else None) goal
    told b e = ap (λ (k : RefKind). met_by k scene of.chains.words row r goal) kind ∙ ap (λ (c : Bool). told_met scene row r (if c then Some Stub else None) goal) e

    by : (b : Bool) → (is_looked_up goal && is_zero r.addend) ≡ b → HasAddress scene (if b then Some Stub else None) goal → TellsGoal m of.layout image offsets section row r
    by true e some =
        let found = some_of (address_by scene (Some Stub) goal) some in
        let both = both_true (is_looked_up goal) (is_zero r.addend) e in
        stub_told image (places_of of.layout offsets) (row.address + r.place) section r goal (from_goal of row r) (met_with r found.0 0 (pos 0))
        (told_holds m image of row r (Some Stub) found.0 0 known (told true e) found.1 none)
        (record { kind = refl; branch = kind; looked_up = both.0; nothing = both.1; addend = refl; stub = stub_leads m image of goal found.0 known.whole known.rising known.fillable known.slots found.1 })
    by false e some =
        let found = some_of (address_by scene None goal) some in
        own_tells m image of offsets section row r found.0 0 known (told false e) found.1 none
        (subst (λ (k : RefKind). IsOwnBy k image (addresses_of of.layout.placed) goal (from_goal of row r) (met_with r found.0 0 r.addend)) (sym kind) e)

-- ---- kinds of one form

-- an instruction that tells the goal's page, or its offset in the page
plain_tells : (kind : RefKind) (m : ImageInputs) (image : List ℕ) (of : Imaged m image) (offsets : AtomMap) (section : ℕ) (row : PlacedWork) (r : Ref) → IsKnown m image of row r → r.kind ≡ kind → is_difference kind ≡ false → met_by kind (scene_of m of.layout) of.chains.words row r (to_goal of row r) ≡ told_met (scene_of m of.layout) row r None (to_goal of row r)
    → ((met : Met) → IsOwnBy kind image (addresses_of of.layout.placed) (to_goal of row r) (from_goal of row r) met) → HasAddress (scene_of m of.layout) None (to_goal of row r) → TellsGoal m of.layout image offsets section row r
plain_tells kind m image of offsets section row r known is alone told own has =
    let scene = scene_of m of.layout in
    let goal : Goal = to_goal of row r in
    let found = some_of (address_by scene None goal) has in
    own_tells m image of offsets section row r found.0 0 known (ap (λ (k : RefKind). met_by k scene of.chains.words row r goal) is ∙ told) found.1 (none_subtracted scene row r kind is alone)
    (subst (λ (k : RefKind). IsOwnBy k image (addresses_of of.layout.placed) goal (from_goal of row r) (met_with r found.0 0 r.addend)) (sym is) (own (met_with r found.0 0 r.addend)))

-- a difference
difference_tells : (kind : RefKind) (m : ImageInputs) (image : List ℕ) (of : Imaged m image) (offsets : AtomMap) (section : ℕ) (row : PlacedWork) (r : Ref) → IsKnown m image of row r → r.kind ≡ kind → is_difference kind ≡ true → met_by kind (scene_of m of.layout) of.chains.words row r (to_goal of row r) ≡ told_met (scene_of m of.layout) row r None (to_goal of row r)
    → HasAddress (scene_of m of.layout) None (to_goal of row r) → (n : ℕ) → option_and_then (λ (target : Target). address_by (scene_of m of.layout) None (goal_of (scene_of m of.layout) row.file target)) r.minus ≡ Some n
    → ((value : ℕ) → IsOwnBy kind image (addresses_of of.layout.placed) (to_goal of row r) (from_goal of row r) (met_with r value n r.addend)) → TellsGoal m of.layout image offsets section row r
difference_tells kind m image of offsets section row r known is differs told has n minus own =
    let scene = scene_of m of.layout in
    let goal : Goal = to_goal of row r in
    let found = some_of (address_by scene None goal) has in
    let subtracted : minus_address scene row r ≡ Some n = ap (λ (b : Bool). if b then option_and_then (λ (target : Target). address_by scene None (goal_of scene row.file target)) r.minus else Some 0) (ap is_difference is ∙ differs) ∙ minus in
    own_tells m image of offsets section row r found.0 n known (ap (λ (k : RefKind). met_by k scene of.chains.words row r goal) is ∙ told) found.1 subtracted
    (subst (λ (k : RefKind). IsOwnBy k image (addresses_of of.layout.placed) goal (from_goal of row r) (met_with r found.0 n r.addend)) (sym is) (own found.0))

-- an instruction or a distance that tells a slot
by_slot_tells : (kind : RefKind) (way : Way) (m : ImageInputs) (image : List ℕ) (of : Imaged m image) (offsets : AtomMap) (section : ℕ) (row : PlacedWork) (r : Ref) → IsKnown m image of row r → r.kind ≡ kind → HasSlots way → IsBySlot kind → is_difference kind ≡ false
    → met_by kind (scene_of m of.layout) of.chains.words row r (to_goal of row r) ≡ told_met (scene_of m of.layout) row r (Some way) (to_goal of row r) → HasAddress (scene_of m of.layout) (Some way) (to_goal of row r) → TellsGoal m of.layout image offsets section row r
by_slot_tells kind way m image of offsets section row r known is slots by_slot alone told has =
    let scene = scene_of m of.layout in
    slot_tells m image of offsets section row r way known slots (subst IsBySlot (sym is) by_slot)
    (ap (λ (k : RefKind). met_by k scene of.chains.words row r (to_goal of row r)) is ∙ told) (none_subtracted scene row r kind is alone) has

-- ---- all kinds

tells_by : (kind : RefKind) (m : ImageInputs) (image : List ℕ) (of : Imaged m image) (offsets : AtomMap) (row : PlacedWork) (r : Ref) (is : IsReferenceOf m row r) → IsKnown m image of row r → AreOffsets (scene_of m of.layout) offsets → r.kind ≡ kind → IsServedBy kind (scene_of m of.layout) row r (to_goal of row r) → TellsGoal m of.layout image offsets (section_of is) row r
tells_by Pointer m image of offsets row r is known are kind served = pointer_tells m image of offsets row r is known are kind served
tells_by GotPointer m image of offsets row r is known are kind served = got_pointer_tells m image of offsets (section_of is) row r known kind served
tells_by Branch m image of offsets row r is known are kind served = branch_tells m image of offsets (section_of is) row r known kind served
tells_by Page m image of offsets row r is known are kind served = plain_tells Page m image of offsets (section_of is) row r known kind refl refl (λ met. tt) served
tells_by PageOff m image of offsets row r is known are kind served = plain_tells PageOff m image of offsets (section_of is) row r known kind refl refl (λ met. tt) served
tells_by Diff32 m image of offsets row r is known are kind served =
    let end = end_found m image of row.file r.minus known.rising served.1 in
    difference_tells Diff32 m image of offsets (section_of is) row r known kind refl refl served.0 end.0 end.1 (λ value. end.2)
tells_by Diff64 m image of offsets row r is known are kind served =
    let end = end_found m image of row.file r.minus known.rising served.1 in
    difference_tells Diff64 m image of offsets (section_of is) row r known kind refl refl served.0 end.0 end.1 (λ value. end.2)
tells_by GotPage m image of offsets row r is known are kind served = by_slot_tells GotPage Got m image of offsets (section_of is) row r known kind tt tt refl refl served
tells_by GotPageOff m image of offsets row r is known are kind served = by_slot_tells GotPageOff Got m image of offsets (section_of is) row r known kind tt tt refl refl served
tells_by GotDelta m image of offsets row r is known are kind served = by_slot_tells GotDelta Got m image of offsets (section_of is) row r known kind tt tt refl refl served
tells_by TlvPage m image of offsets row r is known are kind served = by_slot_tells TlvPage Tlv m image of offsets (section_of is) row r known kind tt tt refl refl served
tells_by TlvPageOff m image of offsets row r is known are kind served = by_slot_tells TlvPageOff Tlv m image of offsets (section_of is) row r known kind tt tt refl refl served

pub references_tell : (m : ImageInputs) (image : List ℕ) (of : Imaged m image) (offsets : AtomMap) (row : PlacedWork) (r : Ref) → All IsWholeFile m.files → AreRising m → AreFillable (scene_of m of.layout) of.fixups → StubsHaveSlots m.slots → AreOffsets (scene_of m of.layout) offsets → Contains (rows_of m of.layout) row → (is : IsReferenceOf m row r) → IsServed m of.layout row r → TellsGoal m of.layout image offsets (section_of is) row r
references_tell m image of offsets row r whole rising fillable slots are listed is served =
    tells_by r.kind m image of offsets row r is
    (record { whole = whole; rising = rising; fillable = fillable; slots = slots; listed = in_from_Contains (rows_of m of.layout) row listed; among = reference_among m row r is })
    are refl served
