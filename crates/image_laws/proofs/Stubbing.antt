-- Slots and stubs of an image lead the loader to their goals.
use Rattle.std.proofs.Common.{◌≡◌, ℕ, zero, suc, ◌+◌, ◌*◌, ◌<◌, ◌≤◌, ◌^◌, inl, inr, pos, List, [], ◌∷◌, map, length, get_or, Option, Some, None, Contains, refl, sym, ap, ◌∙◌, arith, subst}
use Rattle.std.specs.Prelude.{All}
use Rattle.std.specs.List.{enumerate_from, flat_map}
use Rattle.std.specs.Option.{option_map, option_map_or}
use Rattle.std.proofs.lemmas.List.Sorted.{Contains-permutation}
use Rattle.list_lemmas.proofs.Members.{Contains_from_in, In, in_left, in_map, in_right}
use Rattle.mo_types.specs.Loaded.{IsWholeFile}
use Rattle.mo_types.specs.declared.goal.Goal.{Goal}
use Rattle.fixup_chain.specs.declared.chains.Fixup.{Fixup}
use Rattle.chain_laws.proofs.Standing.{Stands}
use Rattle.field_laws.specs.Memory.{AreInMemory}
use Rattle.field_laws.specs.Pointers.{addresses_of}
use Rattle.field_laws.proofs.Stubs.{stub_is}
use Rattle.sect_list.specs.OutSections.{out_sections}
use Rattle.sect_place.specs.Layout.{base_of, image_sections, plan_of}
use Rattle.sect_place.specs.Places.{spaced}
use Rattle.sect_place.specs.declared.layout.Layout.{Layout}
use Rattle.sect_place.specs.declared.layout.PlacedSection.{PlacedSection}
use Rattle.sect_place.proofs.Meaning.{sections_aligned}
use Rattle.slot_place.specs.Places.{goals_for, own_section, slot_address, start_of, starts_of, unit_at}
use Rattle.slot_place.specs.Stubs.{AreReached, stub_bytes, stub_of, stubs_bytes, stubs_from}
use Rattle.slot_place.specs.declared.places.SlotStarts.{SlotStarts}
use Rattle.slot_place.proofs.LoadLemmas.{loads}
use Rattle.slot_place.proofs.ReachLemmas.{AreWithin, are_reached, within}
use Rattle.slot_place.proofs.StubLemmas.{IsReached, reached}
use Rattle.slot_plan.specs.declared.need.Way.{Way}
use Rattle.slot_plan.specs.declared.need.Way.TheVariants.{Got, Stub, Tlv}
use Rattle.tlv_plan.specs.Template.{atoms_of}
use Rattle.image_make.specs.Atoms.{atom_of}
use Rattle.image_make.specs.Made.{IsLaid, ImageInputs, kept_of, plan_for, plan_with, rows_of, scene_of, sizes_of}
use Rattle.image_read.specs.Fixups.{fixup_at}
use Rattle.image_read.specs.Held.{Held}
use Rattle.image_read.specs.Reaches.{IsStub}
use Rattle.ref_meet.specs.Addresses.{address_by}
use Rattle.ref_meet.specs.Pointers.{all_fixups, row_fixups, slot_fixup, slot_fixups}
use Rattle.image_laws.specs.Means.{AreRising, Imaged}
use Rattle.image_laws.specs.References.{AreFillable, StubsHaveSlots}
use Rattle.image_laws.proofs.Blank.{stub_long}
use Rattle.image_laws.proofs.Carrying.{pointers_held}
use Rattle.image_laws.proofs.Layouts.{own_is}
use Rattle.image_laws.proofs.Listing.{have_atoms}
use Rattle.image_laws.proofs.OwnBytes.{own_there, part_there, units_long, units_stand}
use Rattle.image_laws.proofs.Pointing.{HasSlots, eight, own_low}
use Rattle.image_laws.proofs.Units.{IsUnit, start_is, unit_found, unit_there}

-- ---- slots

in_counted : (at : ℕ) (goals : List Goal) (n : ℕ) (goal : Goal) → n < length goals → get_or goals n goal ≡ goal → In (at + n, goal) (enumerate_from at goals)
in_counted at [] n goal low is = absurd (omega arith)
in_counted at (first ∷ goals) zero goal low is = inl (ap (λ (g : Goal). let p : ℕ × Goal = (at, g) in p) is ∙ ap (λ (k : ℕ). let p : ℕ × Goal = (k, goal) in p) (let e : at ≡ at + 0 = omega arith in e))
in_counted at (first ∷ goals) (suc n) goal low is =
    inr (subst (λ (k : ℕ). In (k, goal) (enumerate_from (at + 1) goals)) (let e : at + 1 + n ≡ at + suc n = omega arith in e) (in_counted (at + 1) goals n goal (omega arith) is))

-- the pointer of a slot
abbrev slot_pointer : ℕ → Goal → Fixup
slot_pointer address goal = record { atom = None; place = 0; address = address; goal = goal; addend = pos 0 }

slot_listed : (m : ImageInputs) (layout : Layout) (way : Way) (goal : Goal) (address : ℕ) → HasSlots way → IsUnit m layout way goal address → In (slot_pointer address goal) (slot_fixups (start_of (starts_of layout.sections) way) (goals_for m.slots way))
unfolding slot_fixups
slot_listed m layout way goal address slots unit =
    let placed : PlacedSection = unit.placed in
    let goals : List Goal = goals_for m.slots way in
    let start : start_of (starts_of layout.sections) way ≡ Some placed.address = start_is layout way ∙ ap (option_map (λ (p : PlacedSection). p.address)) unit.section in
    let counted : In (0 + unit.number, goal) (enumerate_from 0 goals) = in_counted 0 goals unit.number goal unit.within unit.is in
    let there = in_map (slot_fixup placed.address) (enumerate_from 0 goals) (0 + unit.number, goal) counted in
    let at : placed.address + 8 * (0 + unit.number) ≡ address = ap (λ (k : ℕ). placed.address + 8 * k) (let e : 0 + unit.number ≡ unit.number = omega arith in e) ∙ sym (unit.stands ∙ ap (λ (k : ℕ). placed.address + k * unit.number) (eight way slots)) in
    subst (λ (o : Option ℕ). In (slot_pointer address goal) (option_map_or (λ (n : ℕ). map (slot_fixup n) (enumerate_from 0 goals)) o [])) (sym start)
    (subst (λ (k : ℕ). In (slot_pointer k goal) (map (slot_fixup placed.address) (enumerate_from 0 goals))) at there)

slot_among : (m : ImageInputs) (layout : Layout) (way : Way) (fixup : Fixup) → HasSlots way → In fixup (slot_fixups (start_of (starts_of layout.sections) way) (goals_for m.slots way)) → In fixup (all_fixups (scene_of m layout) (rows_of m layout))
unfolding all_fixups
slot_among m layout Got fixup slots h = in_left (slot_fixups (starts_of layout.sections).got m.slots.got) _ fixup h
slot_among m layout Stub fixup slots h = absurd slots
slot_among m layout Tlv fixup slots h =
    in_right (slot_fixups (starts_of layout.sections).got m.slots.got) _ fixup (in_left (slot_fixups (starts_of layout.sections).tlv m.slots.tlv) (flat_map (row_fixups (scene_of m layout)) (rows_of m layout)) fixup h)

-- the slot of a goal leads to it
pub slot_held : (m : ImageInputs) (image : List ℕ) (of : Imaged m image) (way : Way) (goal : Goal) (address : ℕ) → All IsWholeFile m.files → AreRising m → AreFillable (scene_of m of.layout) of.fixups → HasSlots way → slot_address (starts_of of.layout.sections) m.slots way goal ≡ Some address → Held image (addresses_of of.layout.placed) (fixup_at image address) goal (pos 0)
slot_held m image of way goal address whole rising fillable slots e =
    let unit = unit_found m of.layout way goal address e in
    let fixup : Fixup = slot_pointer address goal in
    let listed = slot_among m of.layout way fixup slots (slot_listed m of.layout way goal address slots unit) in
    let scene = scene_of m of.layout in
    let all : List Fixup = all_fixups scene (rows_of m of.layout) in
    pointers_held m image of fixup whole rising fillable (Contains-permutation all of.fixups fixup of.is_image.chained.pointers.all (Contains_from_in all fixup listed))

-- ---- stubs

slots_reached : (m : ImageInputs) (layout : Layout) → IsLaid m layout → AreReached (base_of m.command) (starts_of layout.sections) m.slots
unfolding image_sections plan_with plan_of spaced atoms_of
slots_reached m layout laid =
    let plan = plan_for m in
    let sections = out_sections m.files (map atom_of (kept_of m)) in
    let small = laid.small in
    let all : AreWithin (base_of m.command) m.slots layout.sections =
    subst (λ (ss : List PlacedSection). AreWithin (base_of m.command) m.slots ss) (sym laid.layout_of.sections)
    (within plan.atoms (base_of m.command) 0 plan.lead sections m.slots (sizes_of m.command m.libs (length m.info)) (record { none = refl; have_atoms = have_atoms m.files (map atom_of (kept_of m)) }) (omega (arith, small)) (sections_aligned plan)) in
    are_reached m.command m.slots layout.sections all

-- the slot that a stub loads
slot_of : (m : ImageInputs) (layout : Layout) (goal : Goal) → IsLaid m layout → StubsHaveSlots m.slots → Contains m.slots.stubs goal → (slot : ℕ) × (slot_address (starts_of layout.sections) m.slots Got goal ≡ Some slot)
slot_of m layout goal laid have h = unit_there m layout Got goal laid (have.each goal h)

one_stub : (starts : SlotStarts) (m : ImageInputs) (start k slot : ℕ) (goal : Goal) → slot_address starts m.slots Got goal ≡ Some slot → stub_of starts m.slots start (k, goal) ≡ stub_bytes (unit_at 12 start k) slot
one_stub starts m start k slot goal e = ap (λ (o : Option ℕ). option_map_or (λ (n : ℕ). stub_bytes (unit_at 12 start k) n) o []) e

stubs_are : (m : ImageInputs) (layout : Layout) (placed : PlacedSection) → own_section layout.sections Stub ≡ Some placed → stubs_bytes (starts_of layout.sections) m.slots ≡ flat_map (stub_of (starts_of layout.sections) m.slots placed.address) (enumerate_from 0 m.slots.stubs)
unfolding stubs_bytes stubs_from starts_of
stubs_are m layout placed e = ap (λ (o : Option PlacedSection). option_map_or (stubs_from (starts_of layout.sections) m.slots) (option_map (λ (p : PlacedSection). p.address) o) []) e

pub stub_leads : (m : ImageInputs) (image : List ℕ) (of : Imaged m image) (goal : Goal) (address : ℕ) → All IsWholeFile m.files → AreRising m → AreFillable (scene_of m of.layout) of.fixups → StubsHaveSlots m.slots → address_by (scene_of m of.layout) (Some Stub) goal ≡ Some address → IsStub image (addresses_of of.layout.placed) address goal
unfolding address_by
stub_leads m image of goal address whole rising fillable have e =
    stub_is image (addresses_of of.layout.placed) address slot.0 goal (stub_bytes address slot.0)
    (loads address slot.0 (subst (λ (k : ℕ). IsReached (base_of m.command) k slot.0) (sym unit.stands) near).pages (subst (λ (k : ℕ). IsReached (base_of m.command) k slot.0) (sym unit.stands) near).whole)
    there high low (slot_held m image of Got goal slot.0 whole rising fillable tt slot.1)
  where
    laid : IsLaid m of.layout
    laid = of.is_image.laid

    starts : SlotStarts
    starts = starts_of of.layout.sections

    unit : IsUnit m of.layout Stub goal address
    unit = unit_found m of.layout Stub goal address e

    goals : List Goal
    goals = m.slots.stubs

    start : starts.stubs ≡ Some unit.placed.address
    start = start_is of.layout Stub ∙ ap (option_map (λ (p : PlacedSection). p.address)) unit.section

    slot : (n : ℕ) × (slot_address starts m.slots Got goal ≡ Some n)
    slot = slot_of m of.layout goal laid have (unit.number, unit.within, unit.is)

    near : IsReached (base_of m.command) (unit.placed.address + 12 * unit.number) slot.0
    near = reached (base_of m.command) starts m.slots unit.placed.address unit.number slot.0 goal (slots_reached m of.layout laid) start unit.within slot.1

    twelve_each : (k : ℕ) (g : Goal) → In g goals → length (stub_of starts m.slots unit.placed.address (k, g)) ≡ 12
    twelve_each k g h =
        let own = slot_of m of.layout g laid have (Contains_from_in goals g h) in
        ap length (one_stub starts m unit.placed.address k own.0 g own.1) ∙ stub_long (unit_at 12 unit.placed.address k) own.0

    bytes : List ℕ
    bytes = flat_map (stub_of starts m.slots unit.placed.address) (enumerate_from 0 goals)

    same : stub_of starts m.slots unit.placed.address (0 + unit.number, get_or goals unit.number goal) ≡ stub_bytes address slot.0
    same =
        ap (λ (g : Goal). stub_of starts m.slots unit.placed.address (0 + unit.number, g)) unit.is
        ∙ ap (λ (k : ℕ). stub_of starts m.slots unit.placed.address (k, goal)) (let z : 0 + unit.number ≡ unit.number = omega arith in z)
        ∙ one_stub starts m unit.placed.address unit.number slot.0 goal slot.1
        ∙ ap (λ (k : ℕ). stub_bytes k slot.0) (sym unit.stands)

    there : AreInMemory image address (stub_bytes address slot.0)
    there =
        let stand = units_stand (stub_of starts m.slots unit.placed.address) 12 0 goals unit.number goal twelve_each unit.within in
        let all = subst (λ (z : List ℕ). AreInMemory image unit.placed.address z) (stubs_are m of.layout unit.placed unit.section) (own_there m image of Stub unit.placed rising unit.section) in
        let long = units_long (stub_of starts m.slots unit.placed.address) 12 0 goals twelve_each in
        let within = unit.within in
        let part = part_there image unit.placed.address (12 * unit.number) bytes (stub_bytes address slot.0) all (subst (λ (z : List ℕ). Stands bytes (12 * unit.number) z) same stand) (omega (arith, long, within, stub_long address slot.0)) in
        subst (λ (k : ℕ). AreInMemory image k (stub_bytes address slot.0)) (sym unit.stands) part

    high : address + 12 ≤ 2 ^ 64
    high =
        let ends = own_low m of.layout Stub unit.placed laid unit.section in
        let sized = (own_is m of.layout Stub unit.placed laid unit.section).sized in
        let within = unit.within in
        let stands = unit.stands in
        omega (arith, ends, sized, within, stands)

    low : slot.0 < 2 ^ 64
    low =
        let own = unit_found m of.layout Got goal slot.0 slot.1 in
        let ends = own_low m of.layout Got own.placed laid own.section in
        let sized = (own_is m of.layout Got own.placed laid own.section).sized in
        let within = own.within in
        let stands = own.stands in
        omega (arith, ends, sized, within, stands)
