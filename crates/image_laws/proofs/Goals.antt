-- Where goals stand in an image: what the loader finds is what was written.
use Rattle.std.proofs.Common.{◌≡◌, ℕ, ◌+◌, ◌<◌, ◌≤◌, Bool, true, List, [], ◌∷◌, ◌++◌, Option, Some, None, refl, sym, ap, ◌∙◌, arith, subst, if◌then◌else◌}
use Rattle.std.specs.List.{AllByRecursion, find}
use Rattle.std.specs.Option.{option_map}
use Rattle.std.specs.Ordering.{is_eq}
use Rattle.std.proofs.lemmas.List.Sorted.{Contains-permutation, IsPermutation-sym}
use Rattle.list_lemmas.proofs.Members.{Contains_from_in, In, all_in, find_some, in_from_Contains}
use Rattle.mo_format.specs.declared.segment.SegmentCommand.{SegmentCommand}
use Rattle.mo_types.specs.Keys.{compare_keys}
use Rattle.mo_types.specs.Scan.{first_some}
use Rattle.mo_types.specs.declared.atom.Atom.{Atom}
use Rattle.mo_types.specs.declared.goal.Goal.{Goal}
use Rattle.mo_types.specs.declared.goal.Goal.TheVariants.{Def, WeakSelf, Header, Import, Flat, Nobody}
use Rattle.mo_types.specs.declared.key.AtomKey.{AtomKey}
use Rattle.patch.proofs.ChosenLemmas.{some_is}
use Rattle.sect_place.specs.Layout as layouts
use Rattle.sect_place.specs.Places.{groups_places, page_up, parts_end, parts_places}
use Rattle.sect_place.specs.declared.part.Group.{Group}
use Rattle.sect_place.specs.declared.layout.Layout.{Layout}
use Rattle.sect_place.specs.declared.layout.Placed.{Placed}
use Rattle.sect_place.specs.declared.layout.Segment.{Segment}
use Rattle.ref_meet.specs.Addresses as work
use Rattle.field_laws.specs.Pointers.{addresses_of}
use Rattle.field_laws.proofs.Found.{address_found}
use Rattle.sect_place.specs.Addresses.{address_in}
use Rattle.image_make.specs.Made.{IsLaid, ImageInputs, plan_for, scene_of}
use Rattle.slot_plan.specs.declared.need.Way.{Way}
use Rattle.image_read.specs.Commands.{commands_of, fits}
use Rattle.image_read.specs.Held.{goal_address, in_atom}
use Rattle.image_read.specs.Meaning.{base_of, text_at, text_of}
use Rattle.image_laws.specs.Means.{AreRising, Imaged}
use Rattle.image_laws.proofs.Begun.{commands_list, is_fronted}
use Rattle.image_laws.proofs.First.{found_at, own}
use Rattle.image_laws.proofs.Fronted.{are_there}
use Rattle.image_laws.proofs.Layouts.{is_plan, own_is}
use Rattle.image_laws.proofs.Mapping.{first_found}
use Rattle.image_laws.proofs.Planned.{HasText, has_text}
use Rattle.image_laws.proofs.Seek.{is_text}
use Rattle.image_laws.proofs.Spots.{all_above}
use Rattle.image_laws.proofs.Units.{unit_found}

-- ---- where `__TEXT` begins

if_text : (b : Bool) (found : Option SegmentCommand) (command : SegmentCommand) → b ≡ true → found ≡ Some command → (if b then option_map (λ (s : SegmentCommand). s.vmaddr) found else None) ≡ Some command.vmaddr
if_text b found command p q = rw (p, q) refl

text_found : (image : List ℕ) (command : SegmentCommand) → first_some (found_at is_text image) (commands_of image) ≡ Some command → text_of image ≡ Some command
unfolding text_of text_at
text_found image command found = found

pub base_is : (m : ImageInputs) (image : List ℕ) (of : Imaged m image) → AreRising m → base_of image ≡ Some (layouts.base_of m.command)
unfolding base_of
base_is m image of rising =
    let plan = is_plan m of.layout of.is_image.laid in
    let text : HasText of.layout.segments (plan_for m).base = subst (λ (ss : List Segment). HasText ss (plan_for m).base) (sym of.is_image.laid.layout_of.segments) (has_text m.command (plan_for m) plan) in
    let found = first_found is_text m image of (own text.text) rising text.first in
    if_text (fits image) (text_of image) (own text.text) (are_there image (commands_list of) (is_fronted m image of rising)) (text_found image (own text.text) found)
    ∙ ap Some (text.begins ∙ plan.base)

-- ---- goals

place_same : (placed : List Placed) (key : AtomKey) (offset : ℕ) → work.place_address placed key offset ≡ in_atom (addresses_of placed) key offset
place_same placed key offset = ap (option_map (λ (start : ℕ). start + offset)) (sym (address_found placed key))

pub none_at : {X : Type 0} (address : ℕ) → None ≡ Some address → X
none_at address e = absurd cc

-- the reader of an image finds a goal where it was put, or nowhere as it was put nowhere
pub goal_same : (m : ImageInputs) (image : List ℕ) (of : Imaged m image) (goal : Goal) → AreRising m → work.goal_address (layouts.base_of m.command) of.layout.placed goal ≡ goal_address image (addresses_of of.layout.placed) goal
goal_same m image of (Def key offset) rising = place_same of.layout.placed key offset
goal_same m image of (WeakSelf name key offset) rising = place_same of.layout.placed key offset
goal_same m image of Header rising = sym (base_is m image of rising)
goal_same m image of (Import name ordinal by_weak optional) rising = refl
goal_same m image of (Flat name) rising = refl
goal_same m image of Nobody rising = refl

-- ---- none stands before the image, and no atom stands where its header does

-- what stands behind the load commands stands as in an image that begins behind them
places_same : (atoms : List AtomKey → List Atom) (at lead : ℕ) (groups : List Group) → groups_places atoms (at + lead) 0 groups ≡ groups_places atoms at lead groups
unfolding groups_places
places_same atoms at lead [] = refl
places_same atoms at lead (group ∷ groups) =
    let here : at + lead + 0 ≡ at + lead = omega arith in
    ap (λ (n : ℕ). parts_places atoms n group.parts ++ groups_places atoms (page_up (parts_end atoms n group.parts)) 0 groups) here

all_behind : (plan : layouts.Plan) → AllByRecursion (λ (p : Placed). plan.base + plan.lead ≤ p.address) (layouts.image_places plan)
unfolding layouts.image_places
all_behind plan =
    let moved : layouts.Plan = record { atoms = plan.atoms; groups = plan.groups; base = plan.base + plan.lead; lead = 0 } in
    subst (AllByRecursion (λ (p : Placed). plan.base + plan.lead ≤ p.address)) (places_same plan.atoms plan.base plan.lead plan.groups) (all_above moved)

placed_behind : (m : ImageInputs) (layout : Layout) (p : Placed) → IsLaid m layout → In p layout.placed → layouts.base_of m.command < p.address
placed_behind m layout p laid h =
    let plan = plan_for m in
    let there : In p (layouts.image_places plan) = in_from_Contains (layouts.image_places plan) p (Contains-permutation layout.placed (layouts.image_places plan) p (IsPermutation-sym (layouts.image_places plan) layout.placed laid.layout_of.places) (Contains_from_in layout.placed p h)) in
    let behind = all_in (λ (q : Placed). plan.base + plan.lead ≤ q.address) (layouts.image_places plan) p (all_behind plan) there in
    let base = (is_plan m layout laid).base in
    let room = (is_plan m layout laid).room in
    omega (arith, behind, base, room)

atom_behind : (m : ImageInputs) (layout : Layout) (key : AtomKey) (start : ℕ) → IsLaid m layout → address_in layout.placed key ≡ Some start → layouts.base_of m.command < start
unfolding address_in
atom_behind m layout key start laid e = by (find test layout.placed) refl e
  where
    test : Placed → Bool
    test q = is_eq (compare_keys q.atom key)

    by : (found : Option Placed) → find test layout.placed ≡ found → option_map (λ (p : Placed). p.address) found ≡ Some start → layouts.base_of m.command < start
    by None found same = absurd cc
    by (Some p) found same =
        let there = find_some test layout.placed p found in
        subst (λ (n : ℕ). layouts.base_of m.command < n) (some_is p.address start same) (placed_behind m layout p laid there.0)

pub place_behind : (m : ImageInputs) (layout : Layout) (key : AtomKey) (offset address : ℕ) → IsLaid m layout → work.place_address layout.placed key offset ≡ Some address → layouts.base_of m.command < address
place_behind m layout key offset address laid e = by (address_in layout.placed key) refl e
  where
    by : (found : Option ℕ) → address_in layout.placed key ≡ found → option_map (λ (start : ℕ). start + offset) found ≡ Some address → layouts.base_of m.command < address
    by None stood same = absurd cc
    by (Some start) stood same =
        let behind = atom_behind m layout key start laid stood in
        let one : start + offset ≡ address = some_is (start + offset) address same in
        omega arith

place_above : (m : ImageInputs) (layout : Layout) (key : AtomKey) (offset address : ℕ) → IsLaid m layout → work.place_address layout.placed key offset ≡ Some address → layouts.base_of m.command ≤ address
place_above m layout key offset address laid e = let behind = place_behind m layout key offset address laid e in omega (arith, behind)

goal_above : (m : ImageInputs) (layout : Layout) (goal : Goal) (address : ℕ) → IsLaid m layout → work.goal_address (layouts.base_of m.command) layout.placed goal ≡ Some address → layouts.base_of m.command ≤ address
goal_above m layout (Def key offset) address laid e = place_above m layout key offset address laid e
goal_above m layout (WeakSelf name key offset) address laid e = place_above m layout key offset address laid e
goal_above m layout Header address laid e = let one : layouts.base_of m.command ≡ address = some_is (layouts.base_of m.command) address e in omega arith
goal_above m layout (Import name ordinal by_weak optional) address laid e = none_at address e
goal_above m layout (Flat name) address laid e = none_at address e
goal_above m layout Nobody address laid e = none_at address e

-- nor does a slot or a stub
pub way_above : (m : ImageInputs) (layout : Layout) (way : Option Way) (goal : Goal) (address : ℕ) → IsLaid m layout → work.address_by (scene_of m layout) way goal ≡ Some address → layouts.base_of m.command ≤ address
unfolding work.address_by
way_above m layout None goal address laid e = goal_above m layout goal address laid e
way_above m layout (Some way) goal address laid e =
    let slot = unit_found m layout way goal address e in
    let base = (is_plan m layout laid).base in
    let own = (own_is m layout way slot.placed laid slot.section).begins in
    let stands = slot.stands in
    omega (arith, own)
