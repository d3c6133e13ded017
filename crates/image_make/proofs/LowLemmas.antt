-- The atoms of an image stand below 2^33.
use Rattle.std.proofs.Common.{◌≡◌, ℕ, ◌+◌, ◌≤◌, List, [], ◌∷◌, Some, refl, arith}
use Rattle.std.specs.List.{AllByRecursion, find}
use Rattle.std.specs.Ordering.{is_eq}
use Rattle.std.proofs.lemmas.List.Sorted.{Contains-permutation, IsPermutation-sym}
use Rattle.list_lemmas.proofs.Members.{Contains_from_in, In, all_in, all_map, find_some, in_from_Contains}
use Rattle.mo_types.specs.Keys.{compare_keys}
use Rattle.mo_types.specs.declared.atom.Atom.{Atom}
use Rattle.mo_types.specs.declared.key.AtomKey.{AtomKey}
use Rattle.atom_index.proofs.Keys.{is_equal, same_key}
use Rattle.patch.proofs.ChosenLemmas.{from_mapped}
use Rattle.tlv_plan.specs.Template.{aligned, end_of, stand}
use Rattle.tlv_plan.proofs.Walk.{after_end}
use Rattle.sect_place.specs.Addresses.{address_in}
use Rattle.sect_place.specs.Layout.{Plan, end_of_image, image_places, plan_of}
use Rattle.sect_place.specs.Layout as layouts
use Rattle.sect_place.specs.Places.{group_end, groups_end, groups_places, page_up, part_end, part_from, parts_end, parts_places, places}
use Rattle.sect_place.specs.declared.layout.Layout.{Layout}
use Rattle.sect_place.specs.declared.layout.Placed.{Placed}
use Rattle.sect_place.specs.declared.part.Group.{Group}
use Rattle.sect_place.specs.declared.part.Part.{Part}
use Rattle.sect_place.proofs.Spread.{group_bounds, groups_after, parts_after}
use Rattle.sect_list.proofs.Low.{appended}
use Rattle.ref_meet.specs.Addresses.{AreLowPlaces}
use Rattle.image_make.specs.Made.{IsLaid, ImageInputs, plan_for, plan_with}
use Rattle.image_make.proofs.RoomLemmas.{base_small}
use Rattle.image_make.proofs.Spots.{spot}

-- ---- none stands behind the image

abbrev IsBelow : ℕ → Placed → Type 0
IsBelow high p = p.address ≤ high

stand_below : (high at : ℕ) (atoms : List Atom) → end_of at atoms ≤ high → AllByRecursion (λ (p : Atom × ℕ). p.1 ≤ high) (stand at atoms)
unfolding stand end_of
stand_below high at [] below = tt
stand_below high at (atom ∷ atoms) below =
    let after = after_end (aligned atom.align at + atom.size) atoms in
    (omega arith, stand_below high (aligned atom.align at + atom.size) atoms below)

parts_below : (atoms : List AtomKey → List Atom) (high at : ℕ) (parts : List Part) → parts_end atoms at parts ≤ high → AllByRecursion (IsBelow high) (parts_places atoms at parts)
unfolding parts_places parts_end part_end
parts_below atoms high at [] below = tt
parts_below atoms high at (part ∷ parts) below =
    let next = end_of (part_from at part) (atoms part.section.atoms) + part.fixed in
    let after = parts_after atoms next parts in
    appended (IsBelow high) (places (stand (part_from at part) (atoms part.section.atoms))) (parts_places atoms next parts)
    (all_map (λ (p : Atom × ℕ). spot p.0 p.1) (IsBelow high) (stand (part_from at part) (atoms part.section.atoms)) (stand_below high (part_from at part) (atoms part.section.atoms) (omega arith)))
    (parts_below atoms high next parts below)

groups_below : (atoms : List AtomKey → List Atom) (high at lead : ℕ) (groups : List Group) → groups_end atoms at lead groups ≤ high → AllByRecursion (IsBelow high) (groups_places atoms at lead groups)
unfolding groups_places groups_end
groups_below atoms high at lead [] below = tt
groups_below atoms high at lead (group ∷ groups) below =
    let bounds = group_bounds atoms at lead group.parts in
    let next = page_up (group_end atoms at lead group) in
    let after = groups_after atoms next 0 groups in
    appended (IsBelow high) (parts_places atoms (at + lead) group.parts) (groups_places atoms next 0 groups)
    (parts_below atoms high (at + lead) group.parts (omega (arith, bounds.3)))
    (groups_below atoms high next 0 groups below)

all_below : (plan : Plan) → AllByRecursion (λ (p : Placed). p.address ≤ end_of_image plan) (image_places plan)
unfolding image_places
all_below plan = groups_below plan.atoms (end_of_image plan) plan.base plan.lead plan.groups (omega arith)

-- ---- a placed atom

pub placed_found : (placed : List Placed) (key : AtomKey) (address : ℕ) → address_in placed key ≡ Some address → (p : Placed) × In p placed × (p.atom ≡ key) × (p.address ≡ address)
unfolding address_in
placed_found placed key address e =
    let found = from_mapped (λ (p : Placed). p.address) (find (λ (p : Placed). is_eq (compare_keys p.atom key)) placed) address e in
    let passes = find_some (λ (p : Placed). is_eq (compare_keys p.atom key)) placed found.0 found.1 in
    (found.0, passes.0, same_key found.0.atom key (is_equal (compare_keys found.0.atom key) passes.1), found.2)

pub in_layout : (m : ImageInputs) (layout : Layout) (p : Placed) → IsLaid m layout → In p layout.placed → In p (image_places (plan_for m))
in_layout m layout p laid h =
    in_from_Contains (image_places (plan_for m)) p (Contains-permutation layout.placed (image_places (plan_for m)) p (IsPermutation-sym (image_places (plan_for m)) layout.placed laid.layout_of.places) (Contains_from_in layout.placed p h))

base_is : (m : ImageInputs) → (plan_for m).base ≡ layouts.base_of m.command
unfolding plan_with plan_of
base_is m = refl

pub address_low : (m : ImageInputs) (layout : Layout) → IsLaid m layout → AreLowPlaces layout.placed
address_low m layout laid key address stood =
    let plan = plan_for m in
    let found = placed_found layout.placed key address stood in
    let below = all_in (λ (p : Placed). p.address ≤ end_of_image plan) (image_places plan) found.0 (all_below plan) (in_layout m layout found.0 laid found.1) in
    let base : plan.base ≡ layouts.base_of m.command = base_is m in
    let small = base_small m.command.dylib in
    let few = laid.small in
    let at : found.0.address ≡ address = found.3 in
    omega arith
