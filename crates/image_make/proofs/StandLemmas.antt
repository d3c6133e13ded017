-- Where the atoms of an image stand: each within it, and no two with a byte in common.
use Rattle.std.proofs.Common.{◌≡◌, ◌≢◌, ℕ, ◌+◌, ◌<◌, ◌≤◌, ◌⊎◌, inl, inr, List, [], ◌∷◌, length, get_or, Some, None, Contains, refl, sym, ap, ◌∙◌, arith, subst}
use Rattle.std.specs.List.{AllPairs}
use Rattle.std.specs.List.Sorted.{IsStrictlySortedBy}
use Rattle.std.specs.Ordering.{on}
use Rattle.std.specs.declared.cmp.Ordering.TheVariants.{Less, Equal}
use Rattle.std.proofs.lemmas.Bool.{cases_order}
use Rattle.std.proofs.lemmas.Cmp.{tied_itself}
use Rattle.std.proofs.lemmas.List.Sorted.{Contains-permutation, IsPermutation-sym}
use Rattle.list_lemmas.proofs.Members.{Contains_from_in, In, from_filter_map, from_map, in_either, in_from_Contains}
use Rattle.list_lemmas.proofs.Rising.{rising_at}
use Rattle.command_line.specs.declared.command.Command.{Command}
use Rattle.mo_types.specs.Keys.{compare_keys}
use Rattle.mo_types.specs.declared.atom.Atom.{Atom}
use Rattle.mo_types.specs.declared.key.AtomKey.{AtomKey}
use Rattle.mo_types.specs.declared.out_section.OutSection.{OutSection}
use Rattle.mo_types.proofs.KeyOrder.{compare_keys_total}
use Rattle.patch.proofs.ChosenLemmas.{some_is}
use Rattle.patch.proofs.LeastLemmas.{element_at}
use Rattle.slot_plan.specs.declared.list.Slots.{Slots}
use Rattle.tlv_plan.specs.Template.{aligned, atoms_of, end_of, keys_of, stand}
use Rattle.sect_place.specs.Addresses.{AreOnce, address_in}
use Rattle.sect_place.specs.Layout.{IsLayoutOf, Plan, end_of_image, image_places, image_stand, plan_of}
use Rattle.sect_place.specs.Places.{area_unit, group_end, groups_end, groups_stand, page_up, part_end, part_from, parts_end, parts_stand, places, spaced, with_area}
use Rattle.sect_place.specs.declared.island.IslandArea.{IslandArea}
use Rattle.sect_place.specs.declared.island.IslandPlan.{IslandPlan}
use Rattle.sect_place.specs.declared.layout.Layout.{Layout}
use Rattle.sect_place.specs.declared.layout.Placed.{Placed}
use Rattle.sect_place.specs.declared.part.Group.{Group}
use Rattle.sect_place.specs.declared.part.Part.{Part}
use Rattle.sect_place.specs.declared.size.PlaceSizes.{PlaceSizes}
use Rattle.sect_place.proofs.AddressLemmas.{address_is}
use Rattle.sect_place.proofs.Meaning.{image_apart, image_same}
use Rattle.sect_place.proofs.Positions.{finds, found_atom, placed_there}
use Rattle.sect_place.proofs.Single.{layout_rises}
use Rattle.sect_place.proofs.Spread.{group_bounds, groups_after, part_bounds, parts_after}
use Rattle.image_make.proofs.Spots.{spot, stand_within}

-- ---- members of a list whose elements stand in pairs

pub in_pairs : {X : Type 0} (R : X → X → Type 0) (xs : List X) (x y : X) → AllPairs R xs → In x xs → In y xs → (x ≡ y → ⊥) → R x y ⊎ R y x
in_pairs {X = X} R xs x y pairs h k differ = by (Contains_from_in xs x h) (Contains_from_in xs y k)
  where
    turn : (i j : ℕ) (a b : X) → i < j → j < length xs → get_or xs i a ≡ a → get_or xs j b ≡ b → R a b
    turn i j a b less within is_a is_b =
        let second : get_or xs j a ≡ b = element_at xs j a b within ∙ is_b in
        subst (λ (z : X). R a z) second (subst (λ (z : X). R z (get_or xs j a)) is_a (pairs i j a less within))

    by : Contains xs x → Contains xs y → R x y ⊎ R y x
    by (i, low, is_x) (j, high, is_y) = elim (cases_order i j) [
      | inl equal ↦ absurd (differ (sym is_x ∙ subst (λ (n : ℕ). get_or xs n x ≡ y) (sym equal) (element_at xs j x y high ∙ is_y)))
      | inr apart ↦ elim apart [
        | inl less ↦ inl (turn i j x y less high is_x is_y)
        | inr more ↦ inr (turn j i y x more low is_y is_x)
      ]
    ]

-- ---- what stands is what stands for keys

stand_from : (at : ℕ) (atoms : List Atom) (p : Atom × ℕ) → In p (stand at atoms) → In p.0 atoms
unfolding stand
stand_from at [] p h = absurd h
stand_from at (atom ∷ atoms) p (inl e) = inl (ap (λ (q : Atom × ℕ). q.0) e)
stand_from at (atom ∷ atoms) p (inr h) = inr (stand_from (aligned atom.align at + atom.size) atoms p h)

abbrev pub IsOf : (List AtomKey → List Atom) → Atom × ℕ → Type 0
IsOf atoms p = (keys : List AtomKey) × In p.0 (atoms keys)

parts_of : (atoms : List AtomKey → List Atom) (at : ℕ) (parts : List Part) (p : Atom × ℕ) → In p (parts_stand atoms at parts) → IsOf atoms p
unfolding parts_stand
parts_of atoms at [] p h = absurd h
parts_of atoms at (part ∷ parts) p h = elim (in_either (stand (part_from at part) (atoms part.section.atoms)) (parts_stand atoms (part_end atoms at part) parts) p h) [
  | inl here ↦ (part.section.atoms, stand_from (part_from at part) (atoms part.section.atoms) p here)
  | inr there ↦ parts_of atoms (part_end atoms at part) parts p there
]

groups_of : (atoms : List AtomKey → List Atom) (at lead : ℕ) (groups : List Group) (p : Atom × ℕ) → In p (groups_stand atoms at lead groups) → IsOf atoms p
unfolding groups_stand
groups_of atoms at lead [] p h = absurd h
groups_of atoms at lead (group ∷ groups) p h = elim (in_either (parts_stand atoms (at + lead) group.parts) (groups_stand atoms (page_up (group_end atoms at lead group)) 0 groups) p h) [
  | inl here ↦ parts_of atoms (at + lead) group.parts p here
  | inr there ↦ groups_of atoms (page_up (group_end atoms at lead group)) 0 groups p there
]

pub image_of : (plan : Plan) (p : Atom × ℕ) → In p (image_stand plan) → IsOf plan.atoms p
unfolding image_stand
image_of plan p h = groups_of plan.atoms plan.base plan.lead plan.groups p h

-- an atom with what stands behind it is that of its key
pub spread_is : (kept : List Atom) (areas : List IslandArea) (unit : ℕ) (keys : List AtomKey) (spread own : Atom) → In spread (spaced kept areas unit keys) → finds kept spread.key ≡ Some own → with_area areas unit own ≡ spread
unfolding spaced atoms_of
spread_is kept areas unit keys spread own h is =
    let made = from_map (with_area areas unit) (atoms_of kept keys) spread h in
    let of_key = from_filter_map (finds kept) keys made.0 made.1 in
    let named : made.0.key ≡ of_key.0 = (found_atom kept of_key.0 made.0 of_key.2).0 in
    let key : spread.key ≡ of_key.0 = ap (λ (a : Atom). a.key) (sym made.2) ∙ named in
    let same : made.0 ≡ own = some_is made.0 own (sym of_key.2 ∙ ap (finds kept) (sym key) ∙ is) in
    ap (with_area areas unit) (sym same) ∙ made.2

-- ---- it stands within the image

parts_within : (atoms : List AtomKey → List Atom) (at : ℕ) (parts : List Part) (atom : Atom) (address : ℕ) → In (atom, address) (parts_stand atoms at parts) → (at ≤ address) × (address + atom.size ≤ parts_end atoms at parts)
unfolding parts_stand parts_end part_end
parts_within atoms at [] atom address h = absurd h
parts_within atoms at (part ∷ parts) atom address h =
    let next = end_of (part_from at part) (atoms part.section.atoms) + part.fixed in
    let bounds = part_bounds atoms at part in
    let after = parts_after atoms next parts in
    elim (in_either (stand (part_from at part) (atoms part.section.atoms)) (parts_stand atoms next parts) (atom, address) h) [
      | inl here ↦
          let within = stand_within (part_from at part) (atoms part.section.atoms) atom address here in
          (omega (arith, within.0, bounds.0), omega (arith, within.1, after))
      | inr there ↦
          let rest = parts_within atoms next parts atom address there in
          (omega (arith, rest.0, bounds.0, bounds.1), rest.1)
    ]

groups_within : (atoms : List AtomKey → List Atom) (at lead : ℕ) (groups : List Group) (atom : Atom) (address : ℕ) → In (atom, address) (groups_stand atoms at lead groups) → (at ≤ address) × (address + atom.size ≤ groups_end atoms at lead groups)
unfolding groups_stand groups_end
groups_within atoms at lead [] atom address h = absurd h
groups_within atoms at lead (group ∷ groups) atom address h =
    let next = page_up (group_end atoms at lead group) in
    let bounds = group_bounds atoms at lead group.parts in
    let after = groups_after atoms next 0 groups in
    elim (in_either (parts_stand atoms (at + lead) group.parts) (groups_stand atoms next 0 groups) (atom, address) h) [
      | inl here ↦
          let within = parts_within atoms (at + lead) group.parts atom address here in
          (omega (arith, within.0), omega (arith, within.1, bounds.3, after))
      | inr there ↦
          let rest = groups_within atoms next 0 groups atom address there in
          (omega (arith, rest.0, bounds.0, bounds.3), rest.1)
    ]

image_within : (plan : Plan) (atom : Atom) (address : ℕ) → In (atom, address) (image_stand plan) → (plan.base ≤ address) × (address + atom.size ≤ end_of_image plan)
unfolding image_stand
image_within plan atom address h = groups_within plan.atoms plan.base plan.lead plan.groups atom address h

-- ---- where an atom stands

-- the place of an atom of so many bytes, with what stands behind it
pub record IsStanding (plan : Plan) (key : AtomKey) (size address : ℕ) : Type 0 where
  pub place : Atom × ℕ
  pub among : In place (image_stand plan)
  pub named : place.0.key ≡ key
  pub at : place.1 ≡ address
  pub room : size ≤ place.0.size

-- each byte of it is one of the image
pub stands_within : (plan : Plan) (key : AtomKey) (size address : ℕ) → IsStanding plan key size address → (plan.base ≤ address) × (address + size ≤ end_of_image plan)
stands_within plan key size address is =
    let within = image_within plan is.place.0 is.place.1 is.among in
    let at = is.at in
    let room = is.room in
    (omega (arith, within.0, at), omega (arith, within.1, at, room))

-- two have no byte in common
pub stands_apart : (plan : Plan) (a b : AtomKey) (one other x y : ℕ) → IsStanding plan a one x → IsStanding plan b other y → (a ≡ b → ⊥) → (x + one ≤ y) ⊎ (y + other ≤ x)
stands_apart plan a b one other x y first second differ =
    by (in_pairs (λ (p : Atom × ℕ) (q : Atom × ℕ). p.1 + p.0.size ≤ q.1) (image_stand plan) first.place second.place (image_apart plan) first.among second.among
    (λ e. differ (sym first.named ∙ ap (λ (p : Atom × ℕ). p.0.key) e ∙ second.named)))
  where
    by : (first.place.1 + first.place.0.size ≤ second.place.1) ⊎ (second.place.1 + second.place.0.size ≤ first.place.1) → (x + one ≤ y) ⊎ (y + other ≤ x)
    by (inl before) = inl (omega (arith, before, first.at, second.at, first.room))
    by (inr behind) = inr (omega (arith, behind, first.at, second.at, second.room))

less_not_equal : Less ≡ Equal → ⊥
less_not_equal e = cc

once : (placed : List Placed) → IsStrictlySortedBy (on (λ (p : Placed). p.atom) compare_keys) placed → AreOnce placed
once placed rising = λ i j d low high same.
    less_not_equal (sym (rising_at (on (λ (p : Placed). p.atom) compare_keys) placed i j d rising low high) ∙ ap (λ a. compare_keys a (get_or placed j d).atom) same ∙ tied_itself compare_keys_total (get_or placed j d).atom)

-- an atom of a layout with its place
pub record HasPlace (plan : Plan) (layout : Layout) (key : AtomKey) (size : ℕ) : Type 0 where
  pub address : ℕ
  pub stood : address_in layout.placed key ≡ Some address
  pub standing : IsStanding plan key size address

-- where it stands with what stands behind it
standing_from : (plan : Plan) (areas : List IslandArea) (unit : ℕ) (atom : Atom) (address : ℕ) (from : Atom × ℕ) → In from (image_stand plan) → spot from.0 from.1 ≡ spot atom address → with_area areas unit atom ≡ from.0 → IsStanding plan atom.key atom.size address
standing_from plan areas unit atom address from among same own =
    let size : (with_area areas unit atom).size ≡ from.0.size = ap (λ (a : Atom). a.size) own in
    record {
      place = from;
      among = among;
      named = ap (λ (p : Placed). p.atom) same;
      at = ap (λ (p : Placed). p.address) same;
      room = omega (arith, size);
    }

pub has_place : (kept : List Atom) (sections : List OutSection) (slots : Slots) (islands : IslandPlan) (sizes : PlaceSizes) (command : Command) (layout : Layout) (atom : Atom) → AllPairs (λ (a : AtomKey) (b : AtomKey). a ≢ b) (keys_of sections) → IsLayoutOf command (plan_of kept sections slots islands sizes command) layout → finds kept atom.key ≡ Some atom → Contains (keys_of sections) atom.key → HasPlace (plan_of kept sections slots islands sizes command) layout atom.key atom.size
unfolding plan_of
has_place kept sections slots islands sizes command layout atom apart is found listed =
    let plan = plan_of kept sections slots islands sizes command in
    let there = placed_there kept sections slots islands sizes command atom (Contains_from_in kept atom (found_atom kept atom.key atom found).1) listed in
    let entry : Placed = spot atom there.0 in
    let placed : Contains layout.placed entry = Contains-permutation (image_places plan) layout.placed entry is.places there.1 in
    let stood = address_is layout.placed atom.key (Some there.0) (once layout.placed (layout_rises kept sections slots islands sizes command layout apart is)) placed in
    let among : In entry (places (image_stand plan)) = subst (λ (ps : List Placed). In entry ps) (image_same plan) (in_from_Contains (image_places plan) entry there.1) in
    let from : (q : Atom × ℕ) × In q (image_stand plan) × (spot q.0 q.1 ≡ entry) = from_map (λ (q : Atom × ℕ). spot q.0 q.1) (image_stand plan) entry among in
    record { address = there.0; stood = sym stood; standing = standing there.0 from.0 from.1 from.2 (image_of plan from.0 from.1) }
  where
    standing : (address : ℕ) (from : Atom × ℕ) → In from (image_stand (plan_of kept sections slots islands sizes command)) → spot from.0 from.1 ≡ spot atom address → (keys : List AtomKey) × In from.0 (spaced kept islands.areas (area_unit sections) keys) → IsStanding (plan_of kept sections slots islands sizes command) atom.key atom.size address
    standing address from among same of_keys =
        standing_from (plan_of kept sections slots islands sizes command) islands.areas (area_unit sections) atom address from among same
        (spread_is kept islands.areas (area_unit sections) of_keys.0 from.0 atom of_keys.1 (ap (finds kept) (ap (λ (p : Placed). p.atom) same) ∙ found))

-- what stands for a key that a list of atoms doesn't have
not_listed : (kept : List Atom) (areas : List IslandArea) (unit : ℕ) (keys : List AtomKey) (spread : Atom) → In spread (spaced kept areas unit keys) → (atom : Atom) × In atom kept × (atom.key ≡ spread.key)
unfolding spaced atoms_of
not_listed kept areas unit keys spread h =
    let made = from_map (with_area areas unit) (atoms_of kept keys) spread h in
    let of_key = from_filter_map (finds kept) keys made.0 made.1 in
    (made.0, (found_atom kept of_key.0 made.0 of_key.2).1, ap (λ (a : Atom). a.key) made.2)

-- an atom that isn't among those that are placed has no place
pub no_place : (kept : List Atom) (sections : List OutSection) (slots : Slots) (islands : IslandPlan) (sizes : PlaceSizes) (command : Command) (layout : Layout) (key : AtomKey) → AllPairs (λ (a : AtomKey) (b : AtomKey). a ≢ b) (keys_of sections) → IsLayoutOf command (plan_of kept sections slots islands sizes command) layout → ((atom : Atom) → In atom kept → atom.key ≡ key → ⊥) → address_in layout.placed key ≡ None
unfolding plan_of
no_place kept sections slots islands sizes command layout key apart is none =
    sym (address_is layout.placed key None (once layout.placed (layout_rises kept sections slots islands sizes command layout apart is)) (λ address there. absent address there))
  where
    plan : Plan
    plan = plan_of kept sections slots islands sizes command

    behind : (address : ℕ) (from : Atom × ℕ) → In from (image_stand plan) → (entry : Placed) → entry.atom ≡ key → spot from.0 from.1 ≡ entry → (keys : List AtomKey) × In from.0 (spaced kept islands.areas (area_unit sections) keys) → ⊥
    behind address from among entry named same of_keys =
        let one = not_listed kept islands.areas (area_unit sections) of_keys.0 from.0 of_keys.1 in
        none one.0 one.1 (one.2 ∙ ap (λ (p : Placed). p.atom) same ∙ named)

    absent : (address : ℕ) → Contains layout.placed (record { atom = key; address = address }) → ⊥
    absent address there =
        let entry : Placed = record { atom = key; address = address } in
        let placed = Contains-permutation layout.placed (image_places plan) entry (IsPermutation-sym (image_places plan) layout.placed is.places) there in
        let among : In entry (places (image_stand plan)) = subst (λ (ps : List Placed). In entry ps) (image_same plan) (in_from_Contains (image_places plan) entry placed) in
        let from : (q : Atom × ℕ) × In q (image_stand plan) × (spot q.0 q.1 ≡ entry) = from_map (λ (q : Atom × ℕ). spot q.0 q.1) (image_stand plan) entry among in
        behind address from.0 from.1 entry refl from.2 (image_of plan from.0 from.1)
