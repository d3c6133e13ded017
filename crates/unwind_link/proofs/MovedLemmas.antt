-- What two layouts that differ in the bytes of `__unwind_info` alone have in common: which atoms have places, where those of
-- `__TEXT` stand, and which sections there are. Nothing of them stands at the image's first address.
use Rattle.std.proofs.Common.{◌≡◌, ◌≢◌, ℕ, ◌+◌, ◌*◌, ◌<◌, ◌≤◌, ◌⊎◌, ◌++◌, Bool, true, false, List, [], ◌∷◌, get_or, length, map, codes, Contains, Option, Some, None, refl, sym, ap, ap₂, subst, ◌∙◌, inl, inr, arith}
use Rattle.std.specs.List.{AllByRecursion, AllPairs, filter, find, flat_map}
use Rattle.std.specs.List.Sorted.{IsStrictlySortedBy}
use Rattle.std.specs.Option.{option_map}
use Rattle.std.specs.Ordering.{is_eq, on}
use Rattle.std.specs.declared.cmp.Ordering.{Ordering}
use Rattle.std.specs.declared.cmp.Ordering.TheVariants.{Less, Equal, Greater}
use Rattle.std.proofs.lemmas.Bool.{false≢true}
use Rattle.std.proofs.lemmas.Cmp.{tied_itself}
use Rattle.std.proofs.lemmas.List.{map-append}
use Rattle.std.proofs.lemmas.List.Sorted.{Contains-permutation, IsPermutation-sym}
use Rattle.list_lemmas.proofs.Members.{In, Contains_from_in, all_in, find_none, find_some, from_map, in_from_Contains, in_map}
use Rattle.list_lemmas.proofs.Rising.{rising_at}
use Rattle.command_line.specs.declared.command.Command.{Command}
use Rattle.mo_types.proofs.KeyOrder.{compare_keys_total}
use Rattle.mo_types.specs.Keys.{compare_keys}
use Rattle.mo_types.specs.declared.atom.Atom.{Atom}
use Rattle.mo_types.specs.declared.key.AtomKey.{AtomKey}
use Rattle.mo_types.specs.declared.out_section.OutSection.{OutSection}
use Rattle.atom_index.proofs.Keys.{same_key}
use Rattle.sect_list.specs.OutSections.{is_in}
use Rattle.sect_place.specs.Addresses.{AreOnce, IsAddressOf, address_in}
use Rattle.sect_place.specs.Arrangement.{MadeBytes, constant_parts, groups_of, section_of, text_parts, writable_parts}
use Rattle.sect_place.specs.Layout.{IsLayoutOf, base_of, image_places, image_sections, lead_of, made_bytes, plan_of}
use Rattle.sect_place.specs.Places.{file_bytes, group_end, groups_places, groups_sections, page_up, part_end, part_from, parts_places, parts_sections, placed_section, places}
use Rattle.sect_place.specs.declared.island.IslandPlan.{IslandPlan}
use Rattle.sect_place.specs.declared.layout.Layout.{Layout}
use Rattle.sect_place.specs.declared.layout.Placed.{Placed}
use Rattle.sect_place.specs.declared.layout.PlacedSection.{PlacedSection}
use Rattle.sect_place.specs.declared.part.Group.{Group}
use Rattle.sect_place.specs.declared.part.Made.TheVariants.{UnwindInfo}
use Rattle.sect_place.specs.declared.part.Part.{Part}
use Rattle.sect_place.specs.declared.size.PlaceSizes.{PlaceSizes}
use Rattle.sect_place.proofs.AddressLemmas.{address_is}
use Rattle.sect_place.proofs.Positions.{image_keys}
use Rattle.sect_place.proofs.Single.{layout_rises}
use Rattle.sect_place.proofs.Sound.{groups_split, later_groups}
use Rattle.sect_place.proofs.Spread.{group_bounds, part_bounds}
use Rattle.slot_plan.specs.declared.list.Slots.{Slots}
use Rattle.tlv_plan.proofs.Walk.{aligned_least}
use Rattle.tlv_plan.specs.Template.{aligned, keys_of, stand}
use Rattle.unwind_link.specs.Twice.{AreAlikeBefore, with_unwind}
use Rattle.unwind_link.proofs.TwiceLemmas.{alike, before_info, both, info, sized, text_is}

-- ---- nothing stands at the first address

abbrev AreFrom : ℕ → List Placed → Type 0
AreFrom low placed = AllByRecursion (λ (p : Placed). low ≤ p.address) placed

abbrev BeginFrom : ℕ → List PlacedSection → Type 0
BeginFrom low placed = AllByRecursion (λ (p : PlacedSection). low ≤ p.address) placed

stand_from : (low at : ℕ) (atoms : List Atom) → low ≤ at → AreFrom low (places (stand at atoms))
unfolding stand
stand_from low at [] below = tt
stand_from low at (atom ∷ atoms) below =
    let here : at ≤ aligned atom.align at = (aligned_least atom.align at).enough in
    (omega arith, stand_from low (aligned atom.align at + atom.size) atoms (omega arith))

parts_placed_from : (atoms : List AtomKey → List Atom) (low at : ℕ) (parts : List Part) → low ≤ at → AreFrom low (parts_places atoms at parts)
unfolding parts_places
parts_placed_from atoms low at [] below = tt
parts_placed_from atoms low at (part ∷ parts) below =
    let bounds = part_bounds atoms at part in
    both (λ (p : Placed). low ≤ p.address) (places (stand (part_from at part) (atoms part.section.atoms))) (parts_places atoms (part_end atoms at part) parts)
    (stand_from low (part_from at part) (atoms part.section.atoms) (omega (arith, below, bounds.0)))
    (parts_placed_from atoms low (part_end atoms at part) parts (omega (arith, below, bounds.0, bounds.1)))

groups_placed_from : (atoms : List AtomKey → List Atom) (low at lead : ℕ) (groups : List Group) → low ≤ at + lead → AreFrom low (groups_places atoms at lead groups)
unfolding groups_places
groups_placed_from atoms low at lead [] below = tt
groups_placed_from atoms low at lead (group ∷ groups) below =
    let bounds = group_bounds atoms at lead group.parts in
    let next = page_up (group_end atoms at lead group) in
    both (λ (p : Placed). low ≤ p.address) (parts_places atoms (at + lead) group.parts) (groups_places atoms next 0 groups)
    (parts_placed_from atoms low (at + lead) group.parts below)
    (groups_placed_from atoms low next 0 groups (omega (arith, below, bounds.0, bounds.3)))

parts_begin_from : (atoms : List AtomKey → List Atom) (low start file at : ℕ) (parts : List Part) → low ≤ at → BeginFrom low (parts_sections atoms start file at parts)
unfolding parts_sections placed_section
parts_begin_from atoms low start file at [] below = tt
parts_begin_from atoms low start file at (part ∷ parts) below =
    let bounds = part_bounds atoms at part in
    (omega (arith, below, bounds.0), parts_begin_from atoms low start file (part_end atoms at part) parts (omega (arith, below, bounds.0, bounds.1)))

groups_begin_from : (atoms : List AtomKey → List Atom) (low at file lead : ℕ) (groups : List Group) → low ≤ at + lead → BeginFrom low (groups_sections atoms at file lead groups)
unfolding groups_sections
groups_begin_from atoms low at file lead [] below = tt
groups_begin_from atoms low at file lead (group ∷ groups) below =
    let bounds = group_bounds atoms at lead group.parts in
    let next = page_up (group_end atoms at lead group) in
    both (λ (p : PlacedSection). low ≤ p.address) (parts_sections atoms at file (at + lead) group.parts) (groups_sections atoms next (file + file_bytes atoms at lead group) 0 groups)
    (parts_begin_from atoms low at file (at + lead) group.parts below)
    (groups_begin_from atoms low next (file + file_bytes atoms at lead group) 0 groups (omega (arith, below, bounds.0, bounds.3)))

-- the header stands there
some_lead : (groups : List Group) (sizes : PlaceSizes) (command : Command) → 32 ≤ lead_of groups sizes command
unfolding lead_of
some_lead groups sizes command = omega arith

atoms_above : (kept : List Atom) (sections : List OutSection) (slots : Slots) (islands : IslandPlan) (sizes : PlaceSizes) (command : Command) → AreFrom (base_of command + 1) (image_places (plan_of kept sections slots islands sizes command))
unfolding plan_of image_places
atoms_above kept sections slots islands sizes command =
    let groups = groups_of sections (made_bytes slots sizes) in
    groups_placed_from _ (base_of command + 1) (base_of command) (lead_of groups sizes command) groups (let some = some_lead groups sizes command in omega arith)

pub sections_above : (kept : List Atom) (sections : List OutSection) (slots : Slots) (islands : IslandPlan) (sizes : PlaceSizes) (command : Command) → BeginFrom (base_of command + 1) (image_sections (plan_of kept sections slots islands sizes command))
unfolding plan_of image_sections
sections_above kept sections slots islands sizes command =
    let groups = groups_of sections (made_bytes slots sizes) in
    groups_begin_from _ (base_of command + 1) (base_of command) 0 (lead_of groups sizes command) groups (let some = some_lead groups sizes command in omega arith)

-- ---- sections

abbrev pub names : List PlacedSection → List OutSection
names placed = map (λ (p : PlacedSection). p.section) placed

abbrev part_names : List Part → List OutSection
part_names parts = map (λ (part : Part). part.section) parts

parts_named : (atoms : List AtomKey → List Atom) (start file at : ℕ) (parts : List Part) → names (parts_sections atoms start file at parts) ≡ part_names parts
unfolding parts_sections placed_section
parts_named atoms start file at [] = refl
parts_named atoms start file at (part ∷ parts) = ap (λ (sections : List OutSection). part.section ∷ sections) (parts_named atoms start file (part_end atoms at part) parts)

groups_named : (atoms : List AtomKey → List Atom) (at file lead : ℕ) (groups : List Group) → names (groups_sections atoms at file lead groups) ≡ flat_map (λ (group : Group). part_names group.parts) groups
unfolding groups_sections
groups_named atoms at file lead [] = refl
groups_named atoms at file lead (group ∷ groups) =
    let next = page_up (group_end atoms at lead group) in
    let bytes = file_bytes atoms at lead group in
    map-append (λ (p : PlacedSection). p.section) (parts_sections atoms at file (at + lead) group.parts) (groups_sections atoms next (file + bytes) 0 groups)
    ∙ ap₂ (λ (xs ys : List OutSection). xs ++ ys) (parts_named atoms at file (at + lead) group.parts) (groups_named atoms next (file + bytes) 0 groups)

text_named : (sections : List OutSection) (bytes : MadeBytes) → 0 < bytes.unwind → part_names (text_parts sections bytes) ≡ part_names (before_info sections bytes.stubs) ++ section_of UnwindInfo ∷ []
text_named sections bytes some =
    ap part_names (text_is sections bytes some) ∙ map-append (λ (part : Part). part.section) (before_info sections bytes.stubs) (info bytes.unwind ∷ [])

all_named : (sections : List OutSection) (slots : Slots) (commands bytes : ℕ) → 0 < bytes → flat_map (λ (group : Group). part_names group.parts) (groups_of sections (sized slots commands bytes))
    ≡ (part_names (before_info sections (12 * length slots.stubs)) ++ section_of UnwindInfo ∷ []) ++ flat_map (λ (group : Group). part_names group.parts) (later_groups sections (sized slots commands bytes))
all_named sections slots commands bytes some =
    let made = sized slots commands bytes in
    ap (flat_map (λ (group : Group). part_names group.parts)) (groups_split sections made)
    ∙ ap (λ (xs : List OutSection). xs ++ flat_map (λ (group : Group). part_names group.parts) (later_groups sections made)) (text_named sections made some)

pub same_names : (kept : List Atom) (sections : List OutSection) (slots : Slots) (islands : IslandPlan) (command : Command) (commands few many : ℕ) → 0 < few → 0 < many
    → names (image_sections (plan_of kept sections slots islands (with_unwind commands few) command)) ≡ names (image_sections (plan_of kept sections slots islands (with_unwind commands many) command))
unfolding plan_of image_sections constant_parts writable_parts
same_names kept sections slots islands command commands few many some more =
    groups_named _ _ _ _ (groups_of sections (sized slots commands few))
    ∙ all_named sections slots commands few some
    ∙ sym (groups_named _ _ _ _ (groups_of sections (sized slots commands many)) ∙ all_named sections slots commands many more)

-- what is found by a section is found in both
abbrev pub Found : (OutSection → Bool) → List PlacedSection → List PlacedSection → Type 0
Found t xs ys =
    ((find (λ (p : PlacedSection). t p.section) xs ≡ None) × (find (λ (p : PlacedSection). t p.section) ys ≡ None))
    ⊎ ((p : PlacedSection) × (q : PlacedSection) × (find (λ (p : PlacedSection). t p.section) xs ≡ Some p) × (find (λ (p : PlacedSection). t p.section) ys ≡ Some q))

heads : (a b : OutSection) (xs ys : List OutSection) → a ∷ xs ≡ b ∷ ys → a ≡ b
heads a b xs ys e = cc

tails : (a b : OutSection) (xs ys : List OutSection) → a ∷ xs ≡ b ∷ ys → xs ≡ ys
tails a b xs ys e = cc

not_more : (a : OutSection) (xs : List OutSection) → [] ≡ a ∷ xs → ⊥
not_more a xs e = cc

found_here : (t : OutSection → Bool) (x y : PlacedSection) (xs ys : List PlacedSection) (here : Bool) → t x.section ≡ here → t y.section ≡ here → Found t xs ys → Found t (x ∷ xs) (y ∷ ys)
found_here t x y xs ys true e f rest = inr (x, y, rw e refl, rw f refl)
found_here t x y xs ys false e f rest = rw (e, f) rest

pub found_both : (t : OutSection → Bool) (xs ys : List PlacedSection) → names xs ≡ names ys → Found t xs ys
found_both t [] [] e = inl (refl, refl)
found_both t [] (y ∷ ys) e = absurd (not_more y.section (names ys) e)
found_both t (x ∷ xs) [] e = absurd (not_more x.section (names xs) (sym e))
found_both t (x ∷ xs) (y ∷ ys) e =
    found_here t x y xs ys (t x.section) refl (ap t (sym (heads x.section y.section (names xs) (names ys) e))) (found_both t xs ys (tails x.section y.section (names xs) (names ys) e))

-- ---- the places of atoms

once_rising : (placed : List Placed) → IsStrictlySortedBy (on (λ (p : Placed). p.atom) compare_keys) placed → AreOnce placed
once_rising placed rising = λ i j d low high same.
    let less = rising_at (on (λ (p : Placed). p.atom) compare_keys) placed i j d rising low high in
    let equal = ap (λ (key : AtomKey). compare_keys key (get_or placed j d).atom) same ∙ tied_itself compare_keys_total (get_or placed j d).atom in
    cc

itself : (key : AtomKey) → is_eq (compare_keys key key) ≡ true
itself key = ap is_eq (tied_itself compare_keys_total key)

tied : (o : Ordering) → is_eq o ≡ true → o ≡ Equal
tied Less e = cc
tied Equal e = refl
tied Greater e = cc

abbrev is_of : AtomKey → Placed → Bool
is_of key p = is_eq (compare_keys p.atom key)

-- the address that is found is one of the list
address_there : (placed : List Placed) (key : AtomKey) → IsAddressOf placed key (address_in placed key)
unfolding address_in
address_there placed key = by (find (is_of key) placed) refl
  where
    by : (found : Option Placed) → find (is_of key) placed ≡ found → IsAddressOf placed key (option_map (λ (p : Placed). p.address) (find (is_of key) placed))
    by None e = rw e (λ address there. false≢true (sym (find_none (is_of key) placed (record { atom = key; address = address }) e (in_from_Contains placed (record { atom = key; address = address }) there)) ∙ itself key))
    by (Some p) e =
        let found = find_some (is_of key) placed p e in
        let same : p.atom ≡ key = same_key p.atom key (tied (compare_keys p.atom key) found.1) in
        rw e (Contains_from_in placed (record { atom = key; address = p.address }) (subst (λ (k : AtomKey). In (record { atom = k; address = p.address }) placed) same found.0))

-- a layout of a plan
abbrev Is : List Atom → List OutSection → Slots → IslandPlan → Command → PlaceSizes → Layout → Type 0
Is kept sections slots islands command sizes layout = IsLayoutOf command (plan_of kept sections slots islands sizes command) layout

pub layout_once : (kept : List Atom) (sections : List OutSection) (slots : Slots) (islands : IslandPlan) (command : Command) (sizes : PlaceSizes) (layout : Layout) → AllPairs (λ (a : AtomKey) (b : AtomKey). a ≢ b) (keys_of sections) → Is kept sections slots islands command sizes layout → AreOnce layout.placed
layout_once kept sections slots islands command sizes layout once is = once_rising layout.placed (layout_rises kept sections slots islands sizes command layout once is)

-- what is planned is placed, and nothing else
planned : (kept : List Atom) (sections : List OutSection) (slots : Slots) (islands : IslandPlan) (command : Command) (sizes : PlaceSizes) (layout : Layout) (p : Placed) → Is kept sections slots islands command sizes layout → Contains layout.placed p → Contains (image_places (plan_of kept sections slots islands sizes command)) p
planned kept sections slots islands command sizes layout p is there = Contains-permutation layout.placed (image_places (plan_of kept sections slots islands sizes command)) p (IsPermutation-sym (image_places (plan_of kept sections slots islands sizes command)) layout.placed is.places) there

placed : (kept : List Atom) (sections : List OutSection) (slots : Slots) (islands : IslandPlan) (command : Command) (sizes : PlaceSizes) (layout : Layout) (p : Placed) → Is kept sections slots islands command sizes layout → Contains (image_places (plan_of kept sections slots islands sizes command)) p → Contains layout.placed p
placed kept sections slots islands command sizes layout p is there = Contains-permutation (image_places (plan_of kept sections slots islands sizes command)) layout.placed p is.places there

-- an atom of `__TEXT` has one address
pub text_address : (kept : List Atom) (sections : List OutSection) (slots : Slots) (islands : IslandPlan) (command : Command) (commands few many : ℕ) (one other : Layout) (key : AtomKey) → AllPairs (λ (a : AtomKey) (b : AtomKey). a ≢ b) (keys_of sections) → 0 < few → 0 < many
    → Is kept sections slots islands command (with_unwind commands few) one → Is kept sections slots islands command (with_unwind commands many) other → Contains (keys_of (filter (is_in (codes "__TEXT")) sections)) key
    → address_in one.placed key ≡ address_in other.placed key
text_address kept sections slots islands command commands few many one other key once some more first second listed =
    address_is other.placed key (address_in one.placed key) (layout_once kept sections slots islands command (with_unwind commands many) other once second) (by (address_in one.placed key) (address_there one.placed key))
  where
    here : AreAlikeBefore sections (plan_of kept sections slots islands (with_unwind commands few) command) (plan_of kept sections slots islands (with_unwind commands many) command) few many
    here = alike kept sections slots islands command commands few many once some more

    at : ℕ → Placed
    at address = record { atom = key; address = address }

    by : (found : Option ℕ) → IsAddressOf one.placed key found → IsAddressOf other.placed key found
    by None none = λ address there.
        none address (placed kept sections slots islands command (with_unwind commands few) one (at address) first
        (here.back key address listed (planned kept sections slots islands command (with_unwind commands many) other (at address) second there)))
    by (Some address) there =
        placed kept sections slots islands command (with_unwind commands many) other (at address) second
        (here.there key address listed (planned kept sections slots islands command (with_unwind commands few) one (at address) first there))

-- any atom has a place in both, and not the first one, or in none
pub data Both (base : ℕ) (one other : Option ℕ) : Type 0 where
  nowhere : one ≡ None → other ≡ None → Both base one other
  somewhere : (a b : ℕ) → one ≡ Some a → other ≡ Some b → base < a → base < b → Both base one other

above : (kept : List Atom) (sections : List OutSection) (slots : Slots) (islands : IslandPlan) (command : Command) (sizes : PlaceSizes) (layout : Layout) (key : AtomKey) (address : ℕ) → Is kept sections slots islands command sizes layout → Contains layout.placed (record { atom = key; address = address }) → base_of command < address
above kept sections slots islands command sizes layout key address is there =
    let all = image_places (plan_of kept sections slots islands sizes command) in
    let p : Placed = record { atom = key; address = address } in
    let low = all_in (λ (q : Placed). base_of command + 1 ≤ q.address) all p (atoms_above kept sections slots islands sizes command) (in_from_Contains all p (planned kept sections slots islands command sizes layout p is there)) in
    omega (arith, low)

-- an atom with a place in one has a place in the other
moved : (kept : List Atom) (sections : List OutSection) (slots : Slots) (islands : IslandPlan) (command : Command) (sizes other_sizes : PlaceSizes) (one other : Layout) (key : AtomKey) (address : ℕ) → Is kept sections slots islands command sizes one → Is kept sections slots islands command other_sizes other
    → Contains one.placed (record { atom = key; address = address }) → ((place : ℕ) → ¬ Contains other.placed (record { atom = key; address = place })) → ⊥
moved kept sections slots islands command sizes other_sizes one other key address first second there none =
    let all = image_places (plan_of kept sections slots islands sizes command) in
    let others = image_places (plan_of kept sections slots islands other_sizes command) in
    let p : Placed = record { atom = key; address = address } in
    let here : In key (map (λ (q : Placed). q.atom) all) = in_map (λ (q : Placed). q.atom) all p (in_from_Contains all p (planned kept sections slots islands command sizes one p first there)) in
    let same : map (λ (q : Placed). q.atom) all ≡ map (λ (q : Placed). q.atom) others = image_keys kept sections slots islands sizes command ∙ sym (image_keys kept sections slots islands other_sizes command) in
    let found : (q : Placed) × In q others × (q.atom ≡ key) = from_map (λ (q : Placed). q.atom) others key (subst (λ (keys : List AtomKey). In key keys) same here) in
    let q : Placed = record { atom = key; address = found.0.address } in
    let is : In q others = subst (λ (k : AtomKey). In (record { atom = k; address = found.0.address }) others) found.2 found.1 in
    none found.0.address (placed kept sections slots islands command other_sizes other q second (Contains_from_in others q is))

pub both_places : (kept : List Atom) (sections : List OutSection) (slots : Slots) (islands : IslandPlan) (command : Command) (sizes other_sizes : PlaceSizes) (one other : Layout) (key : AtomKey) → Is kept sections slots islands command sizes one → Is kept sections slots islands command other_sizes other
    → Both (base_of command) (address_in one.placed key) (address_in other.placed key)
both_places kept sections slots islands command sizes other_sizes one other key first second = by (address_in one.placed key) (address_in other.placed key) refl refl (address_there one.placed key) (address_there other.placed key)
  where
    by : (a b : Option ℕ) → address_in one.placed key ≡ a → address_in other.placed key ≡ b → IsAddressOf one.placed key (address_in one.placed key) → IsAddressOf other.placed key (address_in other.placed key) → Both (base_of command) (address_in one.placed key) (address_in other.placed key)
    by None None e f here there = nowhere e f
    by (Some a) None e f here there =
        let at : Contains one.placed (record { atom = key; address = a }) = rw e at here in
        let none : (place : ℕ) → ¬ Contains other.placed (record { atom = key; address = place }) = rw f at there in
        absurd (moved kept sections slots islands command sizes other_sizes one other key a first second at none)
    by None (Some b) e f here there =
        let at : Contains other.placed (record { atom = key; address = b }) = rw f at there in
        let none : (place : ℕ) → ¬ Contains one.placed (record { atom = key; address = place }) = rw e at here in
        absurd (moved kept sections slots islands command other_sizes sizes other one key b second first at none)
    by (Some a) (Some b) e f here there =
        let at : Contains one.placed (record { atom = key; address = a }) = rw e at here in
        let too : Contains other.placed (record { atom = key; address = b }) = rw f at there in
        somewhere a b e f (above kept sections slots islands command sizes one key a first at) (above kept sections slots islands command other_sizes other key b second too)
