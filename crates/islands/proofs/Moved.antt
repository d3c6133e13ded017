-- An image with islands: how far its islands move what its layout without them has.
use Rattle.std.proofs.Common.{◌≡◌, ℕ, ◌+◌, ◌⊎◌, ◌==◌, ◌++◌, ◌&&◌, if◌then◌else◌, Bool, true, false, List, [], ◌∷◌, map, Contains, Option, Some, None, codes, refl, sym, ap, ap₂, subst, ◌∙◌, inl, inr, arith, append_assoc}
use Rattle.std.specs.List.{AllByRecursion, filter, find, list_any}
use Rattle.std.specs.List.Sorted.{IsStrictlySortedBy}
use Rattle.std.specs.Option.{is_some, option_map, option_or, unwrap_or}
use Rattle.std.specs.Ordering.{on}
use Rattle.std.proofs.lemmas.Bool.{cases_Bool, false≢true}
use Rattle.std.proofs.lemmas.List.Elements.{recursion_from_All}
use Rattle.std.proofs.lemmas.List.Folds.{find-append}
use Rattle.std.proofs.lemmas.List.Sorted.{Contains-permutation}
use Rattle.list_lemmas.proofs.Members.{In, Contains_from_in, all_from_in, all_in, from_filter, from_flat, from_map, in_from_Contains, in_map}
use Rattle.list_lemmas.proofs.Rising.{rising_map}
use Rattle.command_line.specs.declared.command.Command.{Command}
use Rattle.mo_types.specs.Keys.{compare_keys}
use Rattle.mo_types.specs.declared.atom.Atom.{Atom}
use Rattle.mo_types.specs.declared.key.AtomKey.{AtomKey}
use Rattle.mo_types.specs.declared.out_section.OutSection.{OutSection}
use Rattle.slot_plan.specs.declared.list.Slots.{Slots}
use Rattle.tlv_plan.specs.Template.{atoms_of, keys_of}
use Rattle.sect_list.specs.OutSections.{is_in}
use Rattle.sect_list.proofs.Once.{keys_apart}
use Rattle.sect_place.specs.Addresses.{AreOnce, address_in}
use Rattle.sect_place.specs.Arrangement.{MadeBytes, chosen, groups_of, is_chosen, is_code, own, section_of, text_parts, with_atoms}
use Rattle.sect_place.specs.Layout.{IsLayoutOf, base_of, end_of_image, first_segments, image_places, image_sections, image_segments, lead_of, linkedit, made_bytes, plan_of}
use Rattle.sect_place.specs.Moved.{AreBehindCode, IsMoved, areas_bytes, code_keys, no_islands, text_end}
use Rattle.sect_place.specs.Places.{area_unit, file_bytes, group_end, groups_file, groups_sections, groups_segments, page_up, part_end, parts_end, parts_sections, placed_section, segment_of, spaced}
use Rattle.sect_place.specs.Shifts.{sections_in, unit_in}
use Rattle.sect_place.specs.declared.island.IslandArea.{IslandArea}
use Rattle.sect_place.specs.declared.island.IslandPlan.{IslandPlan}
use Rattle.sect_place.specs.declared.layout.Layout.{Layout}
use Rattle.sect_place.specs.declared.layout.Placed.{Placed}
use Rattle.sect_place.specs.declared.layout.PlacedSection.{PlacedSection}
use Rattle.sect_place.specs.declared.part.Choice.{Choice}
use Rattle.sect_place.specs.declared.part.Choice.TheVariants.{Code, BesideCode}
use Rattle.sect_place.specs.declared.part.Group.{Group}
use Rattle.sect_place.specs.declared.part.Made.{Made}
use Rattle.sect_place.specs.declared.part.Made.TheVariants.{Stubs, UnwindInfo}
use Rattle.sect_place.specs.declared.part.Part.{Part}
use Rattle.sect_place.specs.declared.size.PlaceSizes.{PlaceSizes}
use Rattle.sect_place.proofs.AddressLemmas.{address_is}
use Rattle.sect_place.proofs.Areas.{CountsIn, areas_sum}
use Rattle.sect_place.proofs.Fitting.{later_all, low_section, no_area, text_fits, unit_below}
use Rattle.sect_place.proofs.Moving.{areas_whole, moved_law, text_choice}
use Rattle.sect_place.proofs.Planned.{listed_back, same_unit}
use Rattle.sect_place.proofs.Positions.{agree, atoms_join, chosen_is, chosen_keys, chosen_there, image_keys, keys_listed, part_keys}
use Rattle.sect_place.proofs.Pushed.{FitsPart, IsWhole, PartsFit, aligned_moved, extra, part_atoms, parts_end_moved, total, total_join}
use Rattle.sect_place.proofs.Single.{layout_rises}
use Rattle.sect_place.proofs.Sound.{groups_split, later_groups}
use Rattle.islands.specs.Plan.{IsWithoutIslands}
use Rattle.islands.specs.Rows.{header_in, is_stubs, stub_spot, stubs_in}
use Rattle.islands.specs.Text.{has_key, in_code, in_text, is_text, place_in, stands_in}
use Rattle.islands.proofs.Layouts.{are, once_of, stands_parts}
use Rattle.islands.proofs.Planned.{beside_parts, code_sections, groups_planned, parts_in, text_split}
use Rattle.islands.proofs.Standing.{sections_join}
use Rattle.islands.proofs.Stood.{all_places, atoms_rise, code_from, code_listed, entry, listed, one_place}
use Rattle.islands.proofs.Turns.{first_code, header_from, not_code}

-- ---- the header

pub header_of : (kept : List Atom) (sections : List OutSection) (slots : Slots) (islands : IslandPlan) (sizes : PlaceSizes) (command : Command) → header_in (image_segments command (plan_of kept sections slots islands sizes command)) ≡ base_of command
unfolding image_segments plan_of groups_segments segment_of
header_of kept sections slots islands sizes command =
    let f = spaced kept islands.areas (area_unit sections) in
    let bytes = made_bytes slots sizes in
    let base = base_of command in
    let lead = lead_of (groups_of sections bytes) sizes command in
    let text_group : Group = record { name = codes "__TEXT"; parts = text_parts sections bytes } in
    let last = linkedit (end_of_image (plan_of kept sections slots islands sizes command)) (groups_file f base 0 lead (groups_of sections bytes)) ∷ [] in
    let rest = groups_segments f (page_up (group_end f base lead text_group)) (0 + file_bytes f base lead text_group) 0 (later_groups sections bytes) ++ last in
    ap (λ (groups : List Group). header_in ((first_segments command ++ groups_segments f base 0 lead groups) ++ last)) (groups_split sections bytes)
    ∙ (ap header_in (append_assoc (first_segments command) (groups_segments f base 0 lead (text_group ∷ later_groups sections bytes)) last)
    ∙ header_from command (segment_of f base 0 lead text_group) rest refl)

-- ---- the stubs

find_no : {X : Type 0} (t : X → Bool) (xs : List X) → ((x : X) → In x xs → t x ≡ false) → find t xs ≡ None
find_no t [] none = refl
find_no t (x ∷ xs) none = rw (none x (inl refl)) (find_no t xs (λ y h. none y (inr h)))

or_none : {X : Type 0} (x : Option X) → option_or x None ≡ x
or_none None = refl
or_none (Some x) = refl

late_choice : (choice : Choice) (section : OutSection) → is_chosen choice section ≡ true → (Code ≡ choice → ⊥) → (BesideCode ≡ choice → ⊥) → is_text section ≡ false
late_choice choice section is code beside = elim (cases_Bool (is_text section)) [ inl text ↦ absurd (by (text_choice section text)) | inr away ↦ away ]
  where
    by : (is_chosen Code section ≡ true) ⊎ (is_chosen BesideCode section ≡ true) → ⊥
    by (inl p) = code (chosen_is Code section p ∙ sym (chosen_is choice section is))
    by (inr p) = beside (chosen_is BesideCode section p ∙ sym (chosen_is choice section is))

not_stubs : (section : OutSection) → is_text section ≡ false → is_stubs section ≡ false
not_stubs section away = rw away refl

later_not : (f : List AtomKey → List Atom) (at file lead : ℕ) (sections : List OutSection) (bytes : MadeBytes) (q : PlacedSection) → In q (groups_sections f at file lead (later_groups sections bytes)) → is_stubs q.section ≡ false
later_not f at file lead sections bytes q h =
    let those : In q.section (map (λ (part : Part). part.section) (parts_in (later_groups sections bytes))) = subst (λ (ss : List OutSection). In q.section ss) (groups_planned f at file lead (later_groups sections bytes)) (in_map (λ (p : PlacedSection). p.section) (groups_sections f at file lead (later_groups sections bytes)) q h) in
    let part : (p : Part) × In p (parts_in (later_groups sections bytes)) × (p.section ≡ q.section) = from_map (λ (part : Part). part.section) (parts_in (later_groups sections bytes)) q.section those in
    let group : (g : Group) × In g (later_groups sections bytes) × In part.0 g.parts = from_flat (λ (g : Group). g.parts) (later_groups sections bytes) part.0 part.1 in
    subst (λ (s : OutSection). is_stubs s ≡ false) part.2 (all_in (λ (p : Part). is_stubs p.section ≡ false) group.0.parts part.0 (all_in (λ (g : Group). AllByRecursion (λ (p : Part). is_stubs p.section ≡ false) g.parts) (later_groups sections bytes) group.0 all group.1) group.2)
  where
    all : AllByRecursion (λ (g : Group). AllByRecursion (λ (p : Part). is_stubs p.section ≡ false) g.parts) (later_groups sections bytes)
    all =
        later_all (λ (g : Group). AllByRecursion (λ (p : Part). is_stubs p.section ≡ false) g.parts) (λ (p : Part). is_stubs p.section ≡ false) sections bytes
        (λ name parts each. each) (λ fixed. refl) (λ fixed. refl) (λ choice section h is code beside. not_stubs section (late_choice choice section is code beside))

code_not : (f : List AtomKey → List Atom) (start file at : ℕ) (sections : List OutSection) (q : PlacedSection) → In q (parts_sections f start file at (chosen Code sections)) → is_stubs q.section ≡ false
code_not f start file at sections q h = elim (cases_Bool (is_stubs q.section)) [
  | inl stubs ↦ absurd (false≢true (sym (not_code q.section stubs) ∙ first_code f start file at (chosen Code sections) q (code_sections sections) h))
  | inr away ↦ away
]

-- they are among the sections beside `__text`
stubs_beside : (f : List AtomKey → List Atom) (base lead : ℕ) (sections : List OutSection) (bytes : MadeBytes) → stubs_in (groups_sections f base 0 lead (groups_of sections bytes)) ≡ stubs_in (parts_sections f base 0 (parts_end f (base + lead) (chosen Code sections)) (beside_parts sections bytes))
unfolding groups_sections
stubs_beside f base lead sections bytes =
    let t : PlacedSection → Bool = λ (p : PlacedSection). is_stubs p.section in
    let group : Group = record { name = codes "__TEXT"; parts = text_parts sections bytes } in
    let text = parts_sections f base 0 (base + lead) (text_parts sections bytes) in
    let later = groups_sections f (page_up (group_end f base lead group)) (0 + file_bytes f base lead group) 0 (later_groups sections bytes) in
    let code = parts_sections f base 0 (base + lead) (chosen Code sections) in
    let beside = parts_sections f base 0 (parts_end f (base + lead) (chosen Code sections)) (beside_parts sections bytes) in
    ap (λ (groups : List Group). stubs_in (groups_sections f base 0 lead groups)) (groups_split sections bytes)
    ∙ (find-append t text later
    ∙ (ap (λ (o : Option PlacedSection). option_or (find t text) o) (find_no t later (λ q h. later_not f (page_up (group_end f base lead group)) (0 + file_bytes f base lead group) 0 sections bytes q h))
    ∙ (or_none (find t text)
    ∙ (ap (find t) (ap (parts_sections f base 0 (base + lead)) (text_split sections bytes) ∙ sections_join f base 0 (base + lead) (chosen Code sections) (beside_parts sections bytes))
    ∙ (find-append t code beside ∙ ap (λ (o : Option PlacedSection). option_or o (find t beside)) (find_no t code (λ q h. code_not f base 0 (base + lead) sections q h)))))))

abbrev address_of : Option PlacedSection → ℕ → Option ℕ
address_of found s = option_map (λ (p : PlacedSection). p.address + s) found

one_end : (kept : List Atom) (areas : List IslandArea) (unit v at s : ℕ) (part : Part) → FitsPart kept areas unit v part → IsWhole v s → total areas unit (atoms_of kept part.section.atoms) ≡ 0 → part_end (spaced kept areas unit) (at + s) part ≡ part_end (spaced kept [] unit) at part + s
unfolding parts_end
one_end kept areas unit v at s part fit is none =
    let ends = parts_end_moved kept areas unit v at s (part ∷ []) (fit, tt) is in
    let sum : total areas unit (atoms_of kept part.section.atoms ++ []) ≡ total areas unit (atoms_of kept part.section.atoms) + 0 = total_join areas unit (atoms_of kept part.section.atoms) [] in
    omega (arith, ends, sum, none)

-- sections with no area among them, which all are moved alike
stubs_moved : (kept : List Atom) (areas : List IslandArea) (unit v start file start' file' at s : ℕ) (parts : List Part) → PartsFit kept areas unit v parts → IsWhole v s → AllByRecursion (λ (part : Part). total areas unit (atoms_of kept part.section.atoms) ≡ 0) parts
    → address_of (stubs_in (parts_sections (spaced kept areas unit) start' file' (at + s) parts)) 0 ≡ address_of (stubs_in (parts_sections (spaced kept [] unit) start file at parts)) s
unfolding parts_sections placed_section
stubs_moved kept areas unit v start file start' file' at s [] fit is none = refl
stubs_moved kept areas unit v start file start' file' at s (part ∷ parts) fit is none =
    by (cases_Bool (is_stubs part.section)) (subst (λ (n : ℕ). address_of (stubs_in (parts_sections (spaced kept areas unit) start' file' n parts)) 0 ≡ address_of (stubs_in (parts_sections (spaced kept [] unit) start file (part_end (spaced kept [] unit) at part) parts)) s) (sym (one_end kept areas unit v at s part fit.0 is none.0)) (stubs_moved kept areas unit v start file start' file' (part_end (spaced kept [] unit) at part) s parts fit.1 is none.1))
  where
    by : (is_stubs part.section ≡ true) ⊎ (is_stubs part.section ≡ false) → address_of (stubs_in (parts_sections (spaced kept areas unit) start' file' (part_end (spaced kept areas unit) (at + s) part) parts)) 0 ≡ address_of (stubs_in (parts_sections (spaced kept [] unit) start file (part_end (spaced kept [] unit) at part) parts)) s
        → address_of (stubs_in (parts_sections (spaced kept areas unit) start' file' (at + s) (part ∷ parts))) 0 ≡ address_of (stubs_in (parts_sections (spaced kept [] unit) start file at (part ∷ parts))) s
    by (inl here) rest = rw here (ap Some (let from = aligned_moved part.section.align v at s fit.0.0 is in omega (arith, from)))
    by (inr away) rest = rw away rest

pub stub_shift : (x y : Option PlacedSection) (s groups number : ℕ) → address_of x 0 ≡ address_of y s → (stub_spot y groups number).inside ≡ true
    → ((stub_spot x groups number).inside ≡ true) × ((stub_spot x groups number).place ≡ (stub_spot y groups number).place + s)
stub_shift None None s groups number e inside = absurd (false≢true inside)
stub_shift (Some p) None s groups number e inside = absurd (false≢true inside)
stub_shift None (Some q) s groups number e inside = cc
stub_shift (Some p) (Some q) s groups number e inside = let same : p.address + 0 ≡ q.address + s = some_same (p.address + 0) (q.address + s) e in (refl, omega (arith, same))
  where
    some_same : (a b : ℕ) → Some a ≡ Some b → a ≡ b
    some_same a b e = ap (λ (o : Option ℕ). unwrap_or o 0) e

-- ---- the atoms of the sections of instructions

parts_atoms : (kept : List Atom) (parts : List Part) → part_atoms kept parts ≡ atoms_of kept (part_keys parts)
unfolding atoms_of
parts_atoms kept [] = refl
parts_atoms kept (part ∷ parts) = ap (λ (xs : List Atom). atoms_of kept part.section.atoms ++ xs) (parts_atoms kept parts) ∙ sym (atoms_join kept part.section.atoms (part_keys parts))

no_total : (areas : List IslandArea) (unit : ℕ) (atoms : List Atom) → ((atom : Atom) → In atom atoms → extra areas unit atom ≡ 0) → total areas unit atoms ≡ 0
no_total areas unit [] none = refl
no_total areas unit (atom ∷ atoms) none = let here = none atom (inl refl) in let rest = no_total areas unit atoms (λ a h. none a (inr h)) in omega (arith, here, rest)

any_sections : (u : OutSection → Bool) (placed : List PlacedSection) → list_any (λ (p : PlacedSection). u p.section) placed ≡ list_any u (sections_in placed)
any_sections u [] = refl
any_sections u (p ∷ placed) = elim (cases_Bool (u p.section)) [ inl e ↦ rw e refl | inr e ↦ rw e (any_sections u placed) ]

no_atoms : (kept : List Atom) (areas : List IslandArea) (unit : ℕ) → total areas unit (atoms_of kept []) ≡ 0
unfolding atoms_of
no_atoms kept areas unit = refl

all_join : {X : Type 0} (P : X → Type 0) (xs ys : List X) → AllByRecursion P xs → AllByRecursion P ys → AllByRecursion P (xs ++ ys)
all_join P [] ys p q = q
all_join P (x ∷ xs) ys p q = (p.0, all_join P xs ys p.1 q)

own_all : (P : Part → Type 0) (made : Made) (fixed : ℕ) → P (record { section = section_of made; fixed = fixed }) → AllByRecursion P (own made fixed)
own_all P made fixed one = by (fixed == 0)
  where
    by : (b : Bool) → AllByRecursion P (if b then [] else record { section = section_of made; fixed = fixed } ∷ [])
    by true = tt
    by false = (one, tt)

module _ (kept : List Atom) (before : Layout) (is : IsWithoutIslands kept before) (plan : IslandPlan) (after : Layout) (laid : IsLayoutOf is.command (plan_of kept is.sections is.slots plan is.sizes is.command) after) (behind : AreBehindCode kept is.sections plan.areas) (rising : IsStrictlySortedBy (on (λ (area : IslandArea). area.last) compare_keys) plan.areas) where
  abbrev unit : ℕ
  unit = area_unit is.sections

  abbrev pub all_bytes : ℕ
  all_bytes = areas_bytes (area_unit is.sections) None plan.areas

  pub unit_same : unit_in before.sections ≡ area_unit is.sections
  unit_same =
      let same = same_unit is.sections (sections_in before.sections) (are kept before is) in
      let low = unit_below is.sections 14 (omega arith) (λ section h text. low_section kept is.sections is.in_order section h) in
      omega (arith, same, low)

  -- ---- atoms

  abbrev new_places : List Placed
  new_places = image_places (plan_of kept is.sections is.slots plan is.sizes is.command)

  record Goes (key : AtomKey) : Type 0 where
    to : ℕ
    place : place_in after key ≡ to
    some : is_some (address_in after.placed key) ≡ true
    moves : IsMoved is.sections plan.areas (text_end kept is.sections is.slots is.sizes is.command) key (place_in before key) to

  goes : (key : AtomKey) → is_some (address_in before.placed key) ≡ true → Goes key
  goes key some =
      let here = entry kept before is key some in
      let old = all_places kept before is in
      let keys : map (λ (x : Placed). x.atom) old ≡ map (λ (x : Placed). x.atom) new_places = image_keys kept is.sections is.slots no_islands is.sizes is.command ∙ sym (image_keys kept is.sections is.slots plan is.sizes is.command) in
      let listed : In key (map (λ (x : Placed). x.atom) new_places) = subst (λ (ks : List AtomKey). In key ks) keys (in_map (λ (x : Placed). x.atom) old (record { atom = key; address = place_in before key }) here) in
      let found : (x : Placed) × In x new_places × (x.atom ≡ key) = from_map (λ (x : Placed). x.atom) new_places key listed in
      let whole : found.0 ≡ record { atom = key; address = found.0.address } = ap (λ (k : AtomKey). let x : Placed = record { atom = k; address = found.0.address } in x) found.2 in
      let there : Contains new_places (record { atom = key; address = found.0.address }) = Contains_from_in new_places (record { atom = key; address = found.0.address }) (subst (λ (x : Placed). In x new_places) whole found.1) in
      let moved = moved_law kept is.sections is.slots plan is.sizes is.command is.in_order behind rising key found.0.address there in
      let same : moved.0 ≡ place_in before key = one_place kept before is key moved.0 (place_in before key) (in_from_Contains old (record { atom = key; address = moved.0 }) moved.1) here in
      let once : AreOnce after.placed = once_of after.placed (layout_rises kept is.sections is.slots plan is.sizes is.command after is.in_order.once laid) in
      let address : Some found.0.address ≡ address_in after.placed key = address_is after.placed key (Some found.0.address) once (Contains-permutation new_places after.placed (record { atom = key; address = found.0.address }) laid.places there) in
      record {
        to = found.0.address;
        place = ap (λ (o : Option ℕ). unwrap_or o 0) (sym address);
        some = ap (λ (o : Option ℕ). is_some o) (sym address);
        moves = subst (λ (n : ℕ). IsMoved is.sections plan.areas (text_end kept is.sections is.slots is.sizes is.command) key n found.0.address) same moved.2;
      }

  code_text : (key : AtomKey) → In key (code_keys is.sections) → Contains (keys_of (filter (is_in (codes "__TEXT")) is.sections)) key
  unfolding code_keys
  code_text key h =
      let found : (section : OutSection) × In section (filter is_code is.sections) × In key section.atoms = from_flat (λ (s : OutSection). s.atoms) (filter is_code is.sections) key h in
      let passed = from_filter is_code is.sections found.0 found.1 in
      Contains_from_in (keys_of (filter (is_in (codes "__TEXT")) is.sections)) key (chosen_there (is_in (codes "__TEXT")) is.sections found.0 key passed.0 ((agree found.0).code passed.1) found.2)

  pub code_moves : (key : AtomKey) → in_code before key ≡ true → place_in after key ≡ place_in before key + areas_bytes (area_unit is.sections) (Some key) plan.areas
  code_moves key code = by (goes key (stands_parts is_code before key code).1)
    where
      here : In key (code_keys is.sections)
      here = code_listed kept before is key code

      by : Goes key → place_in after key ≡ place_in before key + areas_bytes (area_unit is.sections) (Some key) plan.areas
      by g = elim g.moves [
        | inl m ↦ g.place ∙ m.1
        | inr rest ↦ elim rest [
          | inl m ↦ absurd (m.1 (Contains_from_in (code_keys is.sections) key here))
          | inr m ↦ absurd (m.0 (code_text key here))
        ]
      ]

  pub text_moves : (key : AtomKey) → in_text before key ≡ true → in_code before key ≡ false → place_in after key ≡ place_in before key + all_bytes
  text_moves key text away = by (goes key some)
    where
      some : is_some (address_in before.placed key) ≡ true
      some = (stands_parts is_text before key text).1

      there : In key (keys_of (filter (is_in (codes "__TEXT")) is.sections))
      there = listed_back is.sections (sections_in before.sections) (is_in (codes "__TEXT")) key (are kept before is) (listed kept before is is_text key (stands_parts is_text before key text).0)

      by : Goes key → place_in after key ≡ place_in before key + all_bytes
      by g = elim g.moves [
        | inl m ↦ absurd (false≢true (sym away ∙ code_from kept before is key (in_from_Contains (code_keys is.sections) key m.0) some))
        | inr rest ↦ elim rest [
          | inl m ↦ g.place ∙ m.2
          | inr m ↦ absurd (m.0 (Contains_from_in (keys_of (filter (is_in (codes "__TEXT")) is.sections)) key there))
        ]
      ]

  -- ---- the same sections list the same atoms

  sections_same : sections_in after.sections ≡ sections_in before.sections
  unfolding image_sections plan_of
  sections_same =
      let bytes = made_bytes is.slots is.sizes in
      let base = base_of is.command in
      let lead = lead_of (groups_of is.sections bytes) is.sizes is.command in
      ap sections_in laid.sections
      ∙ (groups_planned (spaced kept plan.areas (area_unit is.sections)) base 0 lead (groups_of is.sections bytes)
      ∙ (sym (groups_planned (spaced kept [] (area_unit is.sections)) base 0 lead (groups_of is.sections bytes)) ∙ ap sections_in (sym is.placed.sections)))

  stands_same : (t : OutSection → Bool) (key : AtomKey) → is_some (address_in before.placed key) ≡ true → list_any (λ (p : PlacedSection). t p.section && has_key p.section.atoms key) after.sections ≡ list_any (λ (p : PlacedSection). t p.section && has_key p.section.atoms key) before.sections
  stands_same t key some =
      any_sections (λ (s : OutSection). t s && has_key s.atoms key) after.sections
      ∙ (ap (list_any (λ (s : OutSection). t s && has_key s.atoms key)) sections_same ∙ sym (any_sections (λ (s : OutSection). t s && has_key s.atoms key) before.sections))

  pub region_same : (t : OutSection → Bool) (key : AtomKey) → is_some (address_in before.placed key) ≡ true → stands_in t after key ≡ stands_in t before key
  region_same t key some = ap₂ (λ (a b : Bool). a && b) (stands_same t key some) ((goes key some).some ∙ sym some)

  -- ---- the stubs

  whole_bytes : IsWhole (area_unit is.sections) all_bytes
  whole_bytes = areas_whole (area_unit is.sections) None plan.areas

  abbrev bytes : MadeBytes
  bytes = made_bytes is.slots is.sizes

  abbrev start : ℕ
  start = base_of is.command + lead_of (groups_of is.sections (made_bytes is.slots is.sizes)) is.sizes is.command

  fits : PartsFit kept plan.areas (area_unit is.sections) (area_unit is.sections) (chosen Code is.sections ++ beside_parts is.sections bytes)
  fits = subst (λ (ps : List Part). PartsFit kept plan.areas (area_unit is.sections) (area_unit is.sections) ps) (text_split is.sections bytes) (text_fits kept is.sections plan.areas bytes is.in_order)

  fits_parts : (xs ys : List Part) → PartsFit kept plan.areas (area_unit is.sections) (area_unit is.sections) (xs ++ ys) → PartsFit kept plan.areas (area_unit is.sections) (area_unit is.sections) xs × PartsFit kept plan.areas (area_unit is.sections) (area_unit is.sections) ys
  fits_parts [] ys all = (tt, all)
  fits_parts (x ∷ xs) ys all = let rest = fits_parts xs ys all.1 in ((all.0, rest.0), rest.1)

  code_of : part_keys (chosen Code is.sections) ≡ code_keys is.sections
  unfolding is_chosen code_keys
  code_of = chosen_keys Code is.sections

  code_total : total plan.areas (area_unit is.sections) (part_atoms kept (chosen Code is.sections)) ≡ all_bytes
  code_total =
      let those : part_atoms kept (chosen Code is.sections) ≡ atoms_of kept (code_keys is.sections) = parts_atoms kept (chosen Code is.sections) ∙ ap (atoms_of kept) code_of in
      ap (total plan.areas (area_unit is.sections)) those
      ∙ areas_sum plan.areas (area_unit is.sections) None (atoms_of kept (code_keys is.sections)) rising
      (keys_apart (map (λ (a : Atom). a.key) (atoms_of kept (code_keys is.sections))) (rising_map (λ (a : Atom). a.key) compare_keys (atoms_of kept (code_keys is.sections)) (atoms_rise kept (code_keys is.sections) is.in_order.code)))
      (all_from_in (CountsIn None (map (λ (a : Atom). a.key) (atoms_of kept (code_keys is.sections)))) plan.areas (λ area h. inl (refl, in_from_Contains (map (λ (a : Atom). a.key) (atoms_of kept (code_keys is.sections))) area.last (all_in (λ (a : IslandArea). Contains (map (λ (x : Atom). x.key) (atoms_of kept (code_keys is.sections))) a.last) plan.areas area (recursion_from_All (λ (a : IslandArea). Contains (map (λ (x : Atom). x.key) (atoms_of kept (code_keys is.sections))) a.last) plan.areas behind) h))))

  code_ends : parts_end (spaced kept plan.areas (area_unit is.sections)) start (chosen Code is.sections) ≡ parts_end (spaced kept [] (area_unit is.sections)) start (chosen Code is.sections) + all_bytes
  code_ends =
      let here : start + 0 ≡ start = omega arith in
      let ends = parts_end_moved kept plan.areas (area_unit is.sections) (area_unit is.sections) start 0 (chosen Code is.sections) (fits_parts (chosen Code is.sections) (beside_parts is.sections bytes) fits).0 (0, omega arith) in
      ap (λ (n : ℕ). parts_end (spaced kept plan.areas (area_unit is.sections)) n (chosen Code is.sections)) (sym here) ∙ (ends ∙ omega (arith, code_total))

  beside_none : AllByRecursion (λ (part : Part). total plan.areas (area_unit is.sections) (atoms_of kept part.section.atoms) ≡ 0) (beside_parts is.sections bytes)
  unfolding chosen
  beside_none =
      all_join (λ (part : Part). total plan.areas (area_unit is.sections) (atoms_of kept part.section.atoms) ≡ 0) (own Stubs bytes.stubs) (chosen BesideCode is.sections ++ own UnwindInfo bytes.unwind) (own_all (λ (part : Part). total plan.areas (area_unit is.sections) (atoms_of kept part.section.atoms) ≡ 0) Stubs bytes.stubs (no_atoms kept plan.areas (area_unit is.sections)))
      (all_join (λ (part : Part). total plan.areas (area_unit is.sections) (atoms_of kept part.section.atoms) ≡ 0) (chosen BesideCode is.sections) (own UnwindInfo bytes.unwind)
      (all_from_in (λ (part : Part). total plan.areas (area_unit is.sections) (atoms_of kept part.section.atoms) ≡ 0) (map with_atoms (filter (is_chosen BesideCode) is.sections)) (λ part h.
      let found : (section : OutSection) × In section (filter (is_chosen BesideCode) is.sections) × (with_atoms section ≡ part) = from_map with_atoms (filter (is_chosen BesideCode) is.sections) part h in
      let passed = from_filter (is_chosen BesideCode) is.sections found.0 found.1 in
      subst (λ (p : Part). total plan.areas (area_unit is.sections) (atoms_of kept p.section.atoms) ≡ 0) found.2
      (no_total plan.areas (area_unit is.sections) (atoms_of kept found.0.atoms) (λ atom there. no_area kept is.sections plan.areas (area_unit is.sections) is.in_order behind rising BesideCode found.0 passed.0 passed.1 (λ e. cc) atom.key (keys_listed kept found.0.atoms atom there)))))
      (own_all (λ (part : Part). total plan.areas (area_unit is.sections) (atoms_of kept part.section.atoms) ≡ 0) UnwindInfo bytes.unwind (no_atoms kept plan.areas (area_unit is.sections))))

  pub stubs_shift : address_of (stubs_in after.sections) 0 ≡ address_of (stubs_in before.sections) all_bytes
  unfolding image_sections plan_of
  stubs_shift =
      let f0 = spaced kept [] (area_unit is.sections) in
      let f1 = spaced kept plan.areas (area_unit is.sections) in
      let base = base_of is.command in
      let lead = lead_of (groups_of is.sections bytes) is.sizes is.command in
      let end0 = parts_end f0 start (chosen Code is.sections) in
      let new : stubs_in after.sections ≡ stubs_in (parts_sections f1 base 0 (parts_end f1 start (chosen Code is.sections)) (beside_parts is.sections bytes)) = ap stubs_in laid.sections ∙ stubs_beside f1 base lead is.sections bytes in
      let old : stubs_in before.sections ≡ stubs_in (parts_sections f0 base 0 end0 (beside_parts is.sections bytes)) = ap stubs_in is.placed.sections ∙ stubs_beside f0 base lead is.sections bytes in
      ap (λ (o : Option PlacedSection). address_of o 0) (new ∙ ap (λ (n : ℕ). stubs_in (parts_sections f1 base 0 n (beside_parts is.sections bytes))) code_ends)
      ∙ (stubs_moved kept plan.areas (area_unit is.sections) (area_unit is.sections) base 0 base 0 end0 all_bytes (beside_parts is.sections bytes) (fits_parts (chosen Code is.sections) (beside_parts is.sections bytes) fits).1 whole_bytes beside_none
      ∙ ap (λ (o : Option PlacedSection). address_of o all_bytes) (sym old))

  pub header_same : header_in after.segments ≡ header_in before.segments
  header_same = ap header_in laid.segments ∙ (header_of kept is.sections is.slots plan is.sizes is.command ∙ sym (ap header_in is.placed.segments ∙ header_of kept is.sections is.slots no_islands is.sizes is.command))
