-- The sections of a layout are those that were planned.
use Rattle.std.proofs.Common.{◌≡◌, ℕ, ◌+◌, ◌-◌, ◌≤◌, if◌then◌else◌, ◌⊎◌, ◌++◌, Bool, true, false, List, [], ◌∷◌, map, codes, refl, sym, ap, ap₂, subst, ◌∙◌, inl, inr, arith}
use Rattle.std.specs.List.{filter, flat_map, AllByRecursion}
use Rattle.std.proofs.lemmas.Bool.{cases_Bool, false≢true}
use Rattle.std.proofs.lemmas.List.{map-append}
use Rattle.list_lemmas.proofs.Members.{In, all_in, all_from_in, from_filter, from_map, in_filter, in_map, from_flat, in_either, in_left, in_right}
use Rattle.mo_types.specs.declared.atom.Atom.{Atom}
use Rattle.mo_types.specs.declared.key.AtomKey.{AtomKey}
use Rattle.mo_types.specs.declared.out_section.OutSection.{OutSection}
use Rattle.tlv_plan.specs.Template.{keys_of}
use Rattle.sect_place.specs.Arrangement.{MadeBytes, chosen, groups_of, is_chosen, own, text_parts, with_atoms}
use Rattle.sect_list.specs.OutSections.{is_in}
use Rattle.sect_place.specs.Places.{area_unit, file_bytes, group_end, groups_sections, page_up, part_end, part_from, parts_end, parts_sections, placed_section}
use Rattle.sect_place.specs.Shifts.{sections_in, text_end_from}
use Rattle.sect_place.specs.declared.layout.PlacedSection.{PlacedSection}
use Rattle.sect_place.specs.declared.part.Choice.{Choice}
use Rattle.sect_place.specs.declared.part.Choice.TheVariants.{Code, BesideCode}
use Rattle.sect_place.specs.declared.part.Group.{Group}
use Rattle.sect_place.specs.declared.part.Made.TheVariants.{Stubs, UnwindInfo}
use Rattle.sect_place.specs.declared.part.Part.{Part}
use Rattle.sect_place.proofs.Fitting.{later_all, text_all, unit_above, unit_below, unit_least}
use Rattle.sect_list.proofs.Low.{appended}
use Rattle.sect_place.proofs.Moving.{text_choice}
use Rattle.sect_place.proofs.Positions.{chosen_is, chosen_there}
use Rattle.sect_place.proofs.Shifting.{end_past, end_there}
use Rattle.sect_place.proofs.Sound.{groups_split, later_groups}
use Rattle.sect_place.proofs.Spread.{part_bounds}

-- ---- the sections that were placed, by the parts

parts_planned : (atoms : List AtomKey → List Atom) (start file at : ℕ) (parts : List Part) → sections_in (parts_sections atoms start file at parts) ≡ map (λ (part : Part). part.section) parts
unfolding parts_sections placed_section
parts_planned atoms start file at [] = refl
parts_planned atoms start file at (part ∷ parts) = ap (λ (sections : List OutSection). part.section ∷ sections) (parts_planned atoms start file (part_end atoms at part) parts)

abbrev parts_in : List Group → List Part
parts_in groups = flat_map (λ (group : Group). group.parts) groups

groups_planned : (atoms : List AtomKey → List Atom) (at file lead : ℕ) (groups : List Group) → sections_in (groups_sections atoms at file lead groups) ≡ map (λ (part : Part). part.section) (parts_in groups)
unfolding groups_sections
groups_planned atoms at file lead [] = refl
groups_planned atoms at file lead (group ∷ groups) =
    let next = page_up (group_end atoms at lead group) in
    let file' = file + file_bytes atoms at lead group in
    map-append (λ (p : PlacedSection). p.section) (parts_sections atoms at file (at + lead) group.parts) (groups_sections atoms next file' 0 groups)
    ∙ (ap₂ (λ (xs ys : List OutSection). xs ++ ys) (parts_planned atoms at file (at + lead) group.parts) (groups_planned atoms next file' 0 groups)
    ∙ sym (map-append (λ (part : Part). part.section) group.parts (parts_in groups)))

-- ---- which sections these are

-- one with atoms, or one of the linker's own, which has none
abbrev Known : List OutSection → OutSection → Type 0
Known sections section = In section sections ⊎ ((section.atoms ≡ []) × ((section.align ≤ 2) ⊎ (is_in (codes "__TEXT") section ≡ false)))

text_known : (sections : List OutSection) (bytes : MadeBytes) → AllByRecursion (λ (part : Part). Known sections part.section) (text_parts sections bytes)
text_known sections bytes =
    text_all (λ (part : Part). Known sections part.section) sections bytes (λ fixed. inr (refl, inl (omega arith))) (λ fixed. inr (refl, inl (omega arith))) (λ section h text. inl h)

later_known : (sections : List OutSection) (bytes : MadeBytes) → AllByRecursion (λ (group : Group). AllByRecursion (λ (part : Part). Known sections part.section) group.parts) (later_groups sections bytes)
later_known sections bytes =
    later_all (λ (group : Group). AllByRecursion (λ (part : Part). Known sections part.section) group.parts) (λ (part : Part). Known sections part.section) sections bytes
    (λ name parts all. all) (λ fixed. inr (refl, inr refl)) (λ fixed. inr (refl, inr refl)) (λ choice section h is code beside. inl h)

known_part : (sections : List OutSection) (bytes : MadeBytes) (part : Part) → In part (text_parts sections bytes ++ parts_in (later_groups sections bytes)) → Known sections part.section
known_part sections bytes part h = by (in_either (text_parts sections bytes) (parts_in (later_groups sections bytes)) part h)
  where
    by : In part (text_parts sections bytes) ⊎ In part (parts_in (later_groups sections bytes)) → Known sections part.section
    by (inl text) = all_in (λ (p : Part). Known sections p.section) (text_parts sections bytes) part (text_known sections bytes) text
    by (inr later) =
        let found : (group : Group) × In group (later_groups sections bytes) × In part group.parts = from_flat (λ (group : Group). group.parts) (later_groups sections bytes) part later in
        all_in (λ (p : Part). Known sections p.section) found.0.parts part (all_in (λ (group : Group). AllByRecursion (λ (p : Part). Known sections p.section) group.parts) (later_groups sections bytes) found.0 (later_known sections bytes) found.1) found.2

chosen_part : (choice : Choice) (sections : List OutSection) (section : OutSection) → In section sections → is_chosen choice section ≡ true → In (with_atoms section) (chosen choice sections)
unfolding chosen
chosen_part choice sections section h is = in_map with_atoms (filter (is_chosen choice) sections) section (in_filter (is_chosen choice) sections section h is)

text_part : (sections : List OutSection) (bytes : MadeBytes) (section : OutSection) → In section sections → is_in (codes "__TEXT") section ≡ true → In (with_atoms section) (text_parts sections bytes)
unfolding text_parts
text_part sections bytes section h text = by (text_choice section text)
  where
    by : (is_chosen Code section ≡ true) ⊎ (is_chosen BesideCode section ≡ true) → In (with_atoms section) (((chosen Code sections ++ own Stubs bytes.stubs) ++ chosen BesideCode sections) ++ own UnwindInfo bytes.unwind)
    by (inl code) =
        in_left ((chosen Code sections ++ own Stubs bytes.stubs) ++ chosen BesideCode sections) (own UnwindInfo bytes.unwind) (with_atoms section)
        (in_left (chosen Code sections ++ own Stubs bytes.stubs) (chosen BesideCode sections) (with_atoms section)
        (in_left (chosen Code sections) (own Stubs bytes.stubs) (with_atoms section) (chosen_part Code sections section h code)))
    by (inr beside) =
        in_left ((chosen Code sections ++ own Stubs bytes.stubs) ++ chosen BesideCode sections) (own UnwindInfo bytes.unwind) (with_atoms section)
        (in_right (chosen Code sections ++ own Stubs bytes.stubs) (chosen BesideCode sections) (with_atoms section) (chosen_part BesideCode sections section h beside))

-- the sections of a layout, and what they have of those with atoms
pub record AreThose (sections there : List OutSection) : Type 0 where
  pub known : (section : OutSection) → In section there → Known sections section
  pub text : (section : OutSection) → In section sections → is_in (codes "__TEXT") section ≡ true → In section there

pub those : (atoms : List AtomKey → List Atom) (at file lead : ℕ) (sections : List OutSection) (bytes : MadeBytes) → AreThose sections (sections_in (groups_sections atoms at file lead (groups_of sections bytes)))
those atoms at file lead sections bytes =
    subst (AreThose sections) (sym planned) (record {
      known = λ section h.
          let found : (part : Part) × In part (text ++ later) × (part.section ≡ section) = from_map (λ (part : Part). part.section) (text ++ later) section h in
          subst (Known sections) found.2 (known_part sections bytes found.0 found.1);
      text = λ section h is. in_map (λ (part : Part). part.section) (text ++ later) (with_atoms section) (in_left text later (with_atoms section) (text_part sections bytes section h is));
    })
  where
    text : List Part
    text = text_parts sections bytes

    later : List Part
    later = parts_in (later_groups sections bytes)

    planned : sections_in (groups_sections atoms at file lead (groups_of sections bytes)) ≡ map (λ (part : Part). part.section) (text_parts sections bytes ++ parts_in (later_groups sections bytes))
    planned = groups_planned atoms at file lead (groups_of sections bytes) ∙ ap (λ (groups : List Group). map (λ (part : Part). part.section) (parts_in groups)) (groups_split sections bytes)

-- ---- what they list

pub listed_back : (sections there : List OutSection) (t : OutSection → Bool) (key : AtomKey) → AreThose sections there → In key (keys_of (filter t there)) → In key (keys_of (filter t sections))
listed_back sections there t key are h =
    let found : (section : OutSection) × In section (filter t there) × In key section.atoms = from_flat (λ (s : OutSection). s.atoms) (filter t there) key h in
    let passed = from_filter t there found.0 found.1 in
    by found.0 passed.1 found.2 (are.known found.0 passed.0)
  where
    by : (section : OutSection) → t section ≡ true → In key section.atoms → Known sections section → In key (keys_of (filter t sections))
    by section is listed (inl h) = chosen_there t sections section key h is listed
    by section is listed (inr none) = absurd (subst (λ (keys : List AtomKey). In key keys) none.0 listed)

pub listed_there : (sections there : List OutSection) (t : OutSection → Bool) (key : AtomKey) → AreThose sections there → ((section : OutSection) → t section ≡ true → is_in (codes "__TEXT") section ≡ true) → In key (keys_of (filter t sections)) → In key (keys_of (filter t there))
listed_there sections there t key are within h =
    let found : (section : OutSection) × In section (filter t sections) × In key section.atoms = from_flat (λ (s : OutSection). s.atoms) (filter t sections) key h in
    let passed = from_filter t sections found.0 found.1 in
    chosen_there t there found.0 key (are.text found.0 passed.0 (within found.0 passed.1)) passed.1 found.2

pub all_there : (P : OutSection → Type 0) (sections there : List OutSection) → AreThose sections there → ((section : OutSection) → In section sections → P section) → ((section : OutSection) → section.atoms ≡ [] → P section) → AllByRecursion P there
all_there P sections there are each none = all_from_in P there (λ section h. by section (are.known section h))
  where
    by : (section : OutSection) → Known sections section → P section
    by section (inl h) = each section h
    by section (inr own) = none section own.0

pub same_unit : (sections there : List OutSection) → AreThose sections there → area_unit there ≡ area_unit sections
same_unit sections there are =
    let up = unit_below there (area_unit sections) (unit_least sections) (λ section h text. by section text (are.known section h)) in
    let down = unit_below sections (area_unit there) (unit_least there) (λ section h text. unit_above there section (are.text section h text) text) in
    omega (arith, up, down)
  where
    clash : {X : Type 0} (b : Bool) → b ≡ true → b ≡ false → X
    clash b e f = absurd (false≢true (sym f ∙ e))

    by : (section : OutSection) → is_in (codes "__TEXT") section ≡ true → Known sections section → section.align ≤ area_unit sections
    by section text (inl h) = unit_above sections section h text
    by section text (inr (none, inl low)) = let least = unit_least sections in omega (arith, low, least)
    by section text (inr (none, inr away)) = clash (is_in (codes "__TEXT") section) text away

-- ---- where `__TEXT` ends

end_join : (end : ℕ) (xs ys : List PlacedSection) → text_end_from end (xs ++ ys) ≡ text_end_from (text_end_from end xs) ys
unfolding text_end_from
end_join end [] ys = refl
end_join end (x ∷ xs) ys = end_join (if is_in (codes "__TEXT") x.section then x.address + x.size else end) xs ys

end_stays : (end : ℕ) (xs : List PlacedSection) → AllByRecursion (λ (p : PlacedSection). is_in (codes "__TEXT") p.section ≡ false) xs → text_end_from end xs ≡ end
unfolding text_end_from
end_stays end [] all = refl
end_stays end (x ∷ xs) all = end_past end x xs all.0 ∙ end_stays end xs all.1

end_last : (atoms : List AtomKey → List Atom) (start file at end : ℕ) (part : Part) (parts : List Part) → AllByRecursion (λ (p : Part). is_in (codes "__TEXT") p.section ≡ true) (part ∷ parts) → text_end_from end (parts_sections atoms start file at (part ∷ parts)) ≡ parts_end atoms at (part ∷ parts)
unfolding text_end_from parts_sections placed_section parts_end
end_last atoms start file at end part [] all =
    let bounds = part_bounds atoms at part in
    end_there end (placed_section atoms start file at part) [] all.0 ∙ omega (arith, bounds.1)
end_last atoms start file at end part (next ∷ parts) all =
    end_there end (placed_section atoms start file at part) (parts_sections atoms start file (part_end atoms at part) (next ∷ parts)) all.0
    ∙ end_last atoms start file (part_end atoms at part) (part_from at part + (part_end atoms at part - part_from at part)) next parts all.1

late_section : (section : OutSection) (choice : Choice) → is_chosen choice section ≡ true → (Code ≡ choice → ⊥) → (BesideCode ≡ choice → ⊥) → is_in (codes "__TEXT") section ≡ false
late_section section choice is code beside = elim (cases_Bool (is_in (codes "__TEXT") section)) [ inl text ↦ absurd (by (text_choice section text)) | inr away ↦ away ]
  where
    by : (is_chosen Code section ≡ true) ⊎ (is_chosen BesideCode section ≡ true) → ⊥
    by (inl p) = code (chosen_is Code section p ∙ sym (chosen_is choice section is))
    by (inr p) = beside (chosen_is BesideCode section p ∙ sym (chosen_is choice section is))

abbrev IsLatePart : Part → Type 0
IsLatePart part = is_in (codes "__TEXT") part.section ≡ false

all_late : (sections : List OutSection) (bytes : MadeBytes) → AllByRecursion (λ (group : Group). AllByRecursion IsLatePart group.parts) (later_groups sections bytes)
all_late sections bytes =
    later_all (λ (group : Group). AllByRecursion IsLatePart group.parts) IsLatePart sections bytes
    (λ name parts all. all) (λ fixed. refl) (λ fixed. refl) (λ choice section h is code beside. late_section section choice is code beside)

late_parts : (atoms : List AtomKey → List Atom) (start file at : ℕ) (parts : List Part) → AllByRecursion IsLatePart parts → AllByRecursion (λ (p : PlacedSection). is_in (codes "__TEXT") p.section ≡ false) (parts_sections atoms start file at parts)
unfolding parts_sections placed_section
late_parts atoms start file at [] all = tt
late_parts atoms start file at (part ∷ parts) all = (all.0, late_parts atoms start file (part_end atoms at part) parts all.1)

late_groups : (atoms : List AtomKey → List Atom) (at file lead : ℕ) (groups : List Group) → AllByRecursion (λ (group : Group). AllByRecursion IsLatePart group.parts) groups → AllByRecursion (λ (p : PlacedSection). is_in (codes "__TEXT") p.section ≡ false) (groups_sections atoms at file lead groups)
unfolding groups_sections
late_groups atoms at file lead [] all = tt
late_groups atoms at file lead (group ∷ groups) all =
    appended (λ (p : PlacedSection). is_in (codes "__TEXT") p.section ≡ false) (parts_sections atoms at file (at + lead) group.parts) (groups_sections atoms (page_up (group_end atoms at lead group)) (file + file_bytes atoms at lead group) 0 groups)
    (late_parts atoms at file (at + lead) group.parts all.0) (late_groups atoms (page_up (group_end atoms at lead group)) (file + file_bytes atoms at lead group) 0 groups all.1)

-- where `__TEXT` ends, if it has a section
pub text_ends : (atoms : List AtomKey → List Atom) (at file lead : ℕ) (sections : List OutSection) (bytes : MadeBytes) → (text_parts sections bytes ≡ []) ⊎ (text_end_from 0 (groups_sections atoms at file lead (groups_of sections bytes)) ≡ parts_end atoms (at + lead) (text_parts sections bytes))
unfolding groups_sections
text_ends atoms at file lead sections bytes =
    by (text_parts sections bytes) refl
    (text_all (λ (part : Part). is_in (codes "__TEXT") part.section ≡ true) sections bytes (λ fixed. refl) (λ fixed. refl) (λ section h text. text))
  where
    by : (parts : List Part) → text_parts sections bytes ≡ parts → AllByRecursion (λ (part : Part). is_in (codes "__TEXT") part.section ≡ true) (text_parts sections bytes) → (text_parts sections bytes ≡ []) ⊎ (text_end_from 0 (groups_sections atoms at file lead (groups_of sections bytes)) ≡ parts_end atoms (at + lead) (text_parts sections bytes))
    by [] is all = inl is
    by (part ∷ parts) is all =
        let first : Group = record { name = codes "__TEXT"; parts = text_parts sections bytes } in
        let front = parts_sections atoms at file (at + lead) (text_parts sections bytes) in
        let back = groups_sections atoms (page_up (group_end atoms at lead first)) (file + file_bytes atoms at lead first) 0 (later_groups sections bytes) in
        let split : text_end_from 0 (groups_sections atoms at file lead (groups_of sections bytes)) ≡ text_end_from 0 (front ++ back) = ap (λ (groups : List Group). text_end_from 0 (groups_sections atoms at file lead groups)) (groups_split sections bytes) in
        let last : text_end_from 0 (parts_sections atoms at file (at + lead) (part ∷ parts)) ≡ parts_end atoms (at + lead) (part ∷ parts) = end_last atoms at file (at + lead) 0 part parts (subst (λ (ps : List Part). AllByRecursion (λ (p : Part). is_in (codes "__TEXT") p.section ≡ true) ps) is all) in
        let here : text_end_from 0 front ≡ parts_end atoms (at + lead) (text_parts sections bytes) = subst (λ (ps : List Part). text_end_from 0 (parts_sections atoms at file (at + lead) ps) ≡ parts_end atoms (at + lead) ps) (sym is) last in
        inr (split ∙ (end_join 0 front back ∙ (end_stays (text_end_from 0 front) back (late_groups atoms (page_up (group_end atoms at lead first)) (file + file_bytes atoms at lead first) 0 (later_groups sections bytes) (all_late sections bytes)) ∙ here)))
