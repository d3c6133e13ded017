-- Layouts that differ in the bytes of `__unwind_info` alone.
use Rattle.std.proofs.Common.{◌≡◌, ◌≢◌, ℕ, suc, ◌+◌, ◌-◌, ◌*◌, ◌<◌, ◌==◌, ◌⊎◌, ◌++◌, true, false, List, [], ◌∷◌, length, codes, Contains, refl, sym, ap, subst, ◌∙◌, inl, inr, arith, append_assoc, length-append}
use Rattle.std.specs.List.{AllByRecursion, AllPairs, filter, flat_map}
use Rattle.std.proofs.lemmas.Bool.{cases_Bool, eqb-true}
use Rattle.std.proofs.lemmas.List.{append-nil}
use Rattle.list_lemmas.proofs.Members.{In, Contains_from_in, all_in, from_filter, from_flat, in_either, in_from_Contains, in_left, in_map}
use Rattle.command_line.specs.declared.command.Command.{Command}
use Rattle.mo_types.specs.declared.atom.Atom.{Atom}
use Rattle.mo_types.specs.declared.key.AtomKey.{AtomKey}
use Rattle.mo_types.specs.declared.out_section.OutSection.{OutSection}
use Rattle.sect_list.specs.OutSections.{is_in}
use Rattle.sect_place.specs.Arrangement.{MadeBytes, chosen, constant_parts, groups_of, is_chosen, own, parts_count, section_of, text_parts, writable_parts}
use Rattle.sect_place.specs.Layout.{Plan, base_of, image_places, image_sections, lead_of, made_bytes, others_of, plan_of}
use Rattle.sect_place.specs.Places.{area_unit, file_bytes, group_end, groups_places, groups_sections, page_up, part_end, part_from, parts_end, parts_places, parts_sections, placed_section, places, spaced}
use Rattle.sect_place.specs.declared.island.IslandArea.{IslandArea}
use Rattle.sect_place.specs.declared.island.IslandPlan.{IslandPlan}
use Rattle.sect_place.specs.declared.layout.Placed.{Placed}
use Rattle.sect_place.specs.declared.layout.PlacedSection.{PlacedSection}
use Rattle.sect_place.specs.declared.part.Choice.{Choice}
use Rattle.sect_place.specs.declared.part.Choice.TheVariants.{Code, BesideCode}
use Rattle.sect_place.specs.declared.part.Group.{Group}
use Rattle.sect_place.specs.declared.part.Made.TheVariants.{Stubs, UnwindInfo}
use Rattle.sect_place.specs.declared.part.Part.{Part}
use Rattle.sect_place.proofs.Fitting.{later_all}
use Rattle.sect_place.proofs.Moving.{text_choice}
use Rattle.sect_place.proofs.Positions.{chosen_is, chosen_there, from_pairs, group_keys, groups_keys, kept_listed, one_choice}
use Rattle.sect_place.proofs.Sound.{groups_split, later_groups}
use Rattle.slot_plan.specs.declared.list.Slots.{Slots}
use Rattle.tlv_plan.specs.Template.{atoms_of, end_of, keys_of, stand}
use Rattle.unwind_link.specs.Twice.{AreAlikeBefore, AreBehindText, info_at, with_unwind}

-- ---- the sections of `__TEXT`

-- all but `__unwind_info`
abbrev pub before_info : List OutSection → ℕ → List Part
before_info sections stubs = (chosen Code sections ++ own Stubs stubs) ++ chosen BesideCode sections

abbrev pub info : ℕ → Part
info bytes = record { section = section_of UnwindInfo; fixed = bytes }

own_some : (bytes : ℕ) → 0 < bytes → own UnwindInfo bytes ≡ info bytes ∷ []
own_some bytes some = elim (cases_Bool (bytes == 0)) [ inl none ↦ absurd (omega (arith, eqb-true bytes 0 none, some)) | inr away ↦ rw away refl ]

pub text_is : (sections : List OutSection) (bytes : MadeBytes) → 0 < bytes.unwind → text_parts sections bytes ≡ before_info sections bytes.stubs ++ info bytes.unwind ∷ []
unfolding text_parts
text_is sections bytes some = ap (λ (parts : List Part). before_info sections bytes.stubs ++ parts) (own_some bytes.unwind some)

sections_join : (atoms : List AtomKey → List Atom) (start file at : ℕ) (xs ys : List Part) → parts_sections atoms start file at (xs ++ ys) ≡ parts_sections atoms start file at xs ++ parts_sections atoms start file (parts_end atoms at xs) ys
unfolding parts_sections parts_end
sections_join atoms start file at [] ys = refl
sections_join atoms start file at (part ∷ xs) ys = ap (λ (ps : List PlacedSection). placed_section atoms start file at part ∷ ps) (sections_join atoms start file (part_end atoms at part) xs ys)

places_join : (atoms : List AtomKey → List Atom) (at : ℕ) (xs ys : List Part) → parts_places atoms at (xs ++ ys) ≡ parts_places atoms at xs ++ parts_places atoms (parts_end atoms at xs) ys
unfolding parts_places parts_end
places_join atoms at [] ys = refl
places_join atoms at (part ∷ xs) ys =
    let here = places (stand (part_from at part) (atoms part.section.atoms)) in
    ap (λ (ps : List Placed). here ++ ps) (places_join atoms (part_end atoms at part) xs ys)
    ∙ sym (append_assoc here (parts_places atoms (part_end atoms at part) xs) (parts_places atoms (parts_end atoms (part_end atoms at part) xs) ys))

-- a layout's atoms, as keys have them
abbrev Gives : (List AtomKey → List Atom) → Type 0
Gives atoms = atoms [] ≡ []

spaced_gives : (kept : List Atom) (areas : List IslandArea) (unit : ℕ) → Gives (spaced kept areas unit)
unfolding spaced atoms_of
spaced_gives kept areas unit = refl

info_end : (atoms : List AtomKey → List Atom) (at bytes : ℕ) → Gives atoms → part_end atoms at (info bytes) ≡ part_from at (info bytes) + bytes
unfolding part_end end_of
info_end atoms at bytes none = ap (λ (xs : List Atom). end_of (part_from at (info bytes)) xs + bytes) none

info_section : (atoms : List AtomKey → List Atom) (start file at bytes : ℕ) → Gives atoms → placed_section atoms start file at (info bytes) ≡ info_at (part_from at (info bytes)) (file + (part_from at (info bytes) - start)) bytes
unfolding placed_section
info_section atoms start file at bytes none =
    let size : part_end atoms at (info bytes) - part_from at (info bytes) ≡ bytes = omega (arith, info_end atoms at bytes none) in
    ap (λ (n : ℕ). info_at (part_from at (info bytes)) (file + (part_from at (info bytes) - start)) n) size

info_places : (atoms : List AtomKey → List Atom) (at bytes : ℕ) → Gives atoms → parts_places atoms at (info bytes ∷ []) ≡ []
unfolding parts_places stand
info_places atoms at bytes none = ap (λ (xs : List Atom). places (stand (part_from at (info bytes)) xs) ++ []) none

-- ---- the whole image

abbrev text_group : List OutSection → MadeBytes → Group
text_group sections bytes = record { name = codes "__TEXT"; parts = text_parts sections bytes }

image_sections_are : (atoms : List AtomKey → List Atom) (at lead : ℕ) (sections : List OutSection) (bytes : MadeBytes) → Gives atoms → 0 < bytes.unwind → groups_sections atoms at 0 lead (groups_of sections bytes)
    ≡ parts_sections atoms at 0 (at + lead) (before_info sections bytes.stubs)
    ++ info_at (part_from (parts_end atoms (at + lead) (before_info sections bytes.stubs)) (info bytes.unwind)) (0 + (part_from (parts_end atoms (at + lead) (before_info sections bytes.stubs)) (info bytes.unwind) - at)) bytes.unwind
    ∷ groups_sections atoms (page_up (group_end atoms at lead (text_group sections bytes))) (0 + file_bytes atoms at lead (text_group sections bytes)) 0 (later_groups sections bytes)
unfolding groups_sections parts_sections
image_sections_are atoms at lead sections bytes none some =
    let front = before_info sections bytes.stubs in
    let last = parts_end atoms (at + lead) front in
    let rest = groups_sections atoms (page_up (group_end atoms at lead (text_group sections bytes))) (0 + file_bytes atoms at lead (text_group sections bytes)) 0 (later_groups sections bytes) in
    ap (groups_sections atoms at 0 lead) (groups_split sections bytes)
    ∙ ap (λ (ps : List PlacedSection). ps ++ rest) (ap (parts_sections atoms at 0 (at + lead)) (text_is sections bytes some) ∙ sections_join atoms at 0 (at + lead) front (info bytes.unwind ∷ []))
    ∙ append_assoc (parts_sections atoms at 0 (at + lead) front) (placed_section atoms at 0 last (info bytes.unwind) ∷ []) rest
    ∙ ap (λ (p : PlacedSection). parts_sections atoms at 0 (at + lead) front ++ p ∷ rest) (info_section atoms at 0 last bytes.unwind none)

image_places_are : (atoms : List AtomKey → List Atom) (at lead : ℕ) (sections : List OutSection) (bytes : MadeBytes) → Gives atoms → 0 < bytes.unwind → groups_places atoms at lead (groups_of sections bytes)
    ≡ parts_places atoms (at + lead) (before_info sections bytes.stubs) ++ groups_places atoms (page_up (group_end atoms at lead (text_group sections bytes))) 0 (later_groups sections bytes)
unfolding groups_places
image_places_are atoms at lead sections bytes none some =
    let front = before_info sections bytes.stubs in
    let rest = groups_places atoms (page_up (group_end atoms at lead (text_group sections bytes))) 0 (later_groups sections bytes) in
    ap (groups_places atoms at lead) (groups_split sections bytes)
    ∙ ap (λ (ps : List Placed). ps ++ rest)
    (ap (parts_places atoms (at + lead)) (text_is sections bytes some) ∙ places_join atoms (at + lead) front (info bytes.unwind ∷ [])
    ∙ ap (λ (ps : List Placed). parts_places atoms (at + lead) front ++ ps) (info_places atoms (parts_end atoms (at + lead) front) bytes.unwind none) ∙ append-nil (parts_places atoms (at + lead) front))

-- ---- what is behind `__TEXT`

abbrev IsLatePart : List OutSection → Part → Type 0
IsLatePart sections part = (part.section.atoms ≡ []) ⊎ ((choice : Choice) × (Code ≡ choice → ⊥) × (BesideCode ≡ choice → ⊥) × In part.section sections × (is_chosen choice part.section ≡ true))

late_parts : (sections : List OutSection) (bytes : MadeBytes) → AllByRecursion (λ (group : Group). AllByRecursion (IsLatePart sections) group.parts) (later_groups sections bytes)
late_parts sections bytes =
    later_all (λ (group : Group). AllByRecursion (IsLatePart sections) group.parts) (IsLatePart sections) sections bytes
    (λ name parts all. all) (λ fixed. inl refl) (λ fixed. inl refl) (λ choice section h is code beside. inr (choice, code, beside, h, is))

-- no atom of `__TEXT` stands there
never_late : (sections : List OutSection) (bytes : MadeBytes) (key : AtomKey) → AllPairs (λ (a : AtomKey) (b : AtomKey). a ≢ b) (keys_of sections) → Contains (keys_of (filter (is_in (codes "__TEXT")) sections)) key → In key (group_keys (later_groups sections bytes)) → ⊥
never_late sections bytes key once listed late =
    let t = is_in (codes "__TEXT") in
    let text : (section : OutSection) × In section (filter t sections) × In key section.atoms = from_flat (λ (s : OutSection). s.atoms) (filter t sections) key (in_from_Contains (keys_of (filter t sections)) key listed) in
    let passed = from_filter t sections text.0 text.1 in
    let group : (g : Group) × In g (later_groups sections bytes) × In key (flat_map (λ (part : Part). part.section.atoms) g.parts) = from_flat (λ (g : Group). flat_map (λ (part : Part). part.section.atoms) g.parts) (later_groups sections bytes) key late in
    let part : (p : Part) × In p group.0.parts × In key p.section.atoms = from_flat (λ (p : Part). p.section.atoms) group.0.parts key group.2 in
    let is = all_in (IsLatePart sections) group.0.parts part.0 (all_in (λ (g : Group). AllByRecursion (IsLatePart sections) g.parts) (later_groups sections bytes) group.0 (late_parts sections bytes) group.1) part.1 in
    by text.0 part.0 passed.0 (text_choice text.0 passed.1) text.2 part.2 is
  where
    by : (section : OutSection) (part : Part) → In section sections → (is_chosen Code section ≡ true) ⊎ (is_chosen BesideCode section ≡ true) → In key section.atoms → In key part.section.atoms → IsLatePart sections part → ⊥
    by section part h choice here there (inl none) = subst (λ (keys : List AtomKey). In key keys) none there
    by section part h (inl code) here there (inr (choice, not_code, not_beside, k, is)) =
        not_code (one_choice sections key Code choice (from_pairs (keys_of sections) once) (chosen_there (is_chosen Code) sections section key h code here) (chosen_there (is_chosen choice) sections part.section key k is there))
    by section part h (inr beside) here there (inr (choice, not_code, not_beside, k, is)) =
        not_beside (one_choice sections key BesideCode choice (from_pairs (keys_of sections) once) (chosen_there (is_chosen BesideCode) sections section key h beside here) (chosen_there (is_chosen choice) sections part.section key k is there))

still_there : (kept : List Atom) (areas : List IslandArea) (unit at next : ℕ) (sections : List OutSection) (bytes : MadeBytes) (first others : List Placed) (key : AtomKey) (address : ℕ) → AllPairs (λ (a : AtomKey) (b : AtomKey). a ≢ b) (keys_of sections) → Contains (keys_of (filter (is_in (codes "__TEXT")) sections)) key
    → Contains (first ++ groups_places (spaced kept areas unit) next 0 (later_groups sections bytes)) (record { atom = key; address = address }) → Contains (first ++ others) (record { atom = key; address = address })
still_there kept areas unit at next sections bytes first others key address once listed there =
    by (in_either first rest p (in_from_Contains (first ++ rest) p there))
  where
    rest : List Placed
    rest = groups_places (spaced kept areas unit) next 0 (later_groups sections bytes)

    p : Placed
    p = record { atom = key; address = address }

    by : In p first ⊎ In p rest → Contains (first ++ others) p
    by (inl here) = Contains_from_in (first ++ others) p (in_left first others p here)
    by (inr late) =
        absurd (never_late sections bytes key once listed
        (kept_listed kept (group_keys (later_groups sections bytes)) key
        (subst (λ (keys : List AtomKey). In key keys) (groups_keys kept areas unit next 0 (later_groups sections bytes)) (in_map (λ (q : Placed). q.atom) rest p late))))

-- ---- sections behind `__TEXT`

abbrev IsAway : Part → Type 0
IsAway part = is_in (codes "__TEXT") part.section ≡ false

away_section : (section : OutSection) (choice : Choice) → is_chosen choice section ≡ true → (Code ≡ choice → ⊥) → (BesideCode ≡ choice → ⊥) → is_in (codes "__TEXT") section ≡ false
away_section section choice is code beside = elim (cases_Bool (is_in (codes "__TEXT") section)) [ inl text ↦ absurd (by (text_choice section text)) | inr away ↦ away ]
  where
    by : (is_chosen Code section ≡ true) ⊎ (is_chosen BesideCode section ≡ true) → ⊥
    by (inl p) = code (chosen_is Code section p ∙ sym (chosen_is choice section is))
    by (inr p) = beside (chosen_is BesideCode section p ∙ sym (chosen_is choice section is))

all_away : (sections : List OutSection) (bytes : MadeBytes) → AllByRecursion (λ (group : Group). AllByRecursion IsAway group.parts) (later_groups sections bytes)
all_away sections bytes =
    later_all (λ (group : Group). AllByRecursion IsAway group.parts) IsAway sections bytes
    (λ name parts all. all) (λ fixed. refl) (λ fixed. refl) (λ choice section h is code beside. away_section section choice is code beside)

pub both : {X : Type 0} (P : X → Type 0) (xs ys : List X) → AllByRecursion P xs → AllByRecursion P ys → AllByRecursion P (xs ++ ys)
both P [] ys p q = q
both P (x ∷ xs) ys p q = (p.0, both P xs ys p.1 q)

away_parts : (atoms : List AtomKey → List Atom) (start file at : ℕ) (parts : List Part) → AllByRecursion IsAway parts → AreBehindText (parts_sections atoms start file at parts)
unfolding parts_sections placed_section
away_parts atoms start file at [] all = tt
away_parts atoms start file at (part ∷ parts) all = (all.0, away_parts atoms start file (part_end atoms at part) parts all.1)

away_groups : (atoms : List AtomKey → List Atom) (at file lead : ℕ) (groups : List Group) → AllByRecursion (λ (group : Group). AllByRecursion IsAway group.parts) groups → AreBehindText (groups_sections atoms at file lead groups)
unfolding groups_sections
away_groups atoms at file lead [] all = tt
away_groups atoms at file lead (group ∷ groups) all =
    both (λ (p : PlacedSection). is_in (codes "__TEXT") p.section ≡ false) (parts_sections atoms at file (at + lead) group.parts) (groups_sections atoms (page_up (group_end atoms at lead group)) (file + file_bytes atoms at lead group) 0 groups)
    (away_parts atoms at file (at + lead) group.parts all.0) (away_groups atoms (page_up (group_end atoms at lead group)) (file + file_bytes atoms at lead group) 0 groups all.1)

-- ---- the load commands count the same

same_count : (sections : List OutSection) (one other : MadeBytes) → one.stubs ≡ other.stubs → 0 < one.unwind → 0 < other.unwind → length (text_parts sections one) ≡ length (text_parts sections other)
same_count sections one other same some any =
    ap length (text_is sections one some)
    ∙ length-append (before_info sections one.stubs) (info one.unwind ∷ [])
    ∙ ap (λ (n : ℕ). length (before_info sections n) + 1) same
    ∙ sym (ap length (text_is sections other any) ∙ length-append (before_info sections other.stubs) (info other.unwind ∷ []))

abbrev pub sized : Slots → ℕ → ℕ → MadeBytes
sized slots commands bytes = made_bytes slots (with_unwind commands bytes)

pub same_lead : (sections : List OutSection) (slots : Slots) (command : Command) (commands few many : ℕ) → 0 < few → 0 < many
    → lead_of (groups_of sections (sized slots commands few)) (with_unwind commands few) command ≡ lead_of (groups_of sections (sized slots commands many)) (with_unwind commands many) command
unfolding lead_of groups_of parts_count constant_parts writable_parts
same_lead sections slots command commands few many some any =
    let same = same_count sections (sized slots commands few) (sized slots commands many) refl some any in
    ap (λ (n : ℕ). 32 + (commands + 72 * (suc (length (later_groups sections (sized slots commands many))) + others_of command) + 80 * (n + parts_count (later_groups sections (sized slots commands many)))) + command.headerpad) same

-- ---- both

-- what is planned of some atoms and sections
abbrev planned : (List AtomKey → List Atom) → List OutSection → MadeBytes → ℕ → ℕ → Plan
planned atoms sections bytes base lead = record { atoms = atoms; groups = groups_of sections bytes; base = base; lead = lead }

alike_by : (kept : List Atom) (sections : List OutSection) (slots : Slots) (areas : List IslandArea) (unit base lead commands few many : ℕ) → AllPairs (λ (a : AtomKey) (b : AtomKey). a ≢ b) (keys_of sections) → 0 < few → 0 < many
    → AreAlikeBefore sections (planned (spaced kept areas unit) sections (sized slots commands few) base lead) (planned (spaced kept areas unit) sections (sized slots commands many) base lead) few many
unfolding image_sections image_places constant_parts writable_parts
alike_by kept sections slots areas unit base lead commands few many once some any =
    let atoms = spaced kept areas unit in
    let none = spaced_gives kept areas unit in
    let one = sized slots commands few in
    let two = sized slots commands many in
    let start = parts_places atoms (base + lead) (before_info sections one.stubs) in
    let here = page_up (group_end atoms base lead (text_group sections one)) in
    let next = page_up (group_end atoms base lead (text_group sections two)) in
    let first = image_places_are atoms base lead sections one none some in
    let second = image_places_are atoms base lead sections two none any in
    record {
      before = parts_sections atoms base 0 (base + lead) (before_info sections one.stubs);
      address = part_from (parts_end atoms (base + lead) (before_info sections one.stubs)) (info few);
      file = 0 + (part_from (parts_end atoms (base + lead) (before_info sections one.stubs)) (info few) - base);
      rest = groups_sections atoms here (0 + file_bytes atoms base lead (text_group sections one)) 0 (later_groups sections one);
      others = groups_sections atoms next (0 + file_bytes atoms base lead (text_group sections two)) 0 (later_groups sections two);
      first = image_sections_are atoms base lead sections one none some;
      second = image_sections_are atoms base lead sections two none any;
      behind = away_groups atoms here (0 + file_bytes atoms base lead (text_group sections one)) 0 (later_groups sections one) (all_away sections one);
      behind_too = away_groups atoms next (0 + file_bytes atoms base lead (text_group sections two)) 0 (later_groups sections two) (all_away sections two);
      there = λ key at listed h.
          subst (λ (ps : List Placed). Contains ps (record { atom = key; address = at })) (sym second)
          (still_there kept areas unit base here sections one start (groups_places atoms next 0 (later_groups sections two)) key at once listed (subst (λ (ps : List Placed). Contains ps (record { atom = key; address = at })) first h));
      back = λ key at listed h.
          subst (λ (ps : List Placed). Contains ps (record { atom = key; address = at })) (sym first)
          (still_there kept areas unit base next sections two start (groups_places atoms here 0 (later_groups sections one)) key at once listed (subst (λ (ps : List Placed). Contains ps (record { atom = key; address = at })) second h));
    }

pub alike : (kept : List Atom) (sections : List OutSection) (slots : Slots) (islands : IslandPlan) (command : Command) (commands few many : ℕ) → AllPairs (λ (a : AtomKey) (b : AtomKey). a ≢ b) (keys_of sections) → 0 < few → 0 < many
    → AreAlikeBefore sections (plan_of kept sections slots islands (with_unwind commands few) command) (plan_of kept sections slots islands (with_unwind commands many) command) few many
unfolding plan_of
alike kept sections slots islands command commands few many once some any =
    let lead = lead_of (groups_of sections (sized slots commands many)) (with_unwind commands many) command in
    subst (λ (n : ℕ). AreAlikeBefore sections (planned (spaced kept islands.areas (area_unit sections)) sections (sized slots commands few) (base_of command) n) (planned (spaced kept islands.areas (area_unit sections)) sections (sized slots commands many) (base_of command) lead) few many)
    (sym (same_lead sections slots command commands few many some any))
    (alike_by kept sections slots islands.areas (area_unit sections) (base_of command) lead commands few many once some any)
