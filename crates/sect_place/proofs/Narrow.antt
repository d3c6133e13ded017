-- An image that isn't too large has numbers of 64 bits, and what is placed has low alignments.
use Rattle.std.proofs.Common.{codes, ◌≡◌, ℕ, zero, suc, ◌+◌, ◌-◌, ◌*◌, ◌^◌, ◌<◌, ◌≤◌, ◌==◌, max, true, false, if◌then◌else◌, inl, inr, List, [], ◌∷◌, ◌++◌, length, get_or, drop, map, refl, sym, ap₂, subst, ◌∙◌, arith, add-one, drop-cons}
use Rattle.std.specs.Str.{bytes_eq}
use Rattle.std.proofs.lemmas.Bool.{cases_Bool}
use Rattle.std.proofs.lemmas.List.{map-append, drop_all}
use Rattle.command_line.specs.declared.command.Command.{Command}
use Rattle.mo_types.specs.Whole.{is_zerofill}
use Rattle.mo_types.specs.declared.atom.Atom.{Atom}
use Rattle.mo_types.specs.declared.key.AtomKey.{AtomKey}
use Rattle.mo_types.specs.declared.out_section.OutSection.{OutSection}
use Rattle.tlv_plan.specs.Template.{aligned, stand, end_of}
use Rattle.tlv_plan.proofs.Walk.{after_end}
use Rattle.sect_place.specs.Arrangement.{is_chosen, chosen, section_of, own, group_named, runs_from, runs, MadeBytes, text_parts, constant_parts, writable_parts, groups_of, parts_count}
use Rattle.sect_list.specs.OutSections.{is_in}
use Rattle.sect_place.specs.Layout.{lead_of}
use Rattle.sect_place.specs.Places.{area_unit, places, part_from, part_end, parts_end, placed_section, parts_sections, parts_places, page_up, group_end, file_bytes, protection_of, flags_of, segment_of, groups_segments, groups_sections, groups_places, groups_end, groups_file}
use Rattle.sect_place.specs.inner.Room.{capped, capped_place, capped_section, capped_segment}
use Rattle.sect_place.specs.declared.layout.Placed.{Placed}
use Rattle.sect_place.specs.declared.layout.PlacedSection.{PlacedSection}
use Rattle.sect_place.specs.declared.layout.Segment.{Segment}
use Rattle.sect_place.specs.declared.part.Choice.{Choice}
use Rattle.sect_place.specs.declared.part.Choice.TheVariants.{Code, BesideCode, Constant, Writable, Elsewhere}
use Rattle.sect_place.specs.declared.part.Group.{Group}
use Rattle.sect_place.specs.declared.part.Made.{Made}
use Rattle.sect_place.specs.declared.part.Made.TheVariants.{Stubs, UnwindInfo, Got, ThreadPtrs}
use Rattle.sect_place.specs.declared.part.Part.{Part}
use Rattle.sect_place.specs.declared.size.PlaceSizes.{PlaceSizes}
use Rattle.sect_place.proofs.Spread.{part_bounds, parts_after, group_bounds, groups_after}

pub capped_same : (n : ℕ) → n < 2 ^ 64 → capped n ≡ n
capped_same n low = omega arith

-- ---- atoms

stand_narrow : (at : ℕ) (atoms : List Atom) → end_of at atoms < 2 ^ 64 → map capped_place (places (stand at atoms)) ≡ places (stand at atoms)
unfolding stand end_of
stand_narrow at [] low = refl
stand_narrow at (atom ∷ atoms) low =
    let later = after_end (aligned atom.align at + atom.size) atoms in
    let here : aligned atom.align at < 2 ^ 64 = omega arith in
    ap₂ (λ (n : ℕ) (ps : List Placed). record { atom = atom.key; address = n } ∷ ps) (capped_same (aligned atom.align at) here) (stand_narrow (aligned atom.align at + atom.size) atoms low)

parts_places_narrow : (atoms : List AtomKey → List Atom) (at : ℕ) (parts : List Part) → parts_end atoms at parts < 2 ^ 64 → map capped_place (parts_places atoms at parts) ≡ parts_places atoms at parts
unfolding parts_end parts_places part_end
parts_places_narrow atoms at [] low = refl
parts_places_narrow atoms at (part ∷ parts) low =
    let later = parts_after atoms (part_end atoms at part) parts in
    let here : end_of (part_from at part) (atoms part.section.atoms) < 2 ^ 64 = omega arith in
    map-append capped_place (places (stand (part_from at part) (atoms part.section.atoms))) (parts_places atoms (part_end atoms at part) parts)
    ∙ ap₂ (λ (ps qs : List Placed). ps ++ qs) (stand_narrow (part_from at part) (atoms part.section.atoms) here) (parts_places_narrow atoms (part_end atoms at part) parts low)

pub groups_places_narrow : (atoms : List AtomKey → List Atom) (at lead : ℕ) (groups : List Group) → groups_end atoms at lead groups < 2 ^ 64 → map capped_place (groups_places atoms at lead groups) ≡ groups_places atoms at lead groups
unfolding groups_end groups_places
groups_places_narrow atoms at lead [] low = refl
groups_places_narrow atoms at lead (group ∷ groups) low =
    let bounds = group_bounds atoms at lead group.parts in
    let later = groups_after atoms (page_up (group_end atoms at lead group)) 0 groups in
    let here : parts_end atoms (at + lead) group.parts < 2 ^ 64 = omega arith in
    map-append capped_place (parts_places atoms (at + lead) group.parts) (groups_places atoms (page_up (group_end atoms at lead group)) 0 groups)
    ∙ ap₂ (λ (ps qs : List Placed). ps ++ qs) (parts_places_narrow atoms (at + lead) group.parts here) (groups_places_narrow atoms (page_up (group_end atoms at lead group)) 0 groups low)

-- ---- sections

section_is : (section : OutSection) (a s f a' s' f' : ℕ) → a ≡ a' → s ≡ s' → f ≡ f' → (let r : PlacedSection = record { section = section; address = a; size = s; file_offset = f } in r) ≡ record { section = section; address = a'; size = s'; file_offset = f' }
section_is section a s f a' s' f' p q r = rw (p, q, r) refl

offset_narrow : (kind at : ℕ) → at < 2 ^ 64 → capped (if is_zerofill kind then 0 else at) ≡ (if is_zerofill kind then 0 else at)
offset_narrow kind at low =
    elim (cases_Bool (is_zerofill kind)) [
      | inl zeros ↦ rw zeros refl
      | inr bytes ↦ rw bytes (capped_same at low)
    ]

section_narrow : (atoms : List AtomKey → List Atom) (start file at : ℕ) (part : Part) → start ≤ at → file ≤ start → part_end atoms at part < 2 ^ 64 → capped_section (placed_section atoms start file at part) ≡ placed_section atoms start file at part
unfolding placed_section
section_narrow atoms start file at part begun before low =
    let bounds = part_bounds atoms at part in
    section_is part.section _ _ _ (part_from at part) (part_end atoms at part - part_from at part) (if is_zerofill part.section.kind then 0 else file + (part_from at part - start))
    (capped_same (part_from at part) (omega (arith, bounds.1))) (capped_same (part_end atoms at part - part_from at part) (omega arith)) (offset_narrow part.section.kind (file + (part_from at part - start)) (omega (arith, bounds.0, bounds.1)))

parts_sections_narrow : (atoms : List AtomKey → List Atom) (start file at : ℕ) (parts : List Part) → start ≤ at → file ≤ start → parts_end atoms at parts < 2 ^ 64 → map capped_section (parts_sections atoms start file at parts) ≡ parts_sections atoms start file at parts
unfolding parts_end parts_sections
parts_sections_narrow atoms start file at [] begun before low = refl
parts_sections_narrow atoms start file at (part ∷ parts) begun before low =
    let bounds = part_bounds atoms at part in
    let later = parts_after atoms (part_end atoms at part) parts in
    let here : part_end atoms at part < 2 ^ 64 = omega arith in
    let next : start ≤ part_end atoms at part = omega (arith, bounds.0, bounds.1) in
    ap₂ (λ (p : PlacedSection) (ps : List PlacedSection). p ∷ ps) (section_narrow atoms start file at part begun before here) (parts_sections_narrow atoms start file (part_end atoms at part) parts next before low)

pub next_file : (atoms : List AtomKey → List Atom) (at file lead : ℕ) (group : Group) → file ≤ at → file + file_bytes atoms at lead group ≤ page_up (group_end atoms at lead group)
unfolding file_bytes
next_file atoms at file lead group before =
    let bounds = group_bounds atoms at lead group.parts in
    omega (arith, bounds.1, bounds.4, bounds.5)

pub groups_sections_narrow : (atoms : List AtomKey → List Atom) (at file lead : ℕ) (groups : List Group) → file ≤ at → groups_end atoms at lead groups < 2 ^ 64 → map capped_section (groups_sections atoms at file lead groups) ≡ groups_sections atoms at file lead groups
unfolding groups_end groups_sections
groups_sections_narrow atoms at file lead [] before low = refl
groups_sections_narrow atoms at file lead (group ∷ groups) before low =
    let bounds = group_bounds atoms at lead group.parts in
    let later = groups_after atoms (page_up (group_end atoms at lead group)) 0 groups in
    let here : parts_end atoms (at + lead) group.parts < 2 ^ 64 = omega arith in
    map-append capped_section (parts_sections atoms at file (at + lead) group.parts) (groups_sections atoms (page_up (group_end atoms at lead group)) (file + file_bytes atoms at lead group) 0 groups)
    ∙ ap₂ (λ (ps qs : List PlacedSection). ps ++ qs) (parts_sections_narrow atoms at file (at + lead) group.parts (omega arith) before here) (groups_sections_narrow atoms (page_up (group_end atoms at lead group)) (file + file_bytes atoms at lead group) 0 groups (next_file atoms at file lead group before) low)

-- ---- segments

segment_is : (name : List ℕ) (protection flags a m f b c a' m' f' b' c' : ℕ) → a ≡ a' → m ≡ m' → f ≡ f' → b ≡ b' → c ≡ c' → (let s : Segment = record { name = name; address = a; vmsize = m; file_offset = f; file_size = b; protection = protection; flags = flags; sections = c } in s) ≡ record { name = name; address = a'; vmsize = m'; file_offset = f'; file_size = b'; protection = protection; flags = flags; sections = c' }
segment_is name protection flags a m f b c a' m' f' b' c' p q r s t = rw (p, q, r, s, t) refl

segment_narrow : (atoms : List AtomKey → List Atom) (at file lead : ℕ) (group : Group) → file ≤ at → page_up (group_end atoms at lead group) < 2 ^ 64 → length group.parts < 2 ^ 32 → capped_segment (segment_of atoms at file lead group) ≡ segment_of atoms at file lead group
unfolding segment_of
segment_narrow atoms at file lead group before low few =
    let bounds = group_bounds atoms at lead group.parts in
    let next = next_file atoms at file lead group before in
    segment_is group.name (protection_of group.name) (flags_of group.name) _ _ _ _ _ at (page_up (group_end atoms at lead group) - at) file (file_bytes atoms at lead group) (length group.parts)
    (capped_same at (omega (arith, bounds.0, bounds.3))) (capped_same (page_up (group_end atoms at lead group) - at) (omega arith)) (capped_same file (omega (arith, bounds.0, bounds.3))) (capped_same (file_bytes atoms at lead group) (omega arith)) (omega arith)

pub groups_segments_narrow : (atoms : List AtomKey → List Atom) (at file lead : ℕ) (groups : List Group) → file ≤ at → groups_end atoms at lead groups < 2 ^ 64 → parts_count groups < 2 ^ 32 → map capped_segment (groups_segments atoms at file lead groups) ≡ groups_segments atoms at file lead groups
unfolding groups_end groups_segments parts_count
groups_segments_narrow atoms at file lead [] before low few = refl
groups_segments_narrow atoms at file lead (group ∷ groups) before low few =
    let later = groups_after atoms (page_up (group_end atoms at lead group)) 0 groups in
    let here : page_up (group_end atoms at lead group) < 2 ^ 64 = omega arith in
    ap₂ (λ (s : Segment) (ss : List Segment). s ∷ ss) (segment_narrow atoms at file lead group before here (omega arith)) (groups_segments_narrow atoms (page_up (group_end atoms at lead group)) (file + file_bytes atoms at lead group) 0 groups (next_file atoms at file lead group before) low (omega arith))

pub file_within : (atoms : List AtomKey → List Atom) (at file lead : ℕ) (groups : List Group) → file ≤ at → groups_file atoms at file lead groups ≤ groups_end atoms at lead groups
unfolding groups_end groups_file
file_within atoms at file lead [] before = before
file_within atoms at file lead (group ∷ groups) before =
    file_within atoms (page_up (group_end atoms at lead group)) (file + file_bytes atoms at lead group) 0 groups (next_file atoms at file lead group before)

-- ---- what stands before the first section

lead_low : (atoms : List AtomKey → List Atom) (base lead : ℕ) (group : Group) (groups : List Group) → base + lead ≤ groups_end atoms base lead (group ∷ groups)
unfolding groups_end
lead_low atoms base lead group groups =
    let bounds = group_bounds atoms base lead group.parts in
    let later = groups_after atoms (page_up (group_end atoms base lead group)) 0 groups in
    omega (arith, bounds.0, bounds.3, later)

pub lead_within : (atoms : List AtomKey → List Atom) (base lead : ℕ) (sections : List OutSection) (bytes : MadeBytes) → base + lead ≤ groups_end atoms base lead (groups_of sections bytes)
unfolding groups_of
lead_within atoms base lead sections bytes = lead_low atoms base lead _ _

pub few_sections : (groups : List Group) (sizes : PlaceSizes) (command : Command) → 80 * parts_count groups ≤ lead_of groups sizes command
unfolding lead_of
few_sections groups sizes command = omega arith

-- ---- alignments

abbrev Low : List Part → Type 0
Low [] = Unit {0}
Low (part ∷ parts) = (part.section.align ≤ 14) × Low parts

abbrev LowGroups : List Group → Type 0
LowGroups [] = Unit {0}
LowGroups (group ∷ groups) = Low group.parts × LowGroups groups

low_join : (xs ys : List Part) → Low xs → Low ys → Low (xs ++ ys)
low_join [] ys p q = q
low_join (x ∷ xs) ys p q = (p.0, low_join xs ys p.1 q)

groups_join : (xs ys : List Group) → LowGroups xs → LowGroups ys → LowGroups (xs ++ ys)
groups_join [] ys p q = q
groups_join (x ∷ xs) ys p q = (p.0, groups_join xs ys p.1 q)

low_chosen : (choice : Choice) (sections : List OutSection) → ((k : ℕ) (d : OutSection) → k < length sections → (get_or sections k d).align ≤ 14) → Low (chosen choice sections)
unfolding chosen
low_chosen choice [] all = tt
low_chosen choice (section ∷ sections) all =
    let rest = low_chosen choice sections (λ k d within. all (suc k) d (omega arith)) in
    elim (cases_Bool (is_chosen choice section)) [
      | inl here ↦ rw here (all 0 section (omega arith), rest)
      | inr away ↦ rw away rest
    ]

own_low : (which : Made) → (section_of which).align ≤ 14
own_low Stubs = omega arith
own_low UnwindInfo = omega arith
own_low Got = omega arith
own_low ThreadPtrs = omega arith

low_own : (which : Made) (bytes : ℕ) → Low (own which bytes)
low_own which bytes =
    elim (cases_Bool (bytes == 0)) [
      | inl none ↦ rw none tt
      | inr some ↦ rw some (own_low which, tt)
    ]

low_named : (name : List ℕ) (parts : List Part) → Low parts → LowGroups (group_named name parts)
low_named name [] low = tt
low_named name (part ∷ parts) low = (low, tt)

low_runs : (name : List ℕ) (run parts : List Part) → Low run → Low parts → LowGroups (runs_from name run parts)
low_runs name run [] here rest = low_named name run here
low_runs name run (part ∷ parts) here rest =
    elim (cases_Bool (bytes_eq part.section.segment name)) [
      | inl same ↦ rw same (low_runs name (run ++ part ∷ []) parts (low_join run (part ∷ []) here (rest.0, tt)) rest.1)
      | inr other ↦ rw other (groups_join (group_named name run) (runs_from part.section.segment (part ∷ []) parts) (low_named name run here) (low_runs part.section.segment (part ∷ []) parts (rest.0, tt) rest.1))
    ]

low_groups : (sections : List OutSection) (bytes : MadeBytes) → ((k : ℕ) (d : OutSection) → k < length sections → (get_or sections k d).align ≤ 14) → LowGroups (groups_of sections bytes)
unfolding groups_of text_parts constant_parts writable_parts runs
low_groups sections bytes all =
    let code = low_join (chosen Code sections) (own Stubs bytes.stubs) (low_chosen Code sections all) (low_own Stubs bytes.stubs) in
    let beside = low_join (chosen Code sections ++ own Stubs bytes.stubs) (chosen BesideCode sections) code (low_chosen BesideCode sections all) in
    let text = low_join (chosen Code sections ++ own Stubs bytes.stubs ++ chosen BesideCode sections) (own UnwindInfo bytes.unwind) beside (low_own UnwindInfo bytes.unwind) in
    let constant = low_join (own Got bytes.got) (chosen Constant sections) (low_own Got bytes.got) (low_chosen Constant sections all) in
    let writable = low_join (own ThreadPtrs bytes.tlv) (chosen Writable sections) (low_own ThreadPtrs bytes.tlv) (low_chosen Writable sections all) in
    let second = low_named (codes "__DATA_CONST") (own Got bytes.got ++ chosen Constant sections) constant in
    let third = low_named (codes "__DATA") (own ThreadPtrs bytes.tlv ++ chosen Writable sections) writable in
    let fourth = low_runs [] [] (chosen Elsewhere sections) tt (low_chosen Elsewhere sections all) in
    let named_constant = group_named (codes "__DATA_CONST") (own Got bytes.got ++ chosen Constant sections) in
    let named_writable = group_named (codes "__DATA") (own ThreadPtrs bytes.tlv ++ chosen Writable sections) in
    let elsewhere = runs_from [] [] (chosen Elsewhere sections) in
    (text, groups_join (named_constant ++ named_writable) elsewhere (groups_join named_constant named_writable second third) fourth)

low_at : (parts : List Part) → Low parts → (k : ℕ) (d : Part) → k < length parts → (get_or parts k d).section.align ≤ 14
low_at [] low k d within = absurd (omega arith)
low_at (part ∷ parts) low zero d within = low.0
low_at (part ∷ parts) low (suc k) d within = low_at parts low.1 k d (omega arith)

groups_low_at : (groups : List Group) → LowGroups groups → (k : ℕ) (d : Group) → k < length groups → (j : ℕ) (e : Part) → j < length (get_or groups k d).parts → (get_or (get_or groups k d).parts j e).section.align ≤ 14
groups_low_at [] low k d within = absurd (omega arith)
groups_low_at (group ∷ groups) low zero d within = low_at group.parts low.0
groups_low_at (group ∷ groups) low (suc k) d within = groups_low_at groups low.1 k d (omega arith)

pub arranged_low : (sections : List OutSection) (bytes : MadeBytes) (groups : List Group) → groups ≡ groups_of sections bytes → ((k : ℕ) (d : OutSection) → k < length sections → (get_or sections k d).align ≤ 14) → (k : ℕ) (d : Group) → k < length groups → (j : ℕ) (e : Part) → j < length (get_or groups k d).parts → (get_or (get_or groups k d).parts j e).section.align ≤ 14
arranged_low sections bytes groups is all = groups_low_at groups (subst LowGroups (sym is) (low_groups sections bytes all))

-- ---- the unit of areas

pub least_unit : (sections : List OutSection) → 2 ≤ area_unit sections
unfolding area_unit
least_unit [] = omega arith
least_unit (section ∷ sections) =
    let rest = least_unit sections in
    elim (cases_Bool (is_in (codes "__TEXT") section)) [
      | inl here ↦ rw here (omega arith)
      | inr away ↦ rw away rest
    ]

unit_skips : (sections : List OutSection) (i : ℕ) (section : OutSection) → i < length sections → section ≡ get_or sections i section → is_in (codes "__TEXT") section ≡ false → area_unit (drop i sections) ≡ area_unit (drop (i + 1) sections)
unfolding area_unit
unit_skips sections i section within is away = rw (drop-cons sections i section, ← is, away, add-one) refl

unit_more : (sections : List OutSection) (i : ℕ) (section : OutSection) → i < length sections → section ≡ get_or sections i section → is_in (codes "__TEXT") section ≡ true → area_unit (drop i sections) ≡ max section.align (area_unit (drop (i + 1) sections))
unfolding area_unit
unit_more sections i section within is here = rw (drop-cons sections i section, ← is, here, add-one) refl

no_unit : (sections : List OutSection) → sections ≡ [] → area_unit sections ≡ 2
unfolding area_unit
no_unit sections none = rw none refl

pub unit_starts : (sections : List OutSection) → max 2 (area_unit sections) ≡ area_unit sections
unit_starts sections = let least = least_unit sections in omega arith

pub unit_stays : (sections : List OutSection) (i unit all : ℕ) (section : OutSection) → max unit (area_unit (drop i sections)) ≡ all → i < length sections → section ≡ get_or sections i section → is_in (codes "__TEXT") section ≡ false → max unit (area_unit (drop (i + 1) sections)) ≡ all
unit_stays sections i unit all section so within is away = let e = unit_skips sections i section within is away in omega arith

pub unit_goes_on : (sections : List OutSection) (i unit new all : ℕ) (section : OutSection) → max unit (area_unit (drop i sections)) ≡ all → i < length sections → section ≡ get_or sections i section → is_in (codes "__TEXT") section ≡ true → new ≡ max unit section.align → max new (area_unit (drop (i + 1) sections)) ≡ all
unit_goes_on sections i unit new all section so within is here larger = let e = unit_more sections i section within is here in omega arith

pub unit_ends : (sections : List OutSection) (i unit all : ℕ) → max unit (area_unit (drop i sections)) ≡ all → 2 ≤ unit → length sections ≤ i → unit ≡ all
unit_ends sections i unit all so least past = let none = no_unit (drop i sections) (drop_all i sections past) in omega arith
