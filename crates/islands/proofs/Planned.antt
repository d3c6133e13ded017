-- The sections of `__text` that a layout has are those that were planned.
use Rattle.std.proofs.Common.{◌≡◌, ℕ, ◌+◌, ◌==◌, ◌++◌, Bool, true, false, List, [], ◌∷◌, map, refl, sym, ap, ap₂, subst, ◌∙◌, inl, inr, append-nil, append_assoc, codes}
use Rattle.std.specs.List.{AllByRecursion, filter, flat_map}
use Rattle.std.proofs.lemmas.Bool.{cases_Bool}
use Rattle.std.proofs.lemmas.List.{map-append}
use Rattle.std.proofs.lemmas.List.Elements.{filter-append}
use Rattle.list_lemmas.proofs.Members.{In, all_from_in, all_in, from_filter, from_flat, from_map}
use Rattle.mo_types.specs.declared.atom.Atom.{Atom}
use Rattle.mo_types.specs.declared.key.AtomKey.{AtomKey}
use Rattle.mo_types.specs.declared.out_section.OutSection.{OutSection}
use Rattle.sect_place.specs.Arrangement.{MadeBytes, chosen, groups_of, is_chosen, is_code, own, section_of, text_parts, with_atoms}
use Rattle.sect_place.specs.Places.{file_bytes, group_end, groups_sections, page_up, part_end, parts_sections, placed_section}
use Rattle.sect_place.specs.Shifts.{sections_in}
use Rattle.sect_place.specs.declared.layout.PlacedSection.{PlacedSection}
use Rattle.sect_place.specs.declared.part.Choice.{Choice}
use Rattle.sect_place.specs.declared.part.Choice.TheVariants.{Code, BesideCode}
use Rattle.sect_place.specs.declared.part.Group.{Group}
use Rattle.sect_place.specs.declared.part.Made.{Made}
use Rattle.sect_place.specs.declared.part.Made.TheVariants.{Stubs, UnwindInfo, Got, ThreadPtrs}
use Rattle.sect_place.specs.declared.part.Part.{Part}
use Rattle.sect_place.proofs.Fitting.{later_all}
use Rattle.sect_place.proofs.Positions.{chosen_is}
use Rattle.sect_place.proofs.Sound.{groups_split, later_groups}

-- ---- the sections that were placed, by the parts

parts_planned : (atoms : List AtomKey → List Atom) (start file at : ℕ) (parts : List Part) → sections_in (parts_sections atoms start file at parts) ≡ map (λ (part : Part). part.section) parts
unfolding parts_sections placed_section
parts_planned atoms start file at [] = refl
parts_planned atoms start file at (part ∷ parts) = ap (λ (sections : List OutSection). part.section ∷ sections) (parts_planned atoms start file (part_end atoms at part) parts)

abbrev pub parts_in : List Group → List Part
parts_in groups = flat_map (λ (group : Group). group.parts) groups

pub groups_planned : (atoms : List AtomKey → List Atom) (at file lead : ℕ) (groups : List Group) → sections_in (groups_sections atoms at file lead groups) ≡ map (λ (part : Part). part.section) (parts_in groups)
unfolding groups_sections
groups_planned atoms at file lead [] = refl
groups_planned atoms at file lead (group ∷ groups) =
    let next = page_up (group_end atoms at lead group) in
    let file' = file + file_bytes atoms at lead group in
    map-append (λ (p : PlacedSection). p.section) (parts_sections atoms at file (at + lead) group.parts) (groups_sections atoms next file' 0 groups)
    ∙ (ap₂ (λ (xs ys : List OutSection). xs ++ ys) (parts_planned atoms at file (at + lead) group.parts) (groups_planned atoms next file' 0 groups)
    ∙ sym (map-append (λ (part : Part). part.section) group.parts (parts_in groups)))

-- ---- which of them are of instructions

abbrev code_of : List Part → List OutSection
code_of parts = filter is_code (map (λ (part : Part). part.section) parts)

code_join : (xs ys : List Part) → code_of (xs ++ ys) ≡ code_of xs ++ code_of ys
code_join xs ys = ap (filter is_code) (map-append (λ (part : Part). part.section) xs ys) ∙ filter-append is_code (map (λ (part : Part). part.section) xs) (map (λ (part : Part). part.section) ys)

none_code : (parts : List Part) → AllByRecursion (λ (part : Part). is_code part.section ≡ false) parts → code_of parts ≡ []
none_code [] all = refl
none_code (part ∷ parts) all = rw all.0 (none_code parts all.1)

own_code : (made : Made) (bytes : ℕ) → code_of (own made bytes) ≡ []
own_code made bytes = elim (cases_Bool (bytes == 0)) [ inl none ↦ rw none refl | inr some ↦ rw some (nothing made) ]
  where
    nothing : (made : Made) → filter is_code (section_of made ∷ []) ≡ []
    nothing Stubs = refl
    nothing UnwindInfo = refl
    nothing Got = refl
    nothing ThreadPtrs = refl

with_back : (sections : List OutSection) → map (λ (part : Part). part.section) (map with_atoms sections) ≡ sections
with_back [] = refl
with_back (section ∷ sections) = ap (λ (ss : List OutSection). section ∷ ss) (with_back sections)

twice : (t : OutSection → Bool) (sections : List OutSection) → filter t (filter t sections) ≡ filter t sections
twice t [] = refl
twice t (section ∷ sections) = elim (cases_Bool (t section)) [ inl e ↦ rw (e, e) (ap (λ (ss : List OutSection). section ∷ ss) (twice t sections)) | inr e ↦ rw e (twice t sections) ]

other_choice : (choice : Choice) (section : OutSection) → is_chosen choice section ≡ true → (Code ≡ choice → ⊥) → is_code section ≡ false
unfolding is_chosen
other_choice choice section is other = elim (cases_Bool (is_code section)) [
  | inl code ↦ absurd (other (chosen_is Code section code ∙ sym (chosen_is choice section is)))
  | inr away ↦ away
]

chosen_code : (sections : List OutSection) → code_of (chosen Code sections) ≡ filter is_code sections
unfolding chosen is_chosen
chosen_code sections = ap (filter is_code) (with_back (filter is_code sections)) ∙ twice is_code sections

beside_code : (sections : List OutSection) → code_of (chosen BesideCode sections) ≡ []
unfolding chosen
beside_code sections =
    none_code (map with_atoms (filter (is_chosen BesideCode) sections))
    (all_from_in (λ (part : Part). is_code part.section ≡ false) (map with_atoms (filter (is_chosen BesideCode) sections)) (λ part h.
    let found : (section : OutSection) × In section (filter (is_chosen BesideCode) sections) × (with_atoms section ≡ part) = from_map with_atoms (filter (is_chosen BesideCode) sections) part h in
    subst (λ (p : Part). is_code p.section ≡ false) found.2 (other_choice BesideCode found.0 (from_filter (is_chosen BesideCode) sections found.0 found.1).1 (λ e. cc))))

-- what stands behind the sections of instructions in `__TEXT`
abbrev pub beside_parts : List OutSection → MadeBytes → List Part
beside_parts sections bytes = own Stubs bytes.stubs ++ (chosen BesideCode sections ++ own UnwindInfo bytes.unwind)

pub text_split : (sections : List OutSection) (bytes : MadeBytes) → text_parts sections bytes ≡ chosen Code sections ++ beside_parts sections bytes
unfolding text_parts
text_split sections bytes =
    append_assoc (chosen Code sections ++ own Stubs bytes.stubs) (chosen BesideCode sections) (own UnwindInfo bytes.unwind)
    ∙ append_assoc (chosen Code sections) (own Stubs bytes.stubs) (chosen BesideCode sections ++ own UnwindInfo bytes.unwind)

beside_none : (sections : List OutSection) (bytes : MadeBytes) → code_of (beside_parts sections bytes) ≡ []
beside_none sections bytes =
    code_join (own Stubs bytes.stubs) (chosen BesideCode sections ++ own UnwindInfo bytes.unwind)
    ∙ ap₂ (λ (xs ys : List OutSection). xs ++ ys) (own_code Stubs bytes.stubs) (code_join (chosen BesideCode sections) (own UnwindInfo bytes.unwind) ∙ ap₂ (λ (xs ys : List OutSection). xs ++ ys) (beside_code sections) (own_code UnwindInfo bytes.unwind))

later_none : (sections : List OutSection) (bytes : MadeBytes) → code_of (parts_in (later_groups sections bytes)) ≡ []
later_none sections bytes =
    none_code (parts_in (later_groups sections bytes)) (all_from_in (λ (part : Part). is_code part.section ≡ false) (parts_in (later_groups sections bytes)) (λ part h.
    let found : (group : Group) × In group (later_groups sections bytes) × In part group.parts = from_flat (λ (group : Group). group.parts) (later_groups sections bytes) part h in
    all_in (λ (p : Part). is_code p.section ≡ false) found.0.parts part (all_in (λ (group : Group). AllByRecursion (λ (p : Part). is_code p.section ≡ false) group.parts) (later_groups sections bytes) found.0 all found.1) found.2))
  where
    all : AllByRecursion (λ (group : Group). AllByRecursion (λ (part : Part). is_code part.section ≡ false) group.parts) (later_groups sections bytes)
    all =
        later_all (λ (group : Group). AllByRecursion (λ (part : Part). is_code part.section ≡ false) group.parts) (λ (part : Part). is_code part.section ≡ false) sections bytes
        (λ name parts each. each) (λ fixed. refl) (λ fixed. refl) (λ choice section h is code beside. other_choice choice section is code)

pub code_planned : (atoms : List AtomKey → List Atom) (at file lead : ℕ) (sections : List OutSection) (bytes : MadeBytes) → filter is_code (sections_in (groups_sections atoms at file lead (groups_of sections bytes))) ≡ filter is_code sections
code_planned atoms at file lead sections bytes =
    ap (λ (groups : List Group). filter is_code (sections_in (groups_sections atoms at file lead groups))) (groups_split sections bytes)
    ∙ (ap (filter is_code) (groups_planned atoms at file lead (record { name = codes "__TEXT"; parts = text_parts sections bytes } ∷ later_groups sections bytes))
    ∙ (code_join (text_parts sections bytes) (parts_in (later_groups sections bytes))
    ∙ (ap₂ (λ (xs ys : List OutSection). xs ++ ys) (ap code_of (text_split sections bytes) ∙ (code_join (chosen Code sections) (beside_parts sections bytes) ∙ ap₂ (λ (xs ys : List OutSection). xs ++ ys) (chosen_code sections) (beside_none sections bytes))) (later_none sections bytes)
    ∙ (append-nil (filter is_code sections ++ []) ∙ append-nil (filter is_code sections)))))

-- each of them is one of instructions
pub code_sections : (sections : List OutSection) (part : Part) → In part (chosen Code sections) → is_code part.section ≡ true
unfolding chosen is_chosen
code_sections sections part h =
    let found : (section : OutSection) × In section (filter is_code sections) × (with_atoms section ≡ part) = from_map with_atoms (filter is_code sections) part h in
    subst (λ (p : Part). is_code p.section ≡ true) found.2 (from_filter is_code sections found.0 found.1).1
