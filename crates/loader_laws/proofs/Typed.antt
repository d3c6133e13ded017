-- A section of an image that lists an atom is of the type to which the atom's own section goes.
use Rattle.std.proofs.Common.{◌≡◌, ℕ, ◌+◌, ◌==◌, inl, inr, Bool, true, false, List, [], ◌∷◌, ◌++◌, length, map, Some, codes, refl, sym, ap, ◌∙◌, arith, subst}
use Rattle.std.specs.List.{AllByRecursion, filter}
use Rattle.std.specs.Str.{bytes_eq}
use Rattle.std.proofs.lemmas.Bool.{cases_Bool, false≢true, ne_eqb}
use Rattle.std.proofs.lemmas.Option.{slice_get_within}
use Rattle.list_lemmas.proofs.Members.{In, all_from_in, all_in, from_filter, from_map}
use Rattle.mo_types.specs.Destination.{destination_kind, is_instructions}
use Rattle.mo_types.specs.RelocationRules.{section_numbered}
use Rattle.mo_types.specs.Whole.{IsWhole, is_zerofill}
use Rattle.mo_types.specs.declared.atom.Atom.{Atom}
use Rattle.mo_types.specs.declared.key.AtomKey.{AtomKey}
use Rattle.mo_types.specs.declared.loaded.LoadedFile.{LoadedFile}
use Rattle.mo_types.specs.declared.object.Section.{Section}
use Rattle.mo_types.specs.declared.out_section.OutSection.{OutSection}
use Rattle.sect_list.specs.OutSections.{Home, home_in, home_of, out_sections}
use Rattle.sect_place.specs.Arrangement.{MadeBytes, chosen, constant_parts, group_named, groups_of, is_chosen, own, runs, runs_from, section_of, text_parts, with_atoms, writable_parts}
use Rattle.sect_place.specs.Layout.{image_sections, made_bytes, plan_of}
use Rattle.sect_place.specs.Places.{file_bytes, group_end, groups_sections, page_up, part_end, parts_sections, placed_section}
use Rattle.sect_place.specs.declared.layout.Layout.{Layout}
use Rattle.sect_place.specs.declared.layout.PlacedSection.{PlacedSection}
use Rattle.sect_place.specs.declared.part.Choice.{Choice}
use Rattle.sect_place.specs.declared.part.Choice.TheVariants.{Code, BesideCode, Constant, Writable, Elsewhere}
use Rattle.sect_place.specs.declared.part.Group.{Group}
use Rattle.sect_place.specs.declared.part.Made.{Made}
use Rattle.sect_place.specs.declared.part.Made.TheVariants.{Stubs, UnwindInfo, Got, ThreadPtrs}
use Rattle.sect_place.specs.declared.part.Part.{Part}
use Rattle.image_make.proofs.HomeLemmas.{GoesTo, goes}
use Rattle.image_make.specs.Atoms.{atom_of}
use Rattle.image_make.specs.Made.{IsLaid, ImageInputs, kept_of, plan_for, plan_with, sizes_of}
use Rattle.link_files.proofs.Cuts.{at_place}
use Rattle.link_files.proofs.Lists.{some_is}
use Rattle.loader_laws.proofs.Finding.{file_found}
use Rattle.image_laws.proofs.Turned.{appended}
use Rattle.link_files.specs.Linked.{AreOrdered}

-- ---- where they stand

-- a section that lists an atom is one of those with atoms
abbrev IsGiven : List OutSection → OutSection → Type 0
IsGiven sections section = (key : AtomKey) → In key section.atoms → In section sections

abbrev AreGiven : List OutSection → List Part → Type 0
AreGiven sections parts = AllByRecursion (λ (part : Part). IsGiven sections part.section) parts

abbrev GroupsGiven : List OutSection → List Group → Type 0
GroupsGiven sections groups = AllByRecursion (λ (group : Group). AreGiven sections group.parts) groups

parts_joined : (sections : List OutSection) (xs ys : List Part) → AreGiven sections xs → AreGiven sections ys → AreGiven sections (xs ++ ys)
parts_joined sections xs ys p q = appended (λ (part : Part). IsGiven sections part.section) xs ys p q

groups_joined : (sections : List OutSection) (xs ys : List Group) → GroupsGiven sections xs → GroupsGiven sections ys → GroupsGiven sections (xs ++ ys)
groups_joined sections xs ys p q = appended (λ (group : Group). AreGiven sections group.parts) xs ys p q

chosen_given : (choice : Choice) (sections : List OutSection) → AreGiven sections (chosen choice sections)
unfolding chosen
chosen_given choice sections = all_from_in (λ (part : Part). IsGiven sections part.section) (map with_atoms (filter (is_chosen choice) sections)) each
  where
    each : (part : Part) → In part (map with_atoms (filter (is_chosen choice) sections)) → IsGiven sections part.section
    each part h key listed =
        let found = from_map with_atoms (filter (is_chosen choice) sections) part h in
        subst (λ (s : OutSection). In s sections) (ap (λ (p : Part). p.section) found.2) (from_filter (is_chosen choice) sections found.0 found.1).0

own_given : (which : Made) (bytes : ℕ) (sections : List OutSection) → AreGiven sections (own which bytes)
own_given which bytes sections = elim (cases_Bool (bytes == 0)) [ inl none ↦ rw none tt | inr some ↦ rw some (nothing which, tt) ]
  where
    nothing : (which : Made) → IsGiven sections (section_of which)
    nothing Stubs key h = absurd h
    nothing UnwindInfo key h = absurd h
    nothing Got key h = absurd h
    nothing ThreadPtrs key h = absurd h

named_given : (name : List ℕ) (parts : List Part) (sections : List OutSection) → AreGiven sections parts → GroupsGiven sections (group_named name parts)
named_given name [] sections all = tt
named_given name (part ∷ parts) sections all = (all, tt)

runs_given : (name : List ℕ) (run parts : List Part) (sections : List OutSection) → AreGiven sections run → AreGiven sections parts → GroupsGiven sections (runs_from name run parts)
runs_given name run [] sections had all = named_given name run sections had
runs_given name run (part ∷ parts) sections had all = elim (cases_Bool (bytes_eq part.section.segment name)) [
  | inl same ↦ rw same (runs_given name (run ++ part ∷ []) parts sections (parts_joined sections run (part ∷ []) had (all.0, tt)) all.1)
  | inr away ↦ rw away (groups_joined sections (group_named name run) (runs_from part.section.segment (part ∷ []) parts) (named_given name run sections had) (runs_given part.section.segment (part ∷ []) parts sections (all.0, tt) all.1))
]

text_given : (sections : List OutSection) (bytes : MadeBytes) → AreGiven sections (text_parts sections bytes)
unfolding text_parts
text_given sections bytes =
    parts_joined sections (chosen Code sections ++ own Stubs bytes.stubs ++ chosen BesideCode sections) (own UnwindInfo bytes.unwind)
    (parts_joined sections (chosen Code sections ++ own Stubs bytes.stubs) (chosen BesideCode sections)
    (parts_joined sections (chosen Code sections) (own Stubs bytes.stubs) (chosen_given Code sections) (own_given Stubs bytes.stubs sections)) (chosen_given BesideCode sections))
    (own_given UnwindInfo bytes.unwind sections)

all_given : (sections : List OutSection) (bytes : MadeBytes) → GroupsGiven sections (groups_of sections bytes)
unfolding groups_of constant_parts writable_parts runs
all_given sections bytes =
    let text : List Group = record { name = codes "__TEXT"; parts = text_parts sections bytes } ∷ [] in
    let constant : List Group = group_named (codes "__DATA_CONST") (constant_parts sections bytes) in
    let writable : List Group = group_named (codes "__DATA") (writable_parts sections bytes) in
    groups_joined sections (text ++ constant ++ writable) (runs (chosen Elsewhere sections))
    (groups_joined sections (text ++ constant) writable
    (groups_joined sections text constant (text_given sections bytes, tt)
    (named_given (codes "__DATA_CONST") (constant_parts sections bytes) sections (parts_joined sections (own Got bytes.got) (chosen Constant sections) (own_given Got bytes.got sections) (chosen_given Constant sections))))
    (named_given (codes "__DATA") (writable_parts sections bytes) sections (parts_joined sections (own ThreadPtrs bytes.tlv) (chosen Writable sections) (own_given ThreadPtrs bytes.tlv sections) (chosen_given Writable sections))))
    (runs_given [] [] (chosen Elsewhere sections) sections tt (chosen_given Elsewhere sections))

abbrev PlacedGiven : List OutSection → List PlacedSection → Type 0
PlacedGiven sections placed = AllByRecursion (λ (p : PlacedSection). IsGiven sections p.section) placed

parts_placed : (atoms : List AtomKey → List Atom) (start file at : ℕ) (parts : List Part) (sections : List OutSection) → AreGiven sections parts → PlacedGiven sections (parts_sections atoms start file at parts)
unfolding parts_sections placed_section
parts_placed atoms start file at [] sections all = tt
parts_placed atoms start file at (part ∷ parts) sections all = (all.0, parts_placed atoms start file (part_end atoms at part) parts sections all.1)

groups_placed : (atoms : List AtomKey → List Atom) (at file lead : ℕ) (groups : List Group) (sections : List OutSection) → GroupsGiven sections groups → PlacedGiven sections (groups_sections atoms at file lead groups)
unfolding groups_sections
groups_placed atoms at file lead [] sections all = tt
groups_placed atoms at file lead (group ∷ groups) sections all =
    let next = page_up (group_end atoms at lead group) in
    let past = file + file_bytes atoms at lead group in
    appended (λ (p : PlacedSection). IsGiven sections p.section) (parts_sections atoms at file (at + lead) group.parts) (groups_sections atoms next past 0 groups)
    (parts_placed atoms at file (at + lead) group.parts sections all.0) (groups_placed atoms next past 0 groups sections all.1)

pub layout_goes : (m : ImageInputs) (layout : Layout) (section : PlacedSection) (key : AtomKey) → IsLaid m layout → In section layout.sections → In key section.section.atoms → GoesTo m.files key section.section.segment section.section.kind
unfolding plan_with plan_of image_sections
layout_goes m layout section key laid among listed =
    let atoms = map atom_of (kept_of m) in
    let sections = out_sections m.files atoms in
    let plan = plan_for m in
    let there : In section (image_sections plan) = subst (λ (ss : List PlacedSection). In section ss) laid.layout_of.sections among in
    let given = all_in (λ (p : PlacedSection). IsGiven sections p.section) (image_sections plan) section (groups_placed plan.atoms plan.base 0 plan.lead plan.groups sections (all_given sections (made_bytes m.slots (sizes_of m.command m.libs (length m.info))))) there in
    goes m.files atoms section.section key (given key listed) listed

-- ---- the type

kept_type : (section : Section) → is_zerofill (destination_kind section) ≡ true → is_zerofill section.kind ≡ true
unfolding destination_kind
kept_type section e = elim (cases_Bool (is_instructions section)) [
  | inl code ↦ absurd (false≢true (rw code at e))
  | inr other ↦ rw other at e
]

-- an atom that a section without bytes in the file lists is of such a section
pub zerofill_there : (m : ImageInputs) (layout : Layout) (placed : PlacedSection) (file : LoadedFile) (key : AtomKey) (section : Section) → IsLaid m layout → AreOrdered m.files → In file m.files → IsWhole file.object → file.id ≡ key.file → section_numbered file.object.sections key.section ≡ Some section
    → In placed layout.sections → In key placed.section.atoms → is_zerofill placed.section.kind ≡ true → is_zerofill section.kind ≡ true
unfolding home_of home_in
zerofill_there m layout placed file key section laid ordered h whole same numbered among listed zeros =
    let to = layout_goes m layout placed key laid among listed in
    let place = at_place file.object.sections key.section section numbered in
    let within = slice_get_within file.object.sections place.0 section place.2 in
    let few = whole.few_sections in
    let number : 1 + place.0 ≡ key.section = place.1 in
    let uncommon : (key.section == 256) ≡ false = ne_eqb key.section 256 (λ e. omega (arith, e, number, within, few)) in
    let own : home_of m.files key.file key.section ≡ Some (home_in section) = rw (uncommon, file_found m.files file key.file ordered h same, numbered) refl in
    let home : to.home ≡ home_in section = some_is to.home (home_in section) (sym to.of_key ∙ own) in
    kept_type section (ap is_zerofill (ap (λ (one : Home). one.to.kind) (sym home) ∙ to.to) ∙ zeros)
