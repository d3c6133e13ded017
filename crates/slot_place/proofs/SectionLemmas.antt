-- The linker's own sections of a layout, by what was planned.
use Rattle.std.proofs.Common.{◌≡◌, ◌≢◌, ℕ, ◌+◌, ◌*◌, ◌==◌, ◌&&◌, ◌^◌, ◌%◌, ◌≤◌, if◌then◌else◌, ◌⊎◌, ◌++◌, Bool, true, false, List, [], ◌∷◌, length, codes, refl, sym, ap, ap₂, subst, ◌∙◌, inl, inr, arith, append_assoc, append-nil, Option, Some, None, All}
use Rattle.std.specs.Prelude.{MatchOption}
use Rattle.std.specs.List.{flat_map}
use Rattle.std.specs.Str.{bytes_eq}
use Rattle.std.proofs.lemmas.Bool.{cases_Bool, false≢true}
use Rattle.std.proofs.lemmas.Grind.{flat_map-append}
use Rattle.list_lemmas.proofs.Members.{In, all_in, find_none, find_some, from_filter, from_map, in_either, in_left, in_right}
use Rattle.std.proofs.lemmas.List.Elements.{recursion_from_All}
use Rattle.mo_types.specs.declared.atom.Atom.{Atom}
use Rattle.mo_types.specs.declared.key.AtomKey.{AtomKey}
use Rattle.mo_types.specs.declared.out_section.OutSection.{OutSection}
use Rattle.slot_plan.specs.declared.list.Slots.{Slots}
use Rattle.slot_plan.specs.declared.need.Way.{Way}
use Rattle.slot_plan.specs.declared.need.Way.TheVariants.{Got, Stub, Tlv}
use Rattle.sect_place.specs.Arrangement.{MadeBytes, chosen, constant_parts, group_named, groups_of, own, runs, runs_from, section_of, text_parts, with_atoms, writable_parts}
use Rattle.sect_place.specs.Layout.{made_bytes}
use Rattle.sect_place.specs.Places.{file_bytes, group_end, groups_end, groups_sections, page_up, part_end, parts_end, parts_sections, placed_section}
use Rattle.sect_place.specs.declared.layout.PlacedSection.{PlacedSection}
use Rattle.sect_place.specs.declared.part.Choice.{Choice}
use Rattle.sect_place.specs.declared.part.Choice.TheVariants as choice
use Rattle.sect_place.specs.declared.part.Group.{Group}
use Rattle.sect_place.specs.declared.part.Made.{Made}
use Rattle.sect_place.specs.declared.part.Made.TheVariants as made
use Rattle.sect_place.specs.declared.part.Part.{Part}
use Rattle.sect_place.specs.declared.size.PlaceSizes.{PlaceSizes}
use Rattle.tlv_plan.specs.Template.{end_of}
use Rattle.sect_place.proofs.Spread.{group_bounds, part_bounds, parts_after}
use Rattle.slot_place.specs.Places.{HasOwnSection, goals_for, is_made_as, is_own, made_for, own_section, unit_of}

-- ---- the parts of a layout

abbrev parts_in : List Group → List Part
parts_in groups = flat_map (λ (group : Group). group.parts) groups

named_parts : (name : List ℕ) (parts : List Part) → parts_in (group_named name parts) ≡ parts
named_parts name [] = refl
named_parts name (part ∷ parts) = append-nil (part ∷ parts)

parts_join : (a b : List Group) → parts_in (a ++ b) ≡ parts_in a ++ parts_in b
parts_join a b = flat_map-append (λ (group : Group). group.parts) a b

runs_parts : (name : List ℕ) (run parts : List Part) → parts_in (runs_from name run parts) ≡ run ++ parts
runs_parts name run [] = named_parts name run ∙ sym (append-nil run)
runs_parts name run (part ∷ parts) = elim (cases_Bool (bytes_eq part.section.segment name)) [
  | inl same ↦ rw same (runs_parts name (run ++ part ∷ []) parts ∙ append_assoc run (part ∷ []) parts)
  | inr away ↦ rw away (
      parts_join (group_named name run) (runs_from part.section.segment (part ∷ []) parts)
      ∙ ap₂ (λ (a b : List Part). a ++ b) (named_parts name run) (runs_parts part.section.segment (part ∷ []) parts)
      )
]

all_parts : (sections : List OutSection) (bytes : MadeBytes) → parts_in (groups_of sections bytes) ≡ ((text_parts sections bytes ++ constant_parts sections bytes) ++ writable_parts sections bytes) ++ chosen choice.Elsewhere sections
unfolding groups_of runs
all_parts sections bytes =
    parts_join ((text ++ constant) ++ writable) elsewhere
    ∙ ap₂ (λ (a b : List Part). a ++ b)
    (parts_join (text ++ constant) writable
    ∙ ap₂ (λ (a b : List Part). a ++ b)
    (parts_join text constant
    ∙ ap₂ (λ (a b : List Part). a ++ b) (append-nil (text_parts sections bytes)) (named_parts (codes "__DATA_CONST") (constant_parts sections bytes)))
    (named_parts (codes "__DATA") (writable_parts sections bytes)))
    (runs_parts [] [] (chosen choice.Elsewhere sections))
  where
    text : List Group
    text = record { name = codes "__TEXT"; parts = text_parts sections bytes } ∷ []

    constant : List Group
    constant = group_named (codes "__DATA_CONST") (constant_parts sections bytes)

    writable : List Group
    writable = group_named (codes "__DATA") (writable_parts sections bytes)

    elsewhere : List Group
    elsewhere = runs_from [] [] (chosen choice.Elsewhere sections)

-- ---- parts with atoms, and those of the linker's own

abbrev bytes_for : MadeBytes → Made → ℕ
bytes_for bytes made.Stubs = bytes.stubs
bytes_for bytes made.UnwindInfo = bytes.unwind
bytes_for bytes made.Got = bytes.got
bytes_for bytes made.ThreadPtrs = bytes.tlv

abbrev own_part : MadeBytes → Made → Part
own_part bytes which = record { section = section_of which; fixed = bytes_for bytes which }

-- it has atoms, or it is one of the linker's own
abbrev Known : List OutSection → MadeBytes → Part → Type 0
Known sections bytes part = In part.section sections ⊎ ((which : Made) × (part ≡ own_part bytes which) × (bytes_for bytes which ≢ 0))

own_known : (sections : List OutSection) (bytes : MadeBytes) (which : Made) (part : Part) → In part (own which (bytes_for bytes which)) → Known sections bytes part
own_known sections bytes which part h = by (cases_Bool (bytes_for bytes which == 0)) h
  where
    by : (bytes_for bytes which == 0 ≡ true) ⊎ (bytes_for bytes which == 0 ≡ false) → In part (own which (bytes_for bytes which)) → Known sections bytes part
    by (inl none) there = absurd (subst (λ (b : Bool). In part (if b then [] else own_part bytes which ∷ [])) none there)
    by (inr some) there = elim (subst (λ (b : Bool). In part (if b then [] else own_part bytes which ∷ [])) some there) [ inl is ↦ inr (which, sym is, λ (e : bytes_for bytes which ≡ 0). grind arith) | inr none ↦ absurd none ]

chosen_known : (sections : List OutSection) (bytes : MadeBytes) (which : Choice) (part : Part) → In part (chosen which sections) → Known sections bytes part
unfolding chosen
chosen_known sections bytes which part h =
    let from = from_map with_atoms _ part h in
    let kept = from_filter _ sections from.0 from.1 in
    inl (subst (λ (p : Part). In p.section sections) from.2 kept.0)

either : {X : Type 0} (xs ys : List Part) (part : Part) → In part (xs ++ ys) → (In part xs → X) → (In part ys → X) → X
either xs ys part h first second = elim (in_either xs ys part h) [ inl a ↦ first a | inr b ↦ second b ]

pub known : (sections : List OutSection) (bytes : MadeBytes) (part : Part) → In part (parts_in (groups_of sections bytes)) → Known sections bytes part
unfolding text_parts constant_parts writable_parts
known sections bytes part h =
    either _ (chosen choice.Elsewhere sections) part (subst (In part) (all_parts sections bytes) h)
    (λ a. either _ (writable_parts sections bytes) part a
    (λ b. either (text_parts sections bytes) (constant_parts sections bytes) part b
    (λ text. either _ _ part text
    (λ c. either _ _ part c
    (λ d. either _ _ part d (chosen_known sections bytes choice.Code part) (own_known sections bytes made.Stubs part))
    (chosen_known sections bytes choice.BesideCode part))
    (own_known sections bytes made.UnwindInfo part))
    (λ constant. either _ _ part constant (own_known sections bytes made.Got part) (chosen_known sections bytes choice.Constant part)))
    (λ writable. either _ _ part writable (own_known sections bytes made.ThreadPtrs part) (chosen_known sections bytes choice.Writable part)))
    (chosen_known sections bytes choice.Elsewhere part)

own_there : (which : Made) (bytes : MadeBytes) → bytes_for bytes which ≢ 0 → In (own_part bytes which) (own which (bytes_for bytes which))
own_there which bytes some = elim (cases_Bool (bytes_for bytes which == 0)) [
  | inl none ↦ absurd (some (grind arith))
  | inr more ↦ rw more (inl refl)
]

pub own_in : (sections : List OutSection) (bytes : MadeBytes) (way : Way) → bytes_for bytes (made_for way) ≢ 0 → In (own_part bytes (made_for way)) (parts_in (groups_of sections bytes))
unfolding text_parts constant_parts writable_parts
own_in sections bytes Stub some =
    subst (In (own_part bytes made.Stubs)) (sym (all_parts sections bytes))
    (in_left _ _ _ (in_left _ _ _ (in_left (text_parts sections bytes) _ _ (in_left _ _ _ (in_left _ _ _ (in_right (chosen choice.Code sections) _ _ (own_there made.Stubs bytes some)))))))
own_in sections bytes Got some =
    subst (In (own_part bytes made.Got)) (sym (all_parts sections bytes))
    (in_left _ _ _ (in_left _ _ _ (in_right (text_parts sections bytes) _ _ (in_left _ _ _ (own_there made.Got bytes some)))))
own_in sections bytes Tlv some =
    subst (In (own_part bytes made.ThreadPtrs)) (sym (all_parts sections bytes))
    (in_left ((text_parts sections bytes ++ constant_parts sections bytes) ++ writable_parts sections bytes) (chosen choice.Elsewhere sections) (own_part bytes made.ThreadPtrs)
    (in_right (text_parts sections bytes ++ constant_parts sections bytes) (writable_parts sections bytes) (own_part bytes made.ThreadPtrs)
    (in_left (own made.ThreadPtrs bytes.tlv) (chosen choice.Writable sections) (own_part bytes made.ThreadPtrs) (own_there made.ThreadPtrs bytes some))))

-- ---- the sections that were placed, by the parts

-- a section that was placed, between two addresses
pub record IsPlacedPart (atoms : List AtomKey → List Atom) (first last : ℕ) (parts : List Part) (p : PlacedSection) : Type 0 where
  pub part : Part
  pub planned : In part parts
  pub same : p.section ≡ part.section
  pub begins : first ≤ p.address
  pub ends : p.address + p.size ≤ last
  pub sized : atoms part.section.atoms ≡ [] → p.size ≡ part.fixed

wider : (atoms : List AtomKey → List Atom) (first last first' last' : ℕ) (parts more : List Part) (p : PlacedSection) → first' ≤ first → last ≤ last' → ((part : Part) → In part parts → In part more) → IsPlacedPart atoms first last parts p → IsPlacedPart atoms first' last' more p
wider atoms first last first' last' parts more p low high within is = record {
  part = is.part;
  planned = within is.part is.planned;
  same = is.same;
  begins = omega (arith, low, is.begins);
  ends = omega (arith, high, is.ends);
  sized = is.sized;
}

pub placed_parts : (atoms : List AtomKey → List Atom) (start file at : ℕ) (parts : List Part) (p : PlacedSection) → In p (parts_sections atoms start file at parts) → IsPlacedPart atoms at (parts_end atoms at parts) parts p
unfolding parts_sections placed_section parts_end part_end end_of
placed_parts atoms start file at [] p h = absurd h
placed_parts atoms start file at (part ∷ parts) p (inl is) =
    let bounds = part_bounds atoms at part in
    let after = parts_after atoms (part_end atoms at part) parts in
    subst (IsPlacedPart atoms at (parts_end atoms (part_end atoms at part) parts) (part ∷ parts)) is (record {
      part = part;
      planned = inl refl;
      same = refl;
      begins = bounds.0;
      ends = omega (arith, bounds.1, after);
      sized = λ none. rw none (omega arith);
    })
placed_parts atoms start file at (part ∷ parts) p (inr h) =
    let bounds = part_bounds atoms at part in
    wider atoms (part_end atoms at part) (parts_end atoms (part_end atoms at part) parts) at (parts_end atoms (part_end atoms at part) parts) parts (part ∷ parts) p (omega (arith, bounds.0, bounds.1)) (omega arith) (λ q there. inr there)
    (placed_parts atoms start file (part_end atoms at part) parts p h)

groups_after : (atoms : List AtomKey → List Atom) (at lead : ℕ) (groups : List Group) → at ≤ groups_end atoms at lead groups
unfolding groups_end
groups_after atoms at lead [] = omega arith
groups_after atoms at lead (group ∷ groups) =
    let bounds = group_bounds atoms at lead group.parts in
    let rest = groups_after atoms (page_up (group_end atoms at lead group)) 0 groups in
    omega (arith, bounds.0, bounds.3, rest)

pub placed_groups : (atoms : List AtomKey → List Atom) (at file lead : ℕ) (groups : List Group) (p : PlacedSection) → In p (groups_sections atoms at file lead groups) → IsPlacedPart atoms at (groups_end atoms at lead groups) (parts_in groups) p
unfolding groups_sections groups_end
placed_groups atoms at file lead [] p h = absurd h
placed_groups atoms at file lead (group ∷ groups) p h =
    let bounds = group_bounds atoms at lead group.parts in
    let after = groups_after atoms next 0 groups in
    elim (in_either here later p h) [
      | inl first ↦
          wider atoms (at + lead) (parts_end atoms (at + lead) group.parts) at (groups_end atoms next 0 groups) group.parts (group.parts ++ parts_in groups) p (omega arith) (omega (arith, bounds.3, after)) (λ q there. in_left group.parts (parts_in groups) q there)
          (placed_parts atoms at file (at + lead) group.parts p first)
      | inr rest ↦
          wider atoms next (groups_end atoms next 0 groups) at (groups_end atoms next 0 groups) (parts_in groups) (group.parts ++ parts_in groups) p (omega (arith, bounds.0, bounds.3)) (omega arith) (λ q there. in_right group.parts (parts_in groups) q there)
          (placed_groups atoms next (file + file_bytes atoms at lead group) 0 groups p rest)
    ]
  where
    next : ℕ
    next = page_up (group_end atoms at lead group)

    here : List PlacedSection
    here = parts_sections atoms at file (at + lead) group.parts

    later : List PlacedSection
    later = groups_sections atoms next (file + file_bytes atoms at lead group) 0 groups

-- each part has a section

abbrev Stands : List PlacedSection → Part → Type 0
Stands sections part = (p : PlacedSection) × In p sections × (p.section ≡ part.section)

part_stands : (atoms : List AtomKey → List Atom) (start file at : ℕ) (parts : List Part) (part : Part) → In part parts → Stands (parts_sections atoms start file at parts) part
unfolding parts_sections placed_section
part_stands atoms start file at [] part h = absurd h
part_stands atoms start file at (first ∷ parts) part (inl is) = (placed_section atoms start file at first, inl refl, ap (λ (q : Part). q.section) is)
part_stands atoms start file at (first ∷ parts) part (inr h) =
    let rest = part_stands atoms start file (part_end atoms at first) parts part h in
    (rest.0, inr rest.1, rest.2)

group_stands : (atoms : List AtomKey → List Atom) (at file lead : ℕ) (groups : List Group) (part : Part) → In part (parts_in groups) → Stands (groups_sections atoms at file lead groups) part
unfolding groups_sections
group_stands atoms at file lead [] part h = absurd h
group_stands atoms at file lead (group ∷ groups) part h = elim (in_either group.parts (parts_in groups) part h) [
  | inl first ↦
      let found = part_stands atoms at file (at + lead) group.parts part first in
      (found.0, in_left here later found.0 found.1, found.2)
  | inr rest ↦
      let found = group_stands atoms next (file + file_bytes atoms at lead group) 0 groups part rest in
      (found.0, in_right here later found.0 found.1, found.2)
]
  where
    next : ℕ
    next = page_up (group_end atoms at lead group)

    here : List PlacedSection
    here = parts_sections atoms at file (at + lead) group.parts

    later : List PlacedSection
    later = groups_sections atoms next (file + file_bytes atoms at lead group) 0 groups

-- ---- the linker's own sections among them

itself : (way : Way) → is_made_as (section_of (made_for way)) (section_of (made_for way)) ≡ true
itself Got = refl
itself Stub = refl
itself Tlv = refl

-- none of the linker's own sections is like another one
alone : (way : Way) (which : Made) → is_made_as (section_of (made_for way)) (section_of which) ≡ true → which ≡ made_for way
alone Got made.Stubs e = absurd (false≢true e)
alone Got made.UnwindInfo e = absurd (false≢true e)
alone Got made.Got e = refl
alone Got made.ThreadPtrs e = absurd (false≢true e)
alone Stub made.Stubs e = refl
alone Stub made.UnwindInfo e = absurd (false≢true e)
alone Stub made.Got e = absurd (false≢true e)
alone Stub made.ThreadPtrs e = absurd (false≢true e)
alone Tlv made.Stubs e = absurd (false≢true e)
alone Tlv made.UnwindInfo e = absurd (false≢true e)
alone Tlv made.Got e = absurd (false≢true e)
alone Tlv made.ThreadPtrs e = refl

last_test : (a b : Bool) → a && b ≡ true → b ≡ true
last_test true b e = e
last_test false b e = absurd (false≢true e)

-- a section of the linker's own has no atoms
no_atoms : (way : Way) (section : OutSection) → is_made_as (section_of (made_for way)) section ≡ true → section.atoms ≡ []
no_atoms way section e = by section.atoms (last_test _ (length section.atoms == 0) e)
  where
    by : (keys : List AtomKey) → length keys == 0 ≡ true → keys ≡ []
    by [] e = refl
    by (key ∷ keys) e = absurd (grind arith)

own_bytes : (slots : Slots) (sizes : PlaceSizes) (way : Way) → bytes_for (made_bytes slots sizes) (made_for way) ≡ unit_of way * length (goals_for slots way)
own_bytes slots sizes Got = refl
own_bytes slots sizes Stub = refl
own_bytes slots sizes Tlv = refl

has_unit : (way : Way) (n : ℕ) → unit_of way * n ≡ 0 → n ≡ 0
has_unit Got n e = omega (arith, e)
has_unit Stub n e = omega (arith, e)
has_unit Tlv n e = omega (arith, e)

zero_of : (way : Way) → unit_of way * 0 ≡ 0
zero_of Got = refl
zero_of Stub = refl
zero_of Tlv = refl

is_empty : {X : Type 0} (xs : List X) → length xs ≡ 0 → xs ≡ []
is_empty [] e = refl
is_empty (x ∷ xs) e = absurd (omega (arith, e))

no_length : {X : Type 0} (xs : List X) → xs ≡ [] → length xs ≡ 0
no_length xs e = rw e refl

-- the own section of a way, and where it is
pub record IsOwnOf (first last size : ℕ) (way : Way) (p : PlacedSection) : Type 0 where
  pub is : p.section ≡ section_of (made_for way)
  pub begins : first ≤ p.address
  pub ends : p.address + p.size ≤ last
  pub sized : p.size ≡ size
  pub some : size ≢ 0

-- what was planned of a layout
pub record IsPlanned (atoms : List AtomKey → List Atom) (at file lead : ℕ) (sections : List OutSection) (slots : Slots) (sizes : PlaceSizes) : Type 0 where
  pub none : atoms [] ≡ []
  pub have_atoms : All (λ (section : OutSection). section.atoms ≢ []) sections

abbrev pub planned : (List AtomKey → List Atom) → ℕ → ℕ → ℕ → List OutSection → Slots → PlaceSizes → List PlacedSection
planned atoms at file lead sections slots sizes = groups_sections atoms at file lead (groups_of sections (made_bytes slots sizes))

abbrev pub last_of : (List AtomKey → List Atom) → ℕ → ℕ → List OutSection → Slots → PlaceSizes → ℕ
last_of atoms at lead sections slots sizes = groups_end atoms at lead (groups_of sections (made_bytes slots sizes))

pub own_found : (atoms : List AtomKey → List Atom) (at file lead : ℕ) (sections : List OutSection) (slots : Slots) (sizes : PlaceSizes) (way : Way) (p : PlacedSection) → IsPlanned atoms at file lead sections slots sizes → own_section (planned atoms at file lead sections slots sizes) way ≡ Some p → IsOwnOf at (last_of atoms at lead sections slots sizes) (unit_of way * length (goals_for slots way)) way p
unfolding own_section
own_found atoms at file lead sections slots sizes way p plan e =
    let found = find_some (is_own way) (planned atoms at file lead sections slots sizes) p e in
    let placed = placed_groups atoms at file lead (groups_of sections bytes) p found.0 in
    by placed (subst (λ (section : OutSection). is_made_as (section_of (made_for way)) section ≡ true) placed.same found.1) (known sections bytes placed.part placed.planned)
  where
    bytes : MadeBytes
    bytes = made_bytes slots sizes

    last : ℕ
    last = last_of atoms at lead sections slots sizes

    size : ℕ
    size = unit_of way * length (goals_for slots way)

    by : (placed : IsPlacedPart atoms at last (parts_in (groups_of sections bytes)) p) → is_made_as (section_of (made_for way)) placed.part.section ≡ true → Known sections bytes placed.part → IsOwnOf at last size way p
    by placed like (inl there) = absurd (all_in (λ (section : OutSection). section.atoms ≢ []) sections placed.part.section (recursion_from_All _ sections plan.have_atoms) there (no_atoms way placed.part.section like))
    by placed like (inr (which, is, more)) =
        let one : which ≡ made_for way = alone way which (subst (λ (q : Part). is_made_as (section_of (made_for way)) q.section ≡ true) is like) in
        let long : bytes_for bytes which ≡ size = ap (bytes_for bytes) one ∙ own_bytes slots sizes way in
        let empty : placed.part.section.atoms ≡ [] = no_atoms way placed.part.section like in
        let fixed : placed.part.fixed ≡ bytes_for bytes which = ap (λ (q : Part). q.fixed) is in
        record {
          is = placed.same ∙ ap (λ (q : Part). q.section) is ∙ ap section_of one;
          begins = placed.begins;
          ends = placed.ends;
          sized = placed.sized (ap atoms empty ∙ plan.none) ∙ fixed ∙ long;
          some = λ zero. more (long ∙ zero);
        }

pub own_missing : (atoms : List AtomKey → List Atom) (at file lead : ℕ) (sections : List OutSection) (slots : Slots) (sizes : PlaceSizes) (way : Way) → own_section (planned atoms at file lead sections slots sizes) way ≡ None → goals_for slots way ≡ []
unfolding own_section
own_missing atoms at file lead sections slots sizes way e = is_empty (goals_for slots way) (has_unit way (length (goals_for slots way)) by)
  where
    bytes : MadeBytes
    bytes = made_bytes slots sizes

    there : bytes_for bytes (made_for way) ≢ 0 → ⊥
    there more =
        let stands = group_stands atoms at file lead (groups_of sections bytes) (own_part bytes (made_for way)) (own_in sections bytes way more) in
        let away : is_own way stands.0 ≡ false = find_none (is_own way) (planned atoms at file lead sections slots sizes) stands.0 e stands.1 in
        false≢true (sym away ∙ subst (λ (section : OutSection). is_made_as (section_of (made_for way)) section ≡ true) (sym stands.2) (itself way))

    by : unit_of way * length (goals_for slots way) ≡ 0
    by = elim (cases_Bool (bytes_for bytes (made_for way) == 0)) [
      | inl nothing ↦ let none : bytes_for bytes (made_for way) ≡ 0 = grind arith in sym (own_bytes slots sizes way) ∙ none
      | inr more ↦ absurd (there (λ (z : bytes_for bytes (made_for way) ≡ 0). grind arith))
    ]

pub has_own : (atoms : List AtomKey → List Atom) (at file lead : ℕ) (sections : List OutSection) (slots : Slots) (sizes : PlaceSizes) (way : Way) → IsPlanned atoms at file lead sections slots sizes → HasOwnSection (planned atoms at file lead sections slots sizes) slots way
has_own atoms at file lead sections slots sizes way plan = by (own_section (planned atoms at file lead sections slots sizes) way) refl
  where
    by : (o : Option PlacedSection) → own_section (planned atoms at file lead sections slots sizes) way ≡ o → MatchOption o (goals_for slots way ≡ []) (λ placed. (goals_for slots way ≢ []) × (placed.size ≡ unit_of way * length (goals_for slots way)))
    by None e = own_missing atoms at file lead sections slots sizes way e
    by (Some p) e =
        let own = own_found atoms at file lead sections slots sizes way p plan e in
        (λ (none : goals_for slots way ≡ []). own.some (rw none (zero_of way)), own.sized)

-- ---- where they are

abbrev Aligned : PlacedSection → Type 0
Aligned p = (count : ℕ) × (p.address ≡ count * 2 ^ p.section.align)

pub got_whole : (p : PlacedSection) → p.section ≡ section_of made.Got → Aligned p → p.address % 8 ≡ 0
got_whole p is (count, e) =
    let align : p.section.align ≡ 3 = ap (λ (section : OutSection). section.align) is in
    let eight : p.address ≡ count * 8 = e ∙ ap (λ (n : ℕ). count * 2 ^ n) align in
    omega (arith, eight)
