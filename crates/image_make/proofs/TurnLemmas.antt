-- Where the linker's own sections stand in the file: stubs before `__unwind_info`, this before slots, and these before those of
-- thread-local variables.
use Rattle.std.proofs.Common.{◌≡◌, ◌≢◌, ℕ, ◌+◌, ◌<◌, ◌≤◌, ◌⊎◌, ◌++◌, ◌==◌, Bool, true, false, not, codes, List, [], ◌∷◌, length, map, Some, refl, sym, ap, ◌∙◌, subst, inl, inr, arith, append_assoc, if◌then◌else◌, eq-eqb}
use Rattle.std.specs.List.{filter, flat_map}
use Rattle.std.specs.Str.{bytes_eq}
use Rattle.std.proofs.lemmas.Bool.{false≢true}
use Rattle.std.proofs.lemmas.List.Elements.{All-contains}
use Rattle.list_lemmas.proofs.Members.{Contains_from_in, In, from_filter, from_map, in_either, in_filter, in_left, in_right}
use Rattle.mo_types.specs.Whole.{is_zerofill}
use Rattle.mo_types.specs.declared.atom.Atom.{Atom}
use Rattle.mo_types.specs.declared.key.AtomKey.{AtomKey}
use Rattle.mo_types.specs.declared.out_section.OutSection.{OutSection}
use Rattle.sect_list.specs.OutSections.{out_sections}
use Rattle.sect_place.specs.Arrangement.{MadeBytes, chosen, constant_parts, group_named, groups_of, own, runs, runs_from, section_of, text_parts, with_atoms, writable_parts}
use Rattle.sect_place.specs.Layout.{image_sections, made_bytes, plan_of}
use Rattle.sect_place.specs.Places.{file_bytes, group_end, groups_file, groups_sections, page_up, part_end, parts_sections, placed_section}
use Rattle.sect_place.specs.declared.layout.Layout.{Layout}
use Rattle.sect_place.specs.declared.layout.PlacedSection.{PlacedSection}
use Rattle.sect_place.specs.declared.part.Choice.{Choice}
use Rattle.sect_place.specs.declared.part.Choice.TheVariants as choice
use Rattle.sect_place.specs.declared.part.Group.{Group}
use Rattle.sect_place.specs.declared.part.Made.{Made}
use Rattle.sect_place.specs.declared.part.Made.TheVariants as made
use Rattle.sect_place.specs.declared.part.Part.{Part}
use Rattle.slot_plan.specs.declared.need.Way.{Way}
use Rattle.slot_place.specs.Places.{HaveAtoms, made_for, own_section}
use Rattle.slot_place.proofs.SectionLemmas.{placed_groups, placed_parts}
use Rattle.image_make.specs.Atoms.{AreLow, atom_of}
use Rattle.image_make.specs.Made.{IsLaid, ImageInputs, kept_of, plan_for, plan_with, sizes_of}
use Rattle.image_make.specs.Parts.{linkedit_offset}
use Rattle.image_make.specs.Rows.{has_bytes}
use Rattle.image_make.proofs.LaidLemmas.{low_atoms}
use Rattle.image_make.proofs.OwnLemmas.{have_atoms, laid_is}
use Rattle.image_make.proofs.RankLemmas.{all_stored}
use Rattle.image_make.proofs.RoomLemmas.{layout_end}
use Rattle.image_make.proofs.StoredLemmas.{FileChain, StandsBefore, chain_turn, chain_within, filter_join, first_chain}

-- ---- the parts of segments

abbrev parts_in : List Group → List Part
parts_in groups = flat_map (λ (group : Group). group.parts) groups

named_parts : (name : List ℕ) (parts : List Part) (part : Part) → In part (parts_in (group_named name parts)) → In part parts
named_parts name [] part h = h
named_parts name (first ∷ parts) part h = elim (in_either (first ∷ parts) [] part h) [ inl a ↦ a | inr none ↦ absurd none ]

joined_parts : (a b : List Group) (part : Part) → In part (parts_in (a ++ b)) → In part (parts_in a) ⊎ In part (parts_in b)
joined_parts [] b part h = inr h
joined_parts (group ∷ a) b part h = elim (in_either group.parts (parts_in (a ++ b)) part h) [
  | inl here ↦ inl (in_left group.parts (parts_in a) part here)
  | inr later ↦ elim (joined_parts a b part later) [ inl x ↦ inl (in_right group.parts (parts_in a) part x) | inr y ↦ inr y ]
]

runs_parts : (name : List ℕ) (run parts : List Part) (part : Part) → In part (parts_in (runs_from name run parts)) → In part run ⊎ In part parts
runs_parts name run [] part h = inl (named_parts name run part h)
runs_parts name run (first ∷ parts) part h = by (bytes_eq first.section.segment name) h (runs_parts name (run ++ first ∷ []) parts part) (runs_parts first.section.segment (first ∷ []) parts part)
  where
    here : In part (run ++ first ∷ []) ⊎ In part parts → In part run ⊎ In part (first ∷ parts)
    here (inl there) = elim (in_either run (first ∷ []) part there) [ inl a ↦ inl a | inr (inl e) ↦ inr (inl e) | inr (inr none) ↦ absurd none ]
    here (inr later) = inr (inr later)

    next : In part (first ∷ []) ⊎ In part parts → In part run ⊎ In part (first ∷ parts)
    next (inl (inl e)) = inr (inl e)
    next (inl (inr none)) = absurd none
    next (inr later) = inr (inr later)

    by : (b : Bool) → In part (parts_in (if b then runs_from name (run ++ first ∷ []) parts else group_named name run ++ runs_from first.section.segment (first ∷ []) parts))
        → (In part (parts_in (runs_from name (run ++ first ∷ []) parts)) → In part (run ++ first ∷ []) ⊎ In part parts)
        → (In part (parts_in (runs_from first.section.segment (first ∷ []) parts)) → In part (first ∷ []) ⊎ In part parts)
        → In part run ⊎ In part (first ∷ parts)
    by true there same away = here (same there)
    by false there same away = elim (joined_parts (group_named name run) (runs_from first.section.segment (first ∷ []) parts) part there) [
      | inl a ↦ inl (named_parts name run part a)
      | inr b ↦ next (away b)
    ]

-- a part without atoms is of one of the linker's own sections
abbrev IsOwnOnly : List Made → Part → Type 0
IsOwnOnly whichs part = part.section.atoms ≡ [] → (which : Made) × In which whichs × (part.section ≡ section_of which)

chosen_only : (sections : List OutSection) (which : Choice) (whichs : List Made) (part : Part) → HaveAtoms sections → In part (chosen which sections) → IsOwnOnly whichs part
unfolding chosen
chosen_only sections which whichs part have h none =
    let from = from_map with_atoms _ part h in
    let kept = from_filter _ sections from.0 from.1 in
    absurd (All-contains (λ (section : OutSection). section.atoms ≢ []) sections from.0 have (Contains_from_in sections from.0 kept.0) (ap (λ (p : Part). p.section.atoms) from.2 ∙ none))

own_only : (which : Made) (bytes : ℕ) (whichs : List Made) (part : Part) → In which whichs → In part (own which bytes) → IsOwnOnly whichs part
own_only which bytes whichs part among h none = by (bytes == 0) h
  where
    by : (b : Bool) → In part (if b then [] else record { section = section_of which; fixed = bytes } ∷ []) → (one : Made) × In one whichs × (part.section ≡ section_of one)
    by true there = absurd there
    by false (inl e) = (which, among, ap (λ (p : Part). p.section) (sym e))
    by false (inr there) = absurd there

constant_only : (sections : List OutSection) (bytes : MadeBytes) (part : Part) → HaveAtoms sections → In part (constant_parts sections bytes) → IsOwnOnly (made.Got ∷ []) part
unfolding constant_parts
constant_only sections bytes part have h none = elim (in_either (own made.Got bytes.got) (chosen choice.Constant sections) part h) [
  | inl a ↦ own_only made.Got bytes.got (made.Got ∷ []) part (inl refl) a none
  | inr b ↦ chosen_only sections choice.Constant (made.Got ∷ []) part have b none
]

writable_only : (sections : List OutSection) (bytes : MadeBytes) (part : Part) → HaveAtoms sections → In part (writable_parts sections bytes) → IsOwnOnly (made.ThreadPtrs ∷ []) part
unfolding writable_parts
writable_only sections bytes part have h none = elim (in_either (own made.ThreadPtrs bytes.tlv) (chosen choice.Writable sections) part h) [
  | inl a ↦ own_only made.ThreadPtrs bytes.tlv (made.ThreadPtrs ∷ []) part (inl refl) a none
  | inr b ↦ chosen_only sections choice.Writable (made.ThreadPtrs ∷ []) part have b none
]

-- those of `__TEXT` before `__unwind_info`
abbrev text_front : List OutSection → MadeBytes → List Part
text_front sections bytes = chosen choice.Code sections ++ own made.Stubs bytes.stubs ++ chosen choice.BesideCode sections

front_only : (sections : List OutSection) (bytes : MadeBytes) (part : Part) → HaveAtoms sections → In part (text_front sections bytes) → IsOwnOnly (made.Stubs ∷ []) part
front_only sections bytes part have h none = elim (in_either (chosen choice.Code sections ++ own made.Stubs bytes.stubs) (chosen choice.BesideCode sections) part h) [
  | inr c ↦ chosen_only sections choice.BesideCode (made.Stubs ∷ []) part have c none
  | inl ab ↦ elim (in_either (chosen choice.Code sections) (own made.Stubs bytes.stubs) part ab) [
    | inl a ↦ chosen_only sections choice.Code (made.Stubs ∷ []) part have a none
    | inr b ↦ own_only made.Stubs bytes.stubs (made.Stubs ∷ []) part (inl refl) b none
  ]
]

-- ---- where they are placed

groups_join : (atoms : List AtomKey → List Atom) (at file : ℕ) (a b : List Group) → (next : ℕ) × (past : ℕ) × (groups_sections atoms at file 0 (a ++ b) ≡ groups_sections atoms at file 0 a ++ groups_sections atoms next past 0 b)
unfolding groups_sections
groups_join atoms at file [] b = (at, file, refl)
groups_join atoms at file (group ∷ a) b =
    let rest = groups_join atoms (page_up (group_end atoms at 0 group)) (file + file_bytes atoms at 0 group) a b in (
      rest.0,
      rest.1,
      ap (λ (ss : List PlacedSection). parts_sections atoms at file (at + 0) group.parts ++ ss) rest.2
          ∙ sym (append_assoc (parts_sections atoms at file (at + 0) group.parts) (groups_sections atoms (page_up (group_end atoms at 0 group)) (file + file_bytes atoms at 0 group) 0 a) (groups_sections atoms rest.0 rest.1 0 b)),
    )

parts_join : (atoms : List AtomKey → List Atom) (start file at : ℕ) (a b : List Part) → (next : ℕ) × (parts_sections atoms start file at (a ++ b) ≡ parts_sections atoms start file at a ++ parts_sections atoms start file next b)
unfolding parts_sections
parts_join atoms start file at [] b = (at, refl)
parts_join atoms start file at (part ∷ a) b =
    let rest = parts_join atoms start file (part_end atoms at part) a b in
    (rest.0, ap (λ (ss : List PlacedSection). placed_section atoms start file at part ∷ ss) rest.1)

first_sections : (atoms : List AtomKey → List Atom) (at file lead : ℕ) (group : Group) (groups : List Group) → (next : ℕ) × (past : ℕ) × (groups_sections atoms at file lead (group ∷ groups) ≡ parts_sections atoms at file (at + lead) group.parts ++ groups_sections atoms next past 0 groups)
unfolding groups_sections
first_sections atoms at file lead group groups = (page_up (group_end atoms at lead group), file + file_bytes atoms at lead group, refl)

-- sections without atoms among some are of some of the linker's own
abbrev AreOnly : List Made → List PlacedSection → Type 0
AreOnly whichs ss = (p : PlacedSection) → In p ss → p.section.atoms ≡ [] → (which : Made) × In which whichs × (p.section ≡ section_of which)

only_groups : (atoms : List AtomKey → List Atom) (at file lead : ℕ) (groups : List Group) (whichs : List Made) → ((part : Part) → In part (parts_in groups) → IsOwnOnly whichs part) → AreOnly whichs (groups_sections atoms at file lead groups)
only_groups atoms at file lead groups whichs each p h none =
    let placed = placed_groups atoms at file lead groups p h in
    let one = each placed.part placed.planned (ap (λ (s : OutSection). s.atoms) (sym placed.same) ∙ none) in
    (one.0, one.1, placed.same ∙ one.2)

only_parts : (atoms : List AtomKey → List Atom) (start file at : ℕ) (parts : List Part) (whichs : List Made) → ((part : Part) → In part parts → IsOwnOnly whichs part) → AreOnly whichs (parts_sections atoms start file at parts)
only_parts atoms start file at parts whichs each p h none =
    let placed = placed_parts atoms start file at parts p h in
    let one = each placed.part placed.planned (ap (λ (s : OutSection). s.atoms) (sym placed.same) ∙ none) in
    (one.0, one.1, placed.same ∙ one.2)

-- all sections: those of `__TEXT` before `__unwind_info`, this one, and those of the other segments
pub record AreSplit (atoms : List AtomKey → List Atom) (bytes : MadeBytes) (all : List PlacedSection) : Type 0 where
  pub text : List PlacedSection
  pub unwound : List PlacedSection
  pub constant : List PlacedSection
  pub writable : List PlacedSection
  pub others : List PlacedSection
  pub joined : all ≡ text ++ (unwound ++ (constant ++ (writable ++ others)))
  pub in_text : AreOnly (made.Stubs ∷ []) text
  pub in_unwound : AreOnly (made.UnwindInfo ∷ []) unwound
  pub in_constant : AreOnly (made.Got ∷ []) constant
  pub in_writable : AreOnly (made.ThreadPtrs ∷ []) writable
  pub in_others : AreOnly [] others
  pub start : ℕ
  pub file : ℕ
  pub at : ℕ
  pub planned : unwound ≡ parts_sections atoms start file at (own made.UnwindInfo bytes.unwind)

split : (atoms : List AtomKey → List Atom) (at file lead : ℕ) (sections : List OutSection) (bytes : MadeBytes) → HaveAtoms sections → AreSplit atoms bytes (groups_sections atoms at file lead (groups_of sections bytes))
unfolding groups_of runs text_parts
split atoms at file lead sections bytes have =
    let front : List Part = text_front sections bytes in
    let info : List Part = own made.UnwindInfo bytes.unwind in
    let text : Group = record { name = codes "__TEXT"; parts = front ++ info } in
    let constant = group_named (codes "__DATA_CONST") (constant_parts sections bytes) in
    let writable = group_named (codes "__DATA") (writable_parts sections bytes) in
    let others = runs_from [] [] (chosen choice.Elsewhere sections) in
    let first = first_sections atoms at file lead text ((constant ++ writable) ++ others) in
    let halves = parts_join atoms at file (at + lead) front info in
    let second = groups_join atoms first.0 first.1 constant (writable ++ others) in
    let third = groups_join atoms second.0 second.1 writable others in
    let rest : List PlacedSection = groups_sections atoms first.0 first.1 0 constant ++ (groups_sections atoms second.0 second.1 0 writable ++ groups_sections atoms third.0 third.1 0 others) in
    let same : groups_sections atoms first.0 first.1 0 ((constant ++ writable) ++ others) ≡ rest =
    ap (λ (gs : List Group). groups_sections atoms first.0 first.1 0 gs) (append_assoc constant writable others) ∙ second.2 ∙ ap (λ (ss : List PlacedSection). groups_sections atoms first.0 first.1 0 constant ++ ss) third.2 in
    let first_parts : List PlacedSection = parts_sections atoms at file (at + lead) front in
    let last_part : List PlacedSection = parts_sections atoms at file halves.0 info in
    let near : parts_sections atoms at file (at + lead) (front ++ info) ++ rest ≡ first_parts ++ (last_part ++ rest) =
    ap (λ (ss : List PlacedSection). ss ++ rest) halves.1 ∙ append_assoc first_parts last_part rest in
    record {
      text = first_parts;
      unwound = last_part;
      constant = groups_sections atoms first.0 first.1 0 constant;
      writable = groups_sections atoms second.0 second.1 0 writable;
      others = groups_sections atoms third.0 third.1 0 others;
      joined = first.2 ∙ ap (λ (ss : List PlacedSection). parts_sections atoms at file (at + lead) (front ++ info) ++ ss) same ∙ near;
      in_text = only_parts atoms at file (at + lead) front (made.Stubs ∷ []) (λ part h. front_only sections bytes part have h);
      in_unwound = only_parts atoms at file halves.0 info (made.UnwindInfo ∷ []) (λ part h. own_only made.UnwindInfo bytes.unwind (made.UnwindInfo ∷ []) part (inl refl) h);
      in_constant = only_groups atoms first.0 first.1 0 constant (made.Got ∷ []) (λ part h. constant_only sections bytes part have (named_parts (codes "__DATA_CONST") (constant_parts sections bytes) part h));
      in_writable = only_groups atoms second.0 second.1 0 writable (made.ThreadPtrs ∷ []) (λ part h. writable_only sections bytes part have (named_parts (codes "__DATA") (writable_parts sections bytes) part h));
      in_others = only_groups atoms third.0 third.1 0 others [] (λ part h. elim (runs_parts [] [] (chosen choice.Elsewhere sections) part h) [ inl none ↦ absurd none | inr a ↦ chosen_only sections choice.Elsewhere [] part have a ]);
      start = at;
      file = file;
      at = halves.0;
      planned = refl;
    }

-- ---- one of the linker's own is where it belongs

abbrev kind_of : Made → ℕ
kind_of which = (section_of which).kind

differ : (which other : Made) → section_of which ≡ section_of other → (kind_of which == kind_of other) ≡ false → ⊥
differ which other same apart = false≢true (sym apart ∙ eq-eqb (kind_of which) (kind_of other) (ap (λ (s : OutSection). s.kind) same))

alike : (which other : Made) → section_of which ≡ section_of other → which ≡ other
alike made.Stubs made.Stubs e = refl
alike made.Stubs made.UnwindInfo e = absurd (differ made.Stubs made.UnwindInfo e refl)
alike made.Stubs made.Got e = absurd (differ made.Stubs made.Got e refl)
alike made.Stubs made.ThreadPtrs e = absurd (differ made.Stubs made.ThreadPtrs e refl)
alike made.UnwindInfo made.Stubs e = absurd (differ made.UnwindInfo made.Stubs e refl)
alike made.UnwindInfo made.UnwindInfo e = refl
alike made.UnwindInfo made.Got e = absurd (differ made.UnwindInfo made.Got e refl)
alike made.UnwindInfo made.ThreadPtrs e = absurd (differ made.UnwindInfo made.ThreadPtrs e refl)
alike made.Got made.Stubs e = absurd (differ made.Got made.Stubs e refl)
alike made.Got made.UnwindInfo e = absurd (differ made.Got made.UnwindInfo e refl)
alike made.Got made.Got e = refl
alike made.Got made.ThreadPtrs e = absurd (differ made.Got made.ThreadPtrs e refl)
alike made.ThreadPtrs made.Stubs e = absurd (differ made.ThreadPtrs made.Stubs e refl)
alike made.ThreadPtrs made.UnwindInfo e = absurd (differ made.ThreadPtrs made.UnwindInfo e refl)
alike made.ThreadPtrs made.Got e = absurd (differ made.ThreadPtrs made.Got e refl)
alike made.ThreadPtrs made.ThreadPtrs e = refl

-- where each of the linker's own is
abbrev pub piece : {atoms : List AtomKey → List Atom} {bytes : MadeBytes} {all : List PlacedSection} → AreSplit atoms bytes all → Made → List PlacedSection
piece split made.Stubs = split.text
piece split made.UnwindInfo = split.unwound
piece split made.Got = split.constant
piece split made.ThreadPtrs = split.writable

-- a section without atoms is one of the linker's own
pub made_in : (atoms : List AtomKey → List Atom) (bytes : MadeBytes) (all : List PlacedSection) (split : AreSplit atoms bytes all) (p : PlacedSection) → In p all → p.section.atoms ≡ [] → (which : Made) × (p.section ≡ section_of which) × In p (piece split which)
made_in atoms bytes all split p h none = elim (in_either split.text (split.unwound ++ (split.constant ++ (split.writable ++ split.others))) p (subst (λ (ss : List PlacedSection). In p ss) split.joined h)) [
  | inl a ↦ here made.Stubs a (split.in_text p a none)
  | inr more ↦ elim (in_either split.unwound (split.constant ++ (split.writable ++ split.others)) p more) [
    | inl b ↦ here made.UnwindInfo b (split.in_unwound p b none)
    | inr later ↦ elim (in_either split.constant (split.writable ++ split.others) p later) [
      | inl c ↦ here made.Got c (split.in_constant p c none)
      | inr last ↦ elim (in_either split.writable split.others p last) [
        | inl d ↦ here made.ThreadPtrs d (split.in_writable p d none)
        | inr other ↦ absurd (split.in_others p other none).1
      ]
    ]
  ]
]
  where
    here : (which : Made) → In p (piece split which) → (one : Made) × In one (which ∷ []) × (p.section ≡ section_of one) → (one : Made) × (p.section ≡ section_of one) × In p (piece split one)
    here which there (one, inl e, is) = (which, is ∙ ap section_of (sym e), there)
    here which there (one, inr never, is) = absurd never

made_none : (which : Made) → (section_of which).atoms ≡ []
made_none made.Stubs = refl
made_none made.UnwindInfo = refl
made_none made.Got = refl
made_none made.ThreadPtrs = refl

in_piece : (atoms : List AtomKey → List Atom) (bytes : MadeBytes) (all : List PlacedSection) (split : AreSplit atoms bytes all) (which : Made) (p : PlacedSection) → In p all → p.section ≡ section_of which → In p (piece split which)
in_piece atoms bytes all split which p h is =
    let one = made_in atoms bytes all split p h (ap (λ (s : OutSection). s.atoms) is ∙ made_none which) in
    subst (λ (w : Made). In p (piece split w)) (alike one.0 which (sym one.1 ∙ is)) one.2

-- their order
abbrev pub rank : Made → ℕ
rank made.Stubs = 0
rank made.UnwindInfo = 1
rank made.Got = 2
rank made.ThreadPtrs = 3

after_text : (atoms : List AtomKey → List Atom) (bytes : MadeBytes) (all : List PlacedSection) (split : AreSplit atoms bytes all) (which : Made) (p : PlacedSection) → 0 < rank which → In p (piece split which) → In p (split.unwound ++ (split.constant ++ (split.writable ++ split.others)))
after_text atoms bytes all split made.Stubs p later h = absurd (omega (arith, later))
after_text atoms bytes all split made.UnwindInfo p later h = in_left split.unwound (split.constant ++ (split.writable ++ split.others)) p h
after_text atoms bytes all split made.Got p later h = in_right split.unwound (split.constant ++ (split.writable ++ split.others)) p (in_left split.constant (split.writable ++ split.others) p h)
after_text atoms bytes all split made.ThreadPtrs p later h =
    in_right split.unwound (split.constant ++ (split.writable ++ split.others)) p (in_right split.constant (split.writable ++ split.others) p (in_left split.writable split.others p h))

after_unwound : (atoms : List AtomKey → List Atom) (bytes : MadeBytes) (all : List PlacedSection) (split : AreSplit atoms bytes all) (which : Made) (p : PlacedSection) → 1 < rank which → In p (piece split which) → In p (split.constant ++ (split.writable ++ split.others))
after_unwound atoms bytes all split made.Stubs p later h = absurd (omega (arith, later))
after_unwound atoms bytes all split made.UnwindInfo p later h = absurd (omega (arith, later))
after_unwound atoms bytes all split made.Got p later h = in_left split.constant (split.writable ++ split.others) p h
after_unwound atoms bytes all split made.ThreadPtrs p later h = in_right split.constant (split.writable ++ split.others) p (in_left split.writable split.others p h)

after_constant : (atoms : List AtomKey → List Atom) (bytes : MadeBytes) (all : List PlacedSection) (split : AreSplit atoms bytes all) (which : Made) (p : PlacedSection) → 2 < rank which → In p (piece split which) → In p (split.writable ++ split.others)
after_constant atoms bytes all split made.Stubs p later h = absurd (omega (arith, later))
after_constant atoms bytes all split made.UnwindInfo p later h = absurd (omega (arith, later))
after_constant atoms bytes all split made.Got p later h = absurd (omega (arith, later))
after_constant atoms bytes all split made.ThreadPtrs p later h = in_left split.writable split.others p h

most_rank : (which : Made) → rank which ≤ 3
most_rank made.Stubs = omega arith
most_rank made.UnwindInfo = omega arith
most_rank made.Got = omega arith
most_rank made.ThreadPtrs = omega arith

-- ---- of an image

pub laid_chain : (m : ImageInputs) (layout : Layout) → AreLow (kept_of m) → IsLaid m layout → FileChain (plan_for m).lead (filter has_bytes layout.sections) (linkedit_offset layout.segments)
unfolding plan_with plan_of image_sections groups_of
laid_chain m layout low laid =
    let plan = plan_for m in
    let atoms = map atom_of (kept_of m) in
    let bytes = made_bytes m.slots (sizes_of m.command m.libs (length m.info)) in
    let chain = first_chain plan.atoms plan.base 0 plan.lead (record { name = codes "__TEXT"; parts = text_parts (out_sections m.files atoms) bytes }) _ (all_stored m.files atoms bytes (low_atoms (kept_of m) low)) in
    let lead : 0 + plan.lead ≡ plan.lead = omega arith in
    let there = subst (λ (ss : List PlacedSection). FileChain (0 + plan.lead) (filter has_bytes ss) (groups_file plan.atoms plan.base 0 plan.lead plan.groups)) (sym laid.layout_of.sections) chain in
    subst (λ (n : ℕ). FileChain n (filter has_bytes layout.sections) (linkedit_offset layout.segments)) lead
    (subst (λ (n : ℕ). FileChain (0 + plan.lead) (filter has_bytes layout.sections) n) (sym (layout_end m layout laid)) there)

pub laid_split : (m : ImageInputs) (layout : Layout) → IsLaid m layout → AreSplit (plan_for m).atoms (made_bytes m.slots (sizes_of m.command m.libs (length m.info))) layout.sections
unfolding plan_with plan_of image_sections
laid_split m layout laid =
    let bytes = made_bytes m.slots (sizes_of m.command m.libs (length m.info)) in
    subst (λ (ss : List PlacedSection). AreSplit (plan_for m).atoms bytes ss) (sym laid.layout_of.sections)
    (split (plan_for m).atoms (plan_for m).base 0 (plan_for m).lead (out_sections m.files (map atom_of (kept_of m))) bytes (have_atoms m.files (map atom_of (kept_of m))))

-- a section of the layout that is one of the linker's own
abbrev pub IsOwn : Layout → Made → PlacedSection → Type 0
IsOwn layout which p = (p.section ≡ section_of which) × In p layout.sections

pub own_is : (m : ImageInputs) (layout : Layout) (way : Way) (p : PlacedSection) → IsLaid m layout → own_section layout.sections way ≡ Some p → IsOwn layout (made_for way) p
own_is m layout way p laid e = let is = laid_is m layout way p laid e in (is.0, is.2)

made_solid : (which : Made) → is_zerofill (kind_of which) ≡ false
made_solid made.Stubs = refl
made_solid made.UnwindInfo = refl
made_solid made.Got = refl
made_solid made.ThreadPtrs = refl

solid : (which : Made) (p : PlacedSection) → p.section ≡ section_of which → has_bytes p ≡ true
solid which p is = ap (λ (s : OutSection). not (is_zerofill s.kind)) is ∙ ap not (made_solid which)

-- it stands behind the header and before `__LINKEDIT`
pub made_within : (m : ImageInputs) (layout : Layout) (which : Made) (p : PlacedSection) → AreLow (kept_of m) → IsLaid m layout → IsOwn layout which p → ((plan_for m).lead ≤ p.file_offset) × (p.file_offset + p.size ≤ linkedit_offset layout.segments)
made_within m layout which p low laid is =
    chain_within (plan_for m).lead (linkedit_offset layout.segments) (filter has_bytes layout.sections) p (laid_chain m layout low laid) (in_filter has_bytes layout.sections p is.1 (solid which p is.0))

turn : (m : ImageInputs) (layout : Layout) (xs ys : List PlacedSection) (p q : PlacedSection) → AreLow (kept_of m) → IsLaid m layout → layout.sections ≡ xs ++ ys → In p xs → In q ys → has_bytes p ≡ true → has_bytes q ≡ true → StandsBefore p q
turn m layout xs ys p q low laid is h k one two =
    chain_turn (plan_for m).lead (linkedit_offset layout.segments) (filter has_bytes xs) (filter has_bytes ys) p q
    (subst (λ (ss : List PlacedSection). FileChain (plan_for m).lead ss (linkedit_offset layout.segments)) (ap (filter has_bytes) is ∙ filter_join has_bytes xs ys) (laid_chain m layout low laid))
    (in_filter has_bytes xs p h one) (in_filter has_bytes ys q k two)

-- and before those that are later in their order
pub made_turn : (m : ImageInputs) (layout : Layout) (first later : Made) (p q : PlacedSection) → AreLow (kept_of m) → IsLaid m layout → rank first < rank later → IsOwn layout first p → IsOwn layout later q → StandsBefore p q
made_turn m layout first later p q low laid order is next = by first order (in_piece atoms bytes layout.sections split first p is.1 is.0)
  where
    atoms : List AtomKey → List Atom
    atoms = (plan_for m).atoms

    bytes : MadeBytes
    bytes = made_bytes m.slots (sizes_of m.command m.libs (length m.info))

    split : AreSplit atoms bytes layout.sections
    split = laid_split m layout laid

    there : In q (piece split later)
    there = in_piece atoms bytes layout.sections split later q next.1 next.0

    past_text : layout.sections ≡ (split.text ++ split.unwound) ++ (split.constant ++ (split.writable ++ split.others))
    past_text = split.joined ∙ sym (append_assoc split.text split.unwound (split.constant ++ (split.writable ++ split.others)))

    past_constant : layout.sections ≡ ((split.text ++ split.unwound) ++ split.constant) ++ (split.writable ++ split.others)
    past_constant = past_text ∙ sym (append_assoc (split.text ++ split.unwound) split.constant (split.writable ++ split.others))

    in_turn : (xs ys : List PlacedSection) → layout.sections ≡ xs ++ ys → In p xs → In q ys → StandsBefore p q
    in_turn xs ys joined h k = turn m layout xs ys p q low laid joined h k (solid first p is.0) (solid later q next.0)

    by : (which : Made) → rank which < rank later → In p (piece split which) → StandsBefore p q
    by made.Stubs behind h = in_turn split.text (split.unwound ++ (split.constant ++ (split.writable ++ split.others))) split.joined h (after_text atoms bytes layout.sections split later q behind there)
    by made.UnwindInfo behind h =
        in_turn (split.text ++ split.unwound) (split.constant ++ (split.writable ++ split.others)) past_text (in_right split.text split.unwound p h) (after_unwound atoms bytes layout.sections split later q behind there)
    by made.Got behind h =
        in_turn ((split.text ++ split.unwound) ++ split.constant) (split.writable ++ split.others) past_constant (in_right (split.text ++ split.unwound) split.constant p h) (after_constant atoms bytes layout.sections split later q behind there)
    by made.ThreadPtrs behind h = absurd (let most = most_rank later in omega (arith, behind, most))
