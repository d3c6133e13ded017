-- A layout that was placed is whole.
use Rattle.std.proofs.Common.{codes, ◌≡◌, ◌≢◌, ℕ, suc, ◌+◌, ◌-◌, ◌*◌, ◌^◌, ◌<◌, ◌≤◌, if◌then◌else◌, Bool, true, false, inl, inr, List, [], ◌∷◌, ◌++◌, length, get_or, take, drop, Result, Ok, Err, IfOk, MatchResult, refl, sym, ap, subst, ◌∙◌, arith}
use Rattle.std.specs.List.{AllByRecursion}
use Rattle.std.specs.Str.{bytes_eq}
use Rattle.std.proofs.lemmas.Bool.{cases_Bool, false≢true}
use Rattle.std.proofs.lemmas.List.{take_at, drop_at}
use Rattle.std.proofs.lemmas.Slice.Eq.{bytes_eq-Decides}
use Rattle.list_lemmas.proofs.Members.{all_at}
use Rattle.command_line.specs.declared.command.Command.{Command}
use Rattle.mo_types.specs.Whole.{is_zerofill}
use Rattle.mo_types.specs.declared.atom.Atom.{Atom}
use Rattle.mo_types.specs.declared.key.AtomKey.{AtomKey}
use Rattle.mo_types.specs.declared.out_section.OutSection.{OutSection}
use Rattle.tlv_plan.proofs.Walk.{aligned_least}
use Rattle.sect_place.specs.Arrangement.{is_chosen, chosen, group_named, runs_from, runs, MadeBytes, text_parts, constant_parts, writable_parts, groups_of}
use Rattle.sect_list.specs.OutSections.{is_in}
use Rattle.sect_place.specs.Layout.{Plan, base_of, image_size, pagezero, linkedit, first_segments, image_segments, image_sections, IsTooLarge}
use Rattle.sect_place.specs.Places.{part_end, parts_end, placed_section, parts_sections, page_up, group_end, file_bytes, segment_of, groups_segments, groups_sections, groups_end, groups_file}
use Rattle.sect_place.specs.Whole.{IsWholeSegment, AreLedByText, AreInTurn, IsIn, AreInSegments, IsWholeLayout}
use Rattle.sect_place.specs.declared.layout.Layout.{Layout}
use Rattle.sect_place.specs.declared.layout.PlacedSection.{PlacedSection}
use Rattle.sect_place.specs.declared.layout.Segment.{Segment}
use Rattle.sect_place.specs.declared.part.Choice.TheVariants.{Elsewhere}
use Rattle.sect_place.specs.declared.part.Group.{Group}
use Rattle.sect_place.specs.declared.part.Part.{Part}
use Rattle.sect_place.specs.declared.size.PlaceFault.{PlaceFault}
use Rattle.sect_place.proofs.Narrow.{file_within, next_file}
use Rattle.sect_place.proofs.Spread.{part_bounds, parts_after, group_bounds, groups_after}

-- ---- lists

all_join : {X : Type 0} (P : X → Type 0) (xs ys : List X) → AllByRecursion P xs → AllByRecursion P ys → AllByRecursion P (xs ++ ys)
all_join P [] ys p q = q
all_join P (x ∷ xs) ys p q = (p.0, all_join P xs ys p.1 q)

all_of : {X : Type 0} (P : X → Type 0) (xs : List X) → AllByRecursion P xs → (k : ℕ) (d : X) → k < length xs → P (get_or xs k d)
all_of P xs all = λ k d within. all_at P xs k d all within

-- ---- names

abbrev IsOther : List ℕ → Type 0
IsOther name = name ≢ codes "__TEXT"

other_name : (name : List ℕ) → bytes_eq name (codes "__TEXT") ≡ false → IsOther name
other_name name away = λ same. false≢true (sym away ∙ (bytes_eq-Decides name (codes "__TEXT")).1 same)

abbrev AreOthers : List Group → Type 0
AreOthers groups = AllByRecursion (λ (group : Group). IsOther group.name) groups

others_named : (name : List ℕ) (parts : List Part) → IsOther name → AreOthers (group_named name parts)
others_named name [] other = tt
others_named name (part ∷ parts) other = (other, tt)

others_more : (name : List ℕ) (run : List Part) (part : Part) → IsOther name → AreOthers (group_named name (run ++ part ∷ []))
others_more name run part other = others_named name (run ++ part ∷ []) other

others_runs : (name : List ℕ) (run parts : List Part) → AreOthers (group_named name run) → AllByRecursion (λ (part : Part). IsOther part.section.segment) parts → AreOthers (runs_from name run parts)
others_runs name run [] here rest = here
others_runs name run (part ∷ parts) here rest =
    elim (cases_Bool (bytes_eq part.section.segment name)) [
      | inl same ↦
          let is : part.section.segment ≡ name = (bytes_eq-Decides part.section.segment name).0 same in
          rw same (others_runs name (run ++ part ∷ []) parts (others_more name run part (subst IsOther is rest.0)) rest.1)
      | inr away ↦
          rw away (all_join (λ (group : Group). IsOther group.name) (group_named name run) (runs_from part.section.segment (part ∷ []) parts) here (others_runs part.section.segment (part ∷ []) parts (rest.0, tt) rest.1))
    ]

not_text : (section : OutSection) → is_chosen Elsewhere section ≡ true → is_in (codes "__TEXT") section ≡ false
unfolding is_chosen
not_text section here =
    elim (cases_Bool (is_in (codes "__TEXT") section)) [
      | inl text ↦ absurd (false≢true (rw text at here))
      | inr away ↦ away
    ]

elsewhere_others : (sections : List OutSection) → AllByRecursion (λ (part : Part). IsOther part.section.segment) (chosen Elsewhere sections)
unfolding chosen
elsewhere_others [] = tt
elsewhere_others (section ∷ sections) =
    elim (cases_Bool (is_chosen Elsewhere section)) [
      | inl here ↦ rw here (other_name section.segment (not_text section here), elsewhere_others sections)
      | inr away ↦ rw away (elsewhere_others sections)
    ]

constant_name : IsOther (codes "__DATA_CONST")
constant_name = other_name (codes "__DATA_CONST") refl

writable_name : IsOther (codes "__DATA")
writable_name = other_name (codes "__DATA") refl

last_name : IsOther (codes "__LINKEDIT")
last_name = other_name (codes "__LINKEDIT") refl

-- the segments behind `__TEXT`
abbrev pub later_groups : List OutSection → MadeBytes → List Group
later_groups sections bytes =
    group_named (codes "__DATA_CONST") (constant_parts sections bytes) ++ group_named (codes "__DATA") (writable_parts sections bytes) ++ runs (chosen Elsewhere sections)

pub groups_split : (sections : List OutSection) (bytes : MadeBytes) → groups_of sections bytes ≡ record { name = codes "__TEXT"; parts = text_parts sections bytes } ∷ later_groups sections bytes
unfolding groups_of
groups_split sections bytes = refl

later_others : (sections : List OutSection) (bytes : MadeBytes) → AreOthers (later_groups sections bytes)
unfolding runs
later_others sections bytes =
    let constant = group_named (codes "__DATA_CONST") (constant_parts sections bytes) in
    let writable = group_named (codes "__DATA") (writable_parts sections bytes) in
    let elsewhere = runs_from [] [] (chosen Elsewhere sections) in
    all_join (λ (group : Group). IsOther group.name) (constant ++ writable) elsewhere (all_join (λ (group : Group). IsOther group.name) constant writable (others_named (codes "__DATA_CONST") (constant_parts sections bytes) constant_name) (others_named (codes "__DATA") (writable_parts sections bytes) writable_name)) (others_runs [] [] (chosen Elsewhere sections) tt (elsewhere_others sections))

segments_others : (atoms : List AtomKey → List Atom) (at file lead : ℕ) (groups : List Group) → AreOthers groups → AllByRecursion (λ (segment : Segment). IsOther segment.name) (groups_segments atoms at file lead groups)
unfolding groups_segments segment_of
segments_others atoms at file lead [] others = tt
segments_others atoms at file lead (group ∷ groups) others =
    (others.0, segments_others atoms (page_up (group_end atoms at lead group)) (file + file_bytes atoms at lead group) 0 groups others.1)

led : (atoms : List AtomKey → List Atom) (at file lead : ℕ) (first : Group) (groups : List Group) (last : Segment) → first.name ≡ codes "__TEXT" → AreOthers groups → IsOther last.name → AreLedByText (groups_segments atoms at file lead (first ∷ groups) ++ last ∷ [])
unfolding groups_segments segment_of
led atoms at file lead first groups last named others end =
    let later = groups_segments atoms (page_up (group_end atoms at lead first)) (file + file_bytes atoms at lead first) 0 groups in
    inl (named, all_of (λ (segment : Segment). IsOther segment.name) (later ++ last ∷ []) (all_join (λ (segment : Segment). IsOther segment.name) later (last ∷ []) (segments_others atoms (page_up (group_end atoms at lead first)) (file + file_bytes atoms at lead first) 0 groups others) (end, tt)))

-- ---- pages

pages : (atoms : List AtomKey → List Atom) (at file lead : ℕ) (groups : List Group) → file ≤ at → ((count : ℕ) × (at ≡ count * 0x4000)) → groups_end atoms at lead groups < 2 ^ 63 → AllByRecursion IsWholeSegment (groups_segments atoms at file lead groups)
unfolding groups_end groups_segments segment_of file_bytes
pages atoms at file lead [] before page low = tt
pages atoms at file lead (group ∷ groups) before page low =
    let bounds = group_bounds atoms at lead group.parts in
    let next = page_up (group_end atoms at lead group) in
    let later = groups_after atoms next 0 groups in (
      record { page = page; small = omega (arith, bounds.0, bounds.3); file = before; file_bytes = omega (arith, bounds.5) },
      pages atoms next (file + file_bytes atoms at lead group) 0 groups (next_file atoms at file lead group before) (aligned_least 14 (group_end atoms at lead group)).whole low,
    )

end_page : (atoms : List AtomKey → List Atom) (at lead : ℕ) (groups : List Group) → ((count : ℕ) × (at ≡ count * 0x4000)) → (count : ℕ) × (groups_end atoms at lead groups ≡ count * 0x4000)
unfolding groups_end
end_page atoms at lead [] page = page
end_page atoms at lead (group ∷ groups) page =
    end_page atoms (page_up (group_end atoms at lead group)) 0 groups (aligned_least 14 (group_end atoms at lead group)).whole

-- ---- one behind the other

abbrev Starts : ℕ → List Segment → Type 0
Starts at [] = Unit {0}
Starts at (segment ∷ segments) = at ≤ segment.address

turn : (segment : Segment) (segments : List Segment) → Starts (segment.address + segment.vmsize) segments → AreInTurn segments → AreInTurn (segment ∷ segments)
turn segment [] start rest = tt
turn segment (next ∷ segments) start rest = (start, rest)

starts : (atoms : List AtomKey → List Atom) (from at file lead : ℕ) (groups : List Group) (last : Segment) → from ≤ at → last.address ≡ groups_end atoms at lead groups → Starts from (groups_segments atoms at file lead groups ++ last ∷ [])
unfolding groups_end groups_segments segment_of
starts atoms from at file lead [] last low ends = omega (arith, low, ends)
starts atoms from at file lead (group ∷ groups) last low ends = low

turns : (atoms : List AtomKey → List Atom) (at file lead : ℕ) (groups : List Group) (last : Segment) → last.address ≡ groups_end atoms at lead groups → AreInTurn (groups_segments atoms at file lead groups ++ last ∷ [])
unfolding groups_end groups_segments segment_of
turns atoms at file lead [] last ends = tt
turns atoms at file lead (group ∷ groups) last ends =
    let bounds = group_bounds atoms at lead group.parts in
    let next = page_up (group_end atoms at lead group) in
    let file' = file + file_bytes atoms at lead group in
    turn (segment_of atoms at file lead group) (groups_segments atoms next file' 0 groups ++ last ∷ []) (starts atoms (at + (next - at)) next file' 0 groups last (omega (arith, bounds.0, bounds.3)) ends) (turns atoms next file' 0 groups last ends)

-- ---- sections

length-parts_sections : (atoms : List AtomKey → List Atom) (start file at : ℕ) (parts : List Part) → length (parts_sections atoms start file at parts) ≡ length parts
unfolding parts_sections
length-parts_sections atoms start file at [] = refl
length-parts_sections atoms start file at (part ∷ parts) = ap suc (length-parts_sections atoms start file (part_end atoms at part) parts)

parts_in : (atoms : List AtomKey → List Atom) (start file at low high : ℕ) (parts : List Part) → low ≤ at → parts_end atoms at parts ≤ high → AllByRecursion (λ (p : PlacedSection). (low ≤ p.address) × (p.address + p.size ≤ high)) (parts_sections atoms start file at parts)
unfolding parts_end parts_sections placed_section
parts_in atoms start file at low high [] begins ends = tt
parts_in atoms start file at low high (part ∷ parts) begins ends =
    let bounds = part_bounds atoms at part in
    let later = parts_after atoms (part_end atoms at part) parts in
    ((omega (arith, bounds.0), omega (arith, bounds.1, later)), parts_in atoms start file (part_end atoms at part) low high parts (omega (arith, bounds.0, bounds.1)) ends)

split_sections : (segment : Segment) (segments : List Segment) (here rest : List PlacedSection) → length here ≡ segment.sections → AllByRecursion (IsIn segment) here → AreInSegments segments rest → AreInSegments (segment ∷ segments) (here ++ rest)
split_sections segment segments here rest long within later =
    let front : take segment.sections (here ++ rest) ≡ here = take_at here rest segment.sections long in
    let back : drop segment.sections (here ++ rest) ≡ rest = drop_at here rest segment.sections long in (
      count here rest segment.sections long,
      subst (λ (ps : List PlacedSection). (k : ℕ) (d : PlacedSection) → k < length ps → IsIn segment (get_or ps k d)) (sym front) (all_of (IsIn segment) here within),
      subst (λ (ps : List PlacedSection). AreInSegments segments ps) (sym back) later,
    )
  where
    count : (xs ys : List PlacedSection) (n : ℕ) → length xs ≡ n → n ≤ length (xs ++ ys)
    count [] ys n e = omega arith
    count (x ∷ xs) ys n e = let rest : length xs ≤ length (xs ++ ys) = count xs ys (length xs) refl in omega arith

in_segments : (atoms : List AtomKey → List Atom) (at file lead : ℕ) (groups : List Group) (last : Segment) → last.sections ≡ 0 → AreInSegments (groups_segments atoms at file lead groups ++ last ∷ []) (groups_sections atoms at file lead groups)
unfolding groups_segments groups_sections segment_of
in_segments atoms at file lead [] last none = split_sections last [] [] [] (sym none) tt refl
in_segments atoms at file lead (group ∷ groups) last none =
    let bounds = group_bounds atoms at lead group.parts in
    let next = page_up (group_end atoms at lead group) in
    let file' = file + file_bytes atoms at lead group in
    split_sections (segment_of atoms at file lead group) (groups_segments atoms next file' 0 groups ++ last ∷ []) (parts_sections atoms at file (at + lead) group.parts) (groups_sections atoms next file' 0 groups)
    (length-parts_sections atoms at file (at + lead) group.parts)
    (parts_in atoms at file (at + lead) at (at + (next - at)) group.parts (omega arith) (omega (arith, bounds.0, bounds.3)))
    (in_segments atoms next file' 0 groups last none)

-- ---- places in the file

abbrev IsLow : PlacedSection → Type 0
IsLow placed = placed.file_offset ≤ placed.address

parts_low : (atoms : List AtomKey → List Atom) (start file at : ℕ) (parts : List Part) → file ≤ start → start ≤ at → AllByRecursion IsLow (parts_sections atoms start file at parts)
unfolding parts_sections placed_section
parts_low atoms start file at [] before begins = tt
parts_low atoms start file at (part ∷ parts) before begins =
    let bounds = part_bounds atoms at part in
    let rest = parts_low atoms start file (part_end atoms at part) parts before (omega (arith, begins, bounds.0, bounds.1)) in
    elim (cases_Bool (is_zerofill part.section.kind)) [
      | inl zero ↦ rw zero (omega arith, rest)
      | inr filled ↦ rw filled (omega (arith, before, begins, bounds.0), rest)
    ]

groups_low : (atoms : List AtomKey → List Atom) (at file lead : ℕ) (groups : List Group) → file ≤ at → AllByRecursion IsLow (groups_sections atoms at file lead groups)
unfolding groups_sections
groups_low atoms at file lead [] before = tt
groups_low atoms at file lead (group ∷ groups) before =
    all_join IsLow (parts_sections atoms at file (at + lead) group.parts) (groups_sections atoms (page_up (group_end atoms at lead group)) (file + file_bytes atoms at lead group) 0 groups)
    (parts_low atoms at file (at + lead) group.parts before (omega arith))
    (groups_low atoms (page_up (group_end atoms at lead group)) (file + file_bytes atoms at lead group) 0 groups (next_file atoms at file lead group before))

-- ---- the layout

record IsSound (segments : List Segment) (sections : List PlacedSection) : Type 0 where
  pub low : AllByRecursion IsLow sections
  pub text : AreLedByText segments
  pub whole : AllByRecursion IsWholeSegment segments
  pub turned : AreInTurn segments
  pub within : AreInSegments segments sections

middle_sound : (atoms : List AtomKey → List Atom) (base lead file : ℕ) (sections : List OutSection) (bytes : MadeBytes) → ((count : ℕ) × (base ≡ count * 0x4000)) → groups_end atoms base lead (groups_of sections bytes) < 2 ^ 63 → file ≤ groups_end atoms base lead (groups_of sections bytes) → IsSound (groups_segments atoms base 0 lead (groups_of sections bytes) ++ linkedit (groups_end atoms base lead (groups_of sections bytes)) file ∷ []) (groups_sections atoms base 0 lead (groups_of sections bytes))
middle_sound atoms base lead file sections bytes page low within =
    let groups = groups_of sections bytes in
    let last = linkedit (groups_end atoms base lead groups) file in
    record {
      low = groups_low atoms base 0 lead groups (omega arith);
      text = subst (λ (gs : List Group). AreLedByText (groups_segments atoms base 0 lead gs ++ last ∷ [])) (sym (groups_split sections bytes)) (led atoms base 0 lead (record { name = codes "__TEXT"; parts = text_parts sections bytes }) (later_groups sections bytes) last refl (later_others sections bytes) last_name);
      whole = all_join IsWholeSegment (groups_segments atoms base 0 lead groups) (last ∷ []) (pages atoms base 0 lead groups (omega arith) page low) (record { page = end_page atoms base lead groups page; small = omega (arith, low); file = within; file_bytes = omega arith }, tt);
      turned = turns atoms base 0 lead groups last refl;
      within = in_segments atoms base 0 lead groups last refl;
    }

with_pagezero : (segments : List Segment) (sections : List PlacedSection) → IsSound segments sections → Starts (2 ^ 32) segments → IsSound (pagezero ∷ segments) sections
with_pagezero segments sections sound start = record {
  low = sound.low;
  text = inr (refl, sound.text);
  whole = (record { page = (0, refl); small = omega arith; file = omega arith; file_bytes = omega arith }, sound.whole);
  turned = turn pagezero segments start sound.turned;
  within = (omega arith, (λ k d low. absurd (omega arith)), sound.within);
}

sound_by : (dylib : Bool) (atoms : List AtomKey → List Atom) (base lead file : ℕ) (sections : List OutSection) (bytes : MadeBytes) → base ≡ (if dylib then 0 else 2 ^ 32) → groups_end atoms base lead (groups_of sections bytes) < 2 ^ 63 → file ≤ groups_end atoms base lead (groups_of sections bytes) → IsSound ((if dylib then [] else pagezero ∷ []) ++ groups_segments atoms base 0 lead (groups_of sections bytes) ++ linkedit (groups_end atoms base lead (groups_of sections bytes)) file ∷ []) (groups_sections atoms base 0 lead (groups_of sections bytes))
sound_by true atoms base lead file sections bytes e low within = middle_sound atoms base lead file sections bytes (0, e) low within
sound_by false atoms base lead file sections bytes e low within =
    with_pagezero (groups_segments atoms base 0 lead (groups_of sections bytes) ++ linkedit (groups_end atoms base lead (groups_of sections bytes)) file ∷ []) (groups_sections atoms base 0 lead (groups_of sections bytes))
    (middle_sound atoms base lead file sections bytes (262144, e) low within)
    (starts atoms (2 ^ 32) base 0 lead (groups_of sections bytes) (linkedit (groups_end atoms base lead (groups_of sections bytes)) file) (omega (arith, e)) refl)

whole_from : (layout : Layout) (segments : List Segment) (sections : List PlacedSection) → layout.segments ≡ segments → layout.sections ≡ sections → IsSound segments sections → IsWholeLayout layout
whole_from layout segments sections e f sound =
    let here : IsSound layout.segments layout.sections = subst (λ (ss : List Segment). IsSound ss layout.sections) (sym e) (subst (λ (ps : List PlacedSection). IsSound segments ps) (sym f) sound) in
    record { text = here.text; segments = all_of IsWholeSegment layout.segments here.whole; in_turn = here.turned; sections = here.within; files = all_of IsLow layout.sections here.low }

pub whole_finished : (command : Command) (plan : Plan) (sections : List OutSection) (bytes : MadeBytes) (r : Result Layout PlaceFault) → plan.base ≡ base_of command → plan.base ≤ 2 ^ 32 → plan.groups ≡ groups_of sections bytes → IfOk r (λ (layout : Layout). layout.segments ≡ image_segments command plan) → IfOk r (λ (layout : Layout). layout.sections ≡ image_sections plan) → MatchResult r (λ (layout : Layout). image_size plan < 2 ^ 32) (IsTooLarge (image_size plan)) → IfOk r IsWholeLayout
unfolding image_segments image_sections
whole_finished command plan sections bytes (Ok layout) based low arranged segments sects size =
    let small : groups_end plan.atoms plan.base plan.lead plan.groups < 2 ^ 63 = omega (arith, size, low) in
    let sound = sound_by command.dylib plan.atoms plan.base plan.lead (groups_file plan.atoms plan.base 0 plan.lead plan.groups) sections bytes based (subst (λ (gs : List Group). groups_end plan.atoms plan.base plan.lead gs < 2 ^ 63) arranged small) (subst (λ (gs : List Group). groups_file plan.atoms plan.base 0 plan.lead plan.groups ≤ groups_end plan.atoms plan.base plan.lead gs) arranged (file_within plan.atoms plan.base 0 plan.lead plan.groups (omega arith))) in
    let file = groups_file plan.atoms plan.base 0 plan.lead plan.groups in
    whole_from layout (first_segments command ++ groups_segments plan.atoms plan.base 0 plan.lead plan.groups ++ linkedit (groups_end plan.atoms plan.base plan.lead plan.groups) file ∷ []) (groups_sections plan.atoms plan.base 0 plan.lead plan.groups) segments sects
    (subst (λ (gs : List Group). IsSound (first_segments command ++ groups_segments plan.atoms plan.base 0 plan.lead gs ++ linkedit (groups_end plan.atoms plan.base plan.lead gs) file ∷ []) (groups_sections plan.atoms plan.base 0 plan.lead gs)) (sym arranged) sound)
whole_finished command plan sections bytes (Err e) based low arranged segments sects size = tt
