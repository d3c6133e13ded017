-- The sections of each segment of a plan have its name.
use Rattle.std.proofs.Common.{◌≡◌, ℕ, ◌==◌, ◌++◌, inl, inr, true, codes, List, [], ◌∷◌, map, refl, sym, ap, ◌∙◌}
use Rattle.std.specs.List.{AllByRecursion, filter}
use Rattle.std.specs.Str.{bytes_eq}
use Rattle.std.proofs.lemmas.Bool.{cases_Bool}
use Rattle.list_lemmas.proofs.Members.{In, all_from_in, from_filter, from_map}
use Rattle.mo_types.specs.declared.out_section.OutSection.{OutSection}
use Rattle.sect_list.specs.OutSections.{is_in}
use Rattle.sect_list.proofs.Listed.{names_equal}
use Rattle.sect_place.specs.Arrangement.{MadeBytes, chosen, constant_parts, group_named, groups_of, is_chosen, own, runs, runs_from, section_of, text_parts, with_atoms, writable_parts}
use Rattle.sect_place.specs.declared.part.Choice.{Choice}
use Rattle.sect_place.specs.declared.part.Choice.TheVariants.{Code, BesideCode, Constant, Writable, Elsewhere}
use Rattle.sect_place.specs.declared.part.Group.{Group}
use Rattle.sect_place.specs.declared.part.Made.{Made}
use Rattle.sect_place.specs.declared.part.Made.TheVariants.{Stubs, UnwindInfo, Got, ThreadPtrs}
use Rattle.sect_place.specs.declared.part.Part.{Part}
use Rattle.sect_place.proofs.Positions.{chosen_in_text}
use Rattle.image_laws.proofs.Turned.{IsNamed, appended}

-- sections of a segment of this name
abbrev AreOf : List ℕ → List Part → Type 0
AreOf name parts = AllByRecursion (λ (part : Part). name ≡ part.section.segment) parts

parts_joined : (name : List ℕ) (xs ys : List Part) → AreOf name xs → AreOf name ys → AreOf name (xs ++ ys)
parts_joined name xs ys p q = appended (λ (part : Part). name ≡ part.section.segment) xs ys p q

groups_joined : (xs ys : List Group) → AllByRecursion IsNamed xs → AllByRecursion IsNamed ys → AllByRecursion IsNamed (xs ++ ys)
groups_joined xs ys p q = appended IsNamed xs ys p q

chosen_of : (name : List ℕ) (choice : Choice) (sections : List OutSection) → ((section : OutSection) → is_chosen choice section ≡ true → is_in name section ≡ true) → AreOf name (chosen choice sections)
unfolding chosen
chosen_of name choice sections test = all_from_in (λ (part : Part). name ≡ part.section.segment) (map with_atoms (filter (is_chosen choice) sections)) each
  where
    each : (part : Part) → In part (map with_atoms (filter (is_chosen choice) sections)) → name ≡ part.section.segment
    each part h =
        let found = from_map with_atoms (filter (is_chosen choice) sections) part h in
        let passed = from_filter (is_chosen choice) sections found.0 found.1 in
        sym ((names_equal found.0.segment name).0 (test found.0 passed.1)) ∙ ap (λ (p : Part). p.section.segment) found.2

own_of : (name : List ℕ) (which : Made) (bytes : ℕ) → name ≡ (section_of which).segment → AreOf name (own which bytes)
own_of name which bytes same = elim (cases_Bool (bytes == 0)) [ inl none ↦ rw none tt | inr some ↦ rw some (same, tt) ]

named_of : (name : List ℕ) (parts : List Part) → AreOf name parts → AllByRecursion IsNamed (group_named name parts)
named_of name [] all = tt
named_of name (part ∷ parts) all = (all, tt)

runs_of : (name : List ℕ) (run parts : List Part) → AreOf name run → AllByRecursion IsNamed (runs_from name run parts)
runs_of name run [] had = named_of name run had
runs_of name run (part ∷ parts) had = elim (cases_Bool (bytes_eq part.section.segment name)) [
  | inl same ↦ rw same (runs_of name (run ++ part ∷ []) parts (parts_joined name run (part ∷ []) had (sym ((names_equal part.section.segment name).0 same), tt)))
  | inr away ↦ rw away (groups_joined (group_named name run) (runs_from part.section.segment (part ∷ []) parts) (named_of name run had) (runs_of part.section.segment (part ∷ []) parts (refl, tt)))
]

text_of : (sections : List OutSection) (bytes : MadeBytes) → AreOf (codes "__TEXT") (text_parts sections bytes)
unfolding text_parts
text_of sections bytes =
    let name = codes "__TEXT" in
    parts_joined name (chosen Code sections ++ own Stubs bytes.stubs ++ chosen BesideCode sections) (own UnwindInfo bytes.unwind)
    (parts_joined name (chosen Code sections ++ own Stubs bytes.stubs) (chosen BesideCode sections)
    (parts_joined name (chosen Code sections) (own Stubs bytes.stubs) (chosen_of name Code sections (λ section is. chosen_in_text section (inl is))) (own_of name Stubs bytes.stubs refl))
    (chosen_of name BesideCode sections (λ section is. chosen_in_text section (inr is))))
    (own_of name UnwindInfo bytes.unwind refl)

constant_of : (sections : List OutSection) (bytes : MadeBytes) → AreOf (codes "__DATA_CONST") (constant_parts sections bytes)
unfolding constant_parts is_chosen
constant_of sections bytes =
    parts_joined (codes "__DATA_CONST") (own Got bytes.got) (chosen Constant sections) (own_of (codes "__DATA_CONST") Got bytes.got refl) (chosen_of (codes "__DATA_CONST") Constant sections (λ section is. is))

writable_of : (sections : List OutSection) (bytes : MadeBytes) → AreOf (codes "__DATA") (writable_parts sections bytes)
unfolding writable_parts is_chosen
writable_of sections bytes =
    parts_joined (codes "__DATA") (own ThreadPtrs bytes.tlv) (chosen Writable sections) (own_of (codes "__DATA") ThreadPtrs bytes.tlv refl) (chosen_of (codes "__DATA") Writable sections (λ section is. is))

pub all_named : (sections : List OutSection) (bytes : MadeBytes) → AllByRecursion IsNamed (groups_of sections bytes)
unfolding groups_of runs
all_named sections bytes =
    let text : List Group = record { name = codes "__TEXT"; parts = text_parts sections bytes } ∷ [] in
    let constant : List Group = group_named (codes "__DATA_CONST") (constant_parts sections bytes) in
    let writable : List Group = group_named (codes "__DATA") (writable_parts sections bytes) in
    groups_joined (text ++ constant ++ writable) (runs (chosen Elsewhere sections))
    (groups_joined (text ++ constant) writable (groups_joined text constant (text_of sections bytes, tt) (named_of (codes "__DATA_CONST") (constant_parts sections bytes) (constant_of sections bytes)))
    (named_of (codes "__DATA") (writable_parts sections bytes) (writable_of sections bytes)))
    (runs_of [] [] (chosen Elsewhere sections) tt)
