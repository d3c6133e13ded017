-- Each kept atom that a section lists is placed, and placed once.
use Rattle.std.proofs.Common.{◌≡◌, ◌≢◌, ℕ, zero, suc, ◌+◌, ◌⊎◌, ◌++◌, ◌==◌, ◌&&◌, Bool, true, false, not, List, [], ◌∷◌, map, length, get_or, Option, Some, None, Contains, codes, refl, sym, ap, ap₂, subst, ◌∙◌, inl, inr, arith, append_assoc, append-nil}
use Rattle.std.specs.List.{filter, find, flat_map, AllPairs}
use Rattle.std.specs.Ordering.{is_eq}
use Rattle.std.specs.Str.{bytes_eq}
use Rattle.std.specs.declared.cmp.Ordering.{Ordering}
use Rattle.std.specs.declared.cmp.Ordering.TheVariants.{Less, Equal, Greater}
use Rattle.std.proofs.lemmas.Bool.{cases_Bool, false≢true}
use Rattle.std.proofs.lemmas.Cmp.{tied_itself}
use Rattle.std.proofs.lemmas.List.{map-append}
use Rattle.list_lemmas.proofs.Members.{In, in_from_Contains, Contains_from_in, from_map, in_filter, find_some, find_none, from_flat, in_either, in_flat, in_left, in_right}
use Rattle.command_line.specs.declared.command.Command.{Command}
use Rattle.mo_types.proofs.KeyOrder.{compare_keys_total}
use Rattle.mo_types.specs.Keys.{compare_keys}
use Rattle.mo_types.specs.declared.atom.Atom.{Atom}
use Rattle.mo_types.specs.declared.key.AtomKey.{AtomKey}
use Rattle.mo_types.specs.declared.out_section.OutSection.{OutSection}
use Rattle.slot_plan.specs.declared.list.Slots.{Slots}
use Rattle.tlv_plan.specs.Template.{aligned, atoms_of, keys_of, stand}
use Rattle.atom_index.proofs.Keys.{same_key}
use Rattle.sect_place.specs.Arrangement.{is_code, is_chosen, with_atoms, chosen, section_of, own, group_named, runs_from, runs, MadeBytes, text_parts, constant_parts, writable_parts, groups_of}
use Rattle.sect_list.specs.OutSections.{is_in}
use Rattle.sect_place.specs.Layout.{plan_of, made_bytes, image_places}
use Rattle.sect_place.specs.Places.{with_area, spaced, places, part_from, part_end, parts_places, page_up, group_end, groups_places, area_unit}
use Rattle.sect_place.specs.declared.island.IslandArea.{IslandArea}
use Rattle.sect_place.specs.declared.island.IslandPlan.{IslandPlan}
use Rattle.sect_place.specs.declared.layout.Placed.{Placed}
use Rattle.sect_place.specs.declared.part.Choice.{Choice}
use Rattle.sect_place.specs.declared.part.Choice.TheVariants.{Code, BesideCode, Constant, Writable, Elsewhere}
use Rattle.sect_place.specs.declared.part.Group.{Group}
use Rattle.sect_place.specs.declared.part.Made.{Made}
use Rattle.sect_place.specs.declared.part.Made.TheVariants.{Stubs, UnwindInfo, Got, ThreadPtrs}
use Rattle.sect_place.specs.declared.part.Part.{Part}
use Rattle.sect_place.specs.declared.size.PlaceSizes.{PlaceSizes}
use Rattle.sect_list.proofs.Listed.{names_equal}
use Rattle.sect_list.proofs.Once.{Apart, apart_append, apart_flat, pairs}

-- ---- kept keys of a list

-- the keys of a list that are those of kept atoms
abbrev pub kept_keys : List Atom → List AtomKey → List AtomKey
kept_keys kept keys = map (λ (atom : Atom). atom.key) (atoms_of kept keys)

is_equal : (o : Ordering) → is_eq o ≡ true → o ≡ Equal
is_equal Less e = cc
is_equal Equal e = refl
is_equal Greater e = cc

abbrev pub finds : List Atom → AtomKey → Option Atom
finds kept key = find (λ (atom : Atom). is_eq (compare_keys atom.key key)) kept

pub found_atom : (kept : List Atom) (key : AtomKey) (atom : Atom) → finds kept key ≡ Some atom → (atom.key ≡ key) × In atom kept
found_atom kept key atom e =
    let passes = find_some (λ (a : Atom). is_eq (compare_keys a.key key)) kept atom e in
    (same_key atom.key key (is_equal (compare_keys atom.key key) passes.1), passes.0)

pub atoms_join : (kept : List Atom) (xs ys : List AtomKey) → atoms_of kept (xs ++ ys) ≡ atoms_of kept xs ++ atoms_of kept ys
unfolding atoms_of
atoms_join kept [] ys = refl
atoms_join kept (x ∷ xs) ys = by (finds kept x) refl (atoms_join kept xs ys)
  where
    by : (o : Option Atom) → finds kept x ≡ o → atoms_of kept (xs ++ ys) ≡ atoms_of kept xs ++ atoms_of kept ys → atoms_of kept (x ∷ xs ++ ys) ≡ atoms_of kept (x ∷ xs) ++ atoms_of kept ys
    by None e rest = rw e rest
    by (Some atom) e rest = rw e (ap (λ (zs : List Atom). atom ∷ zs) rest)

pub keys_listed : (kept : List Atom) (keys : List AtomKey) (atom : Atom) → In atom (atoms_of kept keys) → In atom.key keys
unfolding atoms_of
keys_listed kept [] atom h = absurd h
keys_listed kept (key ∷ keys) atom h = by (finds kept key) refl (keys_listed kept keys atom)
  where
    by : (o : Option Atom) → finds kept key ≡ o → (In atom (atoms_of kept keys) → In atom.key keys) → In atom.key (key ∷ keys)
    by None e rest = inr (rest (rw e at h))
    by (Some found) e rest = first (rw e at h)
      where
        first : (found ≡ atom) ⊎ In atom (atoms_of kept keys) → In atom.key (key ∷ keys)
        first (inl p) = inl (sym (found_atom kept key found e).0 ∙ ap (λ (a : Atom). a.key) p)
        first (inr q) = inr (rest q)

pub kept_listed : (kept : List Atom) (keys : List AtomKey) (key : AtomKey) → In key (kept_keys kept keys) → In key keys
kept_listed kept keys key h =
    let found : (atom : Atom) × In atom (atoms_of kept keys) × (atom.key ≡ key) = from_map (λ (atom : Atom). atom.key) (atoms_of kept keys) key h in
    subst (λ (k : AtomKey). In k keys) found.2 (keys_listed kept keys found.0 found.1)

pub kept_apart : (kept : List Atom) (keys : List AtomKey) → Apart keys → Apart (kept_keys kept keys)
unfolding atoms_of
kept_apart kept [] a = tt
kept_apart kept (key ∷ keys) a = by (finds kept key) refl (kept_apart kept keys a.1)
  where
    by : (o : Option Atom) → finds kept key ≡ o → Apart (kept_keys kept keys) → Apart (kept_keys kept (key ∷ keys))
    by None e rest = rw e rest
    by (Some found) e rest = rw e ((λ h. a.0 (subst (λ (k : AtomKey). In k keys) (found_atom kept key found e).0 (kept_listed kept keys found.key h))), rest)

no_key : (kept : List Atom) (atom : Atom) → In atom kept → finds kept atom.key ≡ None → ⊥
no_key kept atom h e =
    let away : is_eq (compare_keys atom.key atom.key) ≡ false = find_none (λ (a : Atom). is_eq (compare_keys a.key atom.key)) kept atom e h in
    let same : is_eq (compare_keys atom.key atom.key) ≡ true = ap is_eq (tied_itself compare_keys_total atom.key) in
    false≢true (sym away ∙ same)

pub kept_there : (kept : List Atom) (keys : List AtomKey) (atom : Atom) → In atom kept → In atom.key keys → In atom.key (kept_keys kept keys)
unfolding atoms_of
kept_there kept [] atom h there = absurd there
kept_there kept (key ∷ keys) atom h (inl p) = by (finds kept key) refl
  where
    by : (o : Option Atom) → finds kept key ≡ o → In atom.key (kept_keys kept (key ∷ keys))
    by None e = absurd (no_key kept atom h (ap (λ (k : AtomKey). finds kept k) (sym p) ∙ e))
    by (Some found) e = rw e (inl ((found_atom kept key found e).0 ∙ p))
kept_there kept (key ∷ keys) atom h (inr q) = by (finds kept key) refl (kept_there kept keys atom h q)
  where
    by : (o : Option Atom) → finds kept key ≡ o → In atom.key (kept_keys kept keys) → In atom.key (kept_keys kept (key ∷ keys))
    by None e rest = rw e rest
    by (Some found) e rest = rw e (inr rest)

-- ---- the keys of sections, segment by segment

pub flat_join : {X Y : Type 0} (f : X → List Y) (xs ys : List X) → flat_map f (xs ++ ys) ≡ flat_map f xs ++ flat_map f ys
flat_join f [] ys = refl
flat_join f (x ∷ xs) ys = ap (λ zs. f x ++ zs) (flat_join f xs ys) ∙ sym (append_assoc (f x) (flat_map f xs) (flat_map f ys))

abbrev pub part_keys : List Part → List AtomKey
part_keys parts = flat_map (λ (part : Part). part.section.atoms) parts

abbrev pub group_keys : List Group → List AtomKey
group_keys groups = flat_map (λ (group : Group). part_keys group.parts) groups

pub own_keys : (made : Made) (bytes : ℕ) → part_keys (own made bytes) ≡ []
own_keys made bytes = elim (cases_Bool (bytes == 0)) [ inl none ↦ rw none refl | inr some ↦ rw some (nothing made) ]
  where
    nothing : (made : Made) → (section_of made).atoms ++ [] ≡ []
    nothing Stubs = refl
    nothing UnwindInfo = refl
    nothing Got = refl
    nothing ThreadPtrs = refl

with_keys : (sections : List OutSection) → part_keys (map with_atoms sections) ≡ keys_of sections
with_keys [] = refl
with_keys (section ∷ sections) = ap (λ (keys : List AtomKey). section.atoms ++ keys) (with_keys sections)

pub chosen_keys : (choice : Choice) (sections : List OutSection) → part_keys (chosen choice sections) ≡ keys_of (filter (is_chosen choice) sections)
unfolding chosen
chosen_keys choice sections = with_keys (filter (is_chosen choice) sections)

named_keys : (name : List ℕ) (parts : List Part) → group_keys (group_named name parts) ≡ part_keys parts
named_keys name [] = refl
named_keys name (part ∷ parts) = append-nil (part_keys (part ∷ parts))

runs_keys : (name : List ℕ) (run parts : List Part) → group_keys (runs_from name run parts) ≡ part_keys (run ++ parts)
runs_keys name run [] = named_keys name run ∙ ap part_keys (sym (append-nil run))
runs_keys name run (part ∷ parts) = elim (cases_Bool (bytes_eq part.section.segment name)) [
  | inl same ↦ rw same (runs_keys name (run ++ part ∷ []) parts ∙ ap part_keys (append_assoc run (part ∷ []) parts))
  | inr away ↦ rw away (flat_join (λ (group : Group). part_keys group.parts) (group_named name run) (runs_from part.section.segment (part ∷ []) parts) ∙ (ap₂ (λ (xs ys : List AtomKey). xs ++ ys) (named_keys name run) (runs_keys part.section.segment (part ∷ []) parts) ∙ sym (flat_join (λ (p : Part). p.section.atoms) run (part ∷ parts))))
]

unfoldable pub choices : List Choice
choices = Code ∷ BesideCode ∷ Constant ∷ Writable ∷ Elsewhere ∷ []

-- the keys of the sections that are chosen, choice by choice
unfoldable pub keys_chosen : List OutSection → Choice → List AtomKey
keys_chosen sections choice = keys_of (filter (is_chosen choice) sections)

pub text_keys : (sections : List OutSection) (bytes : MadeBytes) → part_keys (text_parts sections bytes) ≡ keys_of (filter (is_chosen Code) sections) ++ keys_of (filter (is_chosen BesideCode) sections)
unfolding text_parts
text_keys sections bytes =
    let join = flat_join (λ (p : Part). p.section.atoms) in
    let first = chosen Code sections in
    let stubs = own Stubs bytes.stubs in
    let beside = chosen BesideCode sections in
    let last = own UnwindInfo bytes.unwind in
    let a : part_keys (((first ++ stubs) ++ beside) ++ last) ≡ part_keys ((first ++ stubs) ++ beside) = flat_join (λ (p : Part). p.section.atoms) ((first ++ stubs) ++ beside) last ∙ (ap (λ (keys : List AtomKey). part_keys ((first ++ stubs) ++ beside) ++ keys) (own_keys UnwindInfo bytes.unwind) ∙ append-nil (part_keys ((first ++ stubs) ++ beside))) in
    let b : part_keys ((first ++ stubs) ++ beside) ≡ part_keys (first ++ stubs) ++ part_keys beside = flat_join (λ (p : Part). p.section.atoms) (first ++ stubs) beside in
    let c : part_keys (first ++ stubs) ≡ part_keys first = flat_join (λ (p : Part). p.section.atoms) first stubs ∙ (ap (λ (keys : List AtomKey). part_keys first ++ keys) (own_keys Stubs bytes.stubs) ∙ append-nil (part_keys first)) in
    a ∙ (b ∙ ap₂ (λ (xs ys : List AtomKey). xs ++ ys) (c ∙ chosen_keys Code sections) (chosen_keys BesideCode sections))

own_first : (made : Made) (bytes : ℕ) (choice : Choice) (sections : List OutSection) → part_keys (own made bytes ++ chosen choice sections) ≡ keys_of (filter (is_chosen choice) sections)
own_first made bytes choice sections =
    flat_join (λ (p : Part). p.section.atoms) (own made bytes) (chosen choice sections) ∙ ap₂ (λ (xs ys : List AtomKey). xs ++ ys) (own_keys made bytes) (chosen_keys choice sections)

constant_keys : (sections : List OutSection) (bytes : MadeBytes) → part_keys (constant_parts sections bytes) ≡ keys_of (filter (is_chosen Constant) sections)
unfolding constant_parts
constant_keys sections bytes = own_first Got bytes.got Constant sections

writable_keys : (sections : List OutSection) (bytes : MadeBytes) → part_keys (writable_parts sections bytes) ≡ keys_of (filter (is_chosen Writable) sections)
unfolding writable_parts
writable_keys sections bytes = own_first ThreadPtrs bytes.tlv Writable sections

elsewhere_keys : (sections : List OutSection) → group_keys (runs (chosen Elsewhere sections)) ≡ keys_of (filter (is_chosen Elsewhere) sections)
unfolding runs
elsewhere_keys sections = runs_keys [] [] (chosen Elsewhere sections) ∙ chosen_keys Elsewhere sections

five : (a b c d e : List AtomKey) → ((((a ++ b) ++ []) ++ c) ++ d) ++ e ≡ a ++ (b ++ (c ++ (d ++ (e ++ []))))
five a b c d e = simp (append_assoc, append-nil)

pub all_group_keys : (sections : List OutSection) (bytes : MadeBytes) → group_keys (groups_of sections bytes) ≡ flat_map (keys_chosen sections) choices
unfolding groups_of keys_chosen choices
all_group_keys sections bytes =
    let text : List Group = record { name = codes "__TEXT"; parts = text_parts sections bytes } ∷ [] in
    let constant = group_named (codes "__DATA_CONST") (constant_parts sections bytes) in
    let writable = group_named (codes "__DATA") (writable_parts sections bytes) in
    let elsewhere = runs (chosen Elsewhere sections) in
    let join = flat_join (λ (group : Group). part_keys group.parts) in
    let a : group_keys (((text ++ constant) ++ writable) ++ elsewhere) ≡ group_keys ((text ++ constant) ++ writable) ++ group_keys elsewhere = flat_join (λ (group : Group). part_keys group.parts) ((text ++ constant) ++ writable) elsewhere in
    let b : group_keys ((text ++ constant) ++ writable) ≡ group_keys (text ++ constant) ++ group_keys writable = flat_join (λ (group : Group). part_keys group.parts) (text ++ constant) writable in
    let c : group_keys (text ++ constant) ≡ group_keys text ++ group_keys constant = flat_join (λ (group : Group). part_keys group.parts) text constant in
    let d : group_keys text ≡ (keys_of (filter (is_chosen Code) sections) ++ keys_of (filter (is_chosen BesideCode) sections)) ++ [] = ap (λ (keys : List AtomKey). keys ++ []) (text_keys sections bytes) in
    let e : group_keys constant ≡ keys_of (filter (is_chosen Constant) sections) = named_keys (codes "__DATA_CONST") (constant_parts sections bytes) ∙ constant_keys sections bytes in
    let f : group_keys writable ≡ keys_of (filter (is_chosen Writable) sections) = named_keys (codes "__DATA") (writable_parts sections bytes) ∙ writable_keys sections bytes in
    let plus : List AtomKey → List AtomKey → List AtomKey = λ xs ys. xs ++ ys in
    a ∙ (ap₂ plus (b ∙ ap₂ plus (c ∙ ap₂ plus d e) f) (elsewhere_keys sections)
    ∙ five (keys_of (filter (is_chosen Code) sections)) (keys_of (filter (is_chosen BesideCode) sections)) (keys_of (filter (is_chosen Constant) sections)) (keys_of (filter (is_chosen Writable) sections)) (keys_of (filter (is_chosen Elsewhere) sections)))

-- ---- each section is chosen once

differ : (a b : List ℕ) (section : OutSection) → bytes_eq a b ≡ false → is_in a section ≡ true → is_in b section ≡ false
differ a b section other here =
    let is : section.segment ≡ a = (names_equal section.segment a).0 here in
    rw is other

unfoldable pub choice_by : Bool → Bool → Bool → Bool → Choice
choice_by true b c d = Code
choice_by false true c d = BesideCode
choice_by false false true d = Constant
choice_by false false false true = Writable
choice_by false false false false = Elsewhere

unfoldable pub choice_of : OutSection → Choice
choice_of section = choice_by (is_code section) (is_in (codes "__TEXT") section) (is_in (codes "__DATA_CONST") section) (is_in (codes "__DATA") section)

unfoldable chosen_by : Choice → Bool → Bool → Bool → Bool → Bool
chosen_by Code c t k d = c
chosen_by BesideCode c t k d = t && not c
chosen_by Constant c t k d = k
chosen_by Writable c t k d = d
chosen_by Elsewhere c t k d = not t && not k && not d

chosen_is_by : (choice : Choice) (section : OutSection) → is_chosen choice section ≡ chosen_by choice (is_code section) (is_in (codes "__TEXT") section) (is_in (codes "__DATA_CONST") section) (is_in (codes "__DATA") section)
unfolding is_chosen chosen_by
chosen_is_by Code section = refl
chosen_is_by BesideCode section = refl
chosen_is_by Constant section = refl
chosen_is_by Writable section = refl
chosen_is_by Elsewhere section = refl

no : {X : Type 0} → false ≡ true → X
no e = absurd (false≢true e)

-- what tests of a section say of one another
pub record Agree (c t k d : Bool) : Type 0 where
  pub code : c ≡ true → t ≡ true
  pub text_constant : t ≡ true → k ≡ false
  pub text_writable : t ≡ true → d ≡ false
  pub constant_writable : k ≡ true → d ≡ false

both_no : {X : Type 0} (b : Bool) → b ≡ false → b ≡ true → X
both_no b e f = no (sym e ∙ f)

only : (choice : Choice) (c t k d : Bool) → Agree c t k d → chosen_by choice c t k d ≡ true → choice ≡ choice_by c t k d
unfolding chosen_by choice_by
only Code true t k d a e = refl
only Code false t k d a e = no e
only BesideCode true true k d a e = no e
only BesideCode true false k d a e = no e
only BesideCode false true k d a e = refl
only BesideCode false false k d a e = no e
only Constant true t k d a e = both_no k (a.text_constant (a.code refl)) e
only Constant false true k d a e = both_no k (a.text_constant refl) e
only Constant false false true d a e = refl
only Constant false false false d a e = no e
only Writable true t k d a e = both_no d (a.text_writable (a.code refl)) e
only Writable false true k d a e = both_no d (a.text_writable refl) e
only Writable false false true d a e = both_no d (a.constant_writable refl) e
only Writable false false false true a e = refl
only Writable false false false false a e = no e
only Elsewhere true true k d a e = no e
only Elsewhere true false k d a e = no (a.code refl)
only Elsewhere false true k d a e = no e
only Elsewhere false false true d a e = no e
only Elsewhere false false false true a e = no e
only Elsewhere false false false false a e = refl

some_chosen : (c t k d : Bool) → chosen_by (choice_by c t k d) c t k d ≡ true
unfolding chosen_by choice_by
some_chosen true t k d = refl
some_chosen false true k d = refl
some_chosen false false true d = refl
some_chosen false false false true = refl
some_chosen false false false false = refl

first_true : (a b : Bool) → (a && b) ≡ true → a ≡ true
first_true true b e = refl
first_true false b e = no e

pub agree : (section : OutSection) → Agree (is_code section) (is_in (codes "__TEXT") section) (is_in (codes "__DATA_CONST") section) (is_in (codes "__DATA") section)
agree section = record {
  code = λ e. first_true (is_in (codes "__TEXT") section) (bytes_eq section.name (codes "__text")) (first_true (is_in (codes "__TEXT") section && bytes_eq section.name (codes "__text")) (section.kind == 0) e);
  text_constant = differ (codes "__TEXT") (codes "__DATA_CONST") section refl;
  text_writable = differ (codes "__TEXT") (codes "__DATA") section refl;
  constant_writable = differ (codes "__DATA_CONST") (codes "__DATA") section refl;
}

pub chosen_is : (choice : Choice) (section : OutSection) → is_chosen choice section ≡ true → choice ≡ choice_of section
unfolding choice_of
chosen_is choice section e =
    only choice (is_code section) (is_in (codes "__TEXT") section) (is_in (codes "__DATA_CONST") section) (is_in (codes "__DATA") section) (agree section) (sym (chosen_is_by choice section) ∙ e)

is_chosen_by_one : (section : OutSection) → is_chosen (choice_of section) section ≡ true
unfolding choice_of
is_chosen_by_one section =
    chosen_is_by (choice_of section) section ∙ some_chosen (is_code section) (is_in (codes "__TEXT") section) (is_in (codes "__DATA_CONST") section) (is_in (codes "__DATA") section)

pub chosen_in_text : (section : OutSection) → (is_chosen Code section ≡ true) ⊎ (is_chosen BesideCode section ≡ true) → is_in (codes "__TEXT") section ≡ true
unfolding is_chosen
chosen_in_text section (inl code) = (agree section).code code
chosen_in_text section (inr beside) = first_true (is_in (codes "__TEXT") section) (not (is_code section)) beside

-- ---- no key is listed twice, choice by choice

where_listed : (t : OutSection → Bool) (section : OutSection) (sections : List OutSection) (key : AtomKey) → In key (keys_of (filter t (section ∷ sections))) → ((t section ≡ true) × In key section.atoms) ⊎ In key (keys_of (filter t sections))
where_listed t section sections key h = elim (cases_Bool (t section)) [
  | inl here ↦ here_or here (in_either section.atoms (keys_of (filter t sections)) key (rw here at h))
  | inr away ↦ inr (rw away at h)
]
  where
    here_or : t section ≡ true → In key section.atoms ⊎ In key (keys_of (filter t sections)) → ((t section ≡ true) × In key section.atoms) ⊎ In key (keys_of (filter t sections))
    here_or here (inl p) = inl (here, p)
    here_or here (inr q) = inr q

pub still_listed : (t : OutSection → Bool) (sections : List OutSection) (key : AtomKey) → In key (keys_of (filter t sections)) → In key (keys_of sections)
still_listed t [] key h = absurd h
still_listed t (section ∷ sections) key h = by (where_listed t section sections key h) (still_listed t sections key)
  where
    by : ((t section ≡ true) × In key section.atoms) ⊎ In key (keys_of (filter t sections)) → (In key (keys_of (filter t sections)) → In key (keys_of sections)) → In key (keys_of (section ∷ sections))
    by (inl p) rest = in_left section.atoms (keys_of sections) key p.1
    by (inr q) rest = in_right section.atoms (keys_of sections) key (rest q)

pub apart_split : {X : Type 0} (xs ys : List X) → Apart (xs ++ ys) → Apart xs × Apart ys × ((x : X) → In x xs → In x ys → ⊥)
apart_split [] ys a = (tt, a, λ x h k. h)
apart_split {X = X} (x ∷ xs) ys a =
    let rest = apart_split xs ys a.1 in
    ((λ h. a.0 (in_left xs ys x h), rest.0), rest.1, either rest.2)
  where
    either : ((z : X) → In z xs → In z ys → ⊥) → (z : X) → In z (x ∷ xs) → In z ys → ⊥
    either later z (inl e) k = a.0 (in_right xs ys x (subst (λ (w : X). In w ys) (sym e) k))
    either later z (inr h) k = later z h k

pub filter_keys_apart : (t : OutSection → Bool) (sections : List OutSection) → Apart (keys_of sections) → Apart (keys_of (filter t sections))
filter_keys_apart t [] a = tt
filter_keys_apart t (section ∷ sections) a =
    let parts = apart_split section.atoms (keys_of sections) a in
    elim (cases_Bool (t section)) [
      | inl here ↦ rw here (apart_append section.atoms (keys_of (filter t sections)) parts.0 (filter_keys_apart t sections parts.1) (λ x h k. parts.2 x h (still_listed t sections x k)))
      | inr away ↦ rw away (filter_keys_apart t sections parts.1)
    ]

pub one_choice : (sections : List OutSection) (key : AtomKey) (a b : Choice) → Apart (keys_of sections) → In key (keys_of (filter (is_chosen a) sections)) → In key (keys_of (filter (is_chosen b) sections)) → a ≡ b
one_choice [] key a b apart h k = absurd h
one_choice (section ∷ sections) key a b apart h k =
    let split = apart_split section.atoms (keys_of sections) apart in
    which split.2 (one_choice sections key a b split.1) (where_listed (is_chosen a) section sections key h) (where_listed (is_chosen b) section sections key k)
  where
    which : ((x : AtomKey) → In x section.atoms → In x (keys_of sections) → ⊥) → (In key (keys_of (filter (is_chosen a) sections)) → In key (keys_of (filter (is_chosen b) sections)) → a ≡ b) → ((is_chosen a section ≡ true) × In key section.atoms) ⊎ In key (keys_of (filter (is_chosen a) sections)) → ((is_chosen b section ≡ true) × In key section.atoms) ⊎ In key (keys_of (filter (is_chosen b) sections)) → a ≡ b
    which split rest (inl p) (inl q) = chosen_is a section p.0 ∙ sym (chosen_is b section q.0)
    which split rest (inl p) (inr q) = absurd (split key p.1 (still_listed (is_chosen b) sections key q))
    which split rest (inr p) (inl q) = absurd (split key q.1 (still_listed (is_chosen a) sections key p))
    which split rest (inr p) (inr q) = rest p q

choices_apart : Apart choices
unfolding choices
choices_apart = (first, (second, (third, (fourth, ((λ h. h), tt)))))
  where
    fourth : In Writable (Elsewhere ∷ []) → ⊥
    fourth (inl e) = cc
    fourth (inr h) = h

    third : In Constant (Writable ∷ Elsewhere ∷ []) → ⊥
    third (inl e) = cc
    third (inr (inl e)) = cc
    third (inr (inr h)) = h

    second : In BesideCode (Constant ∷ Writable ∷ Elsewhere ∷ []) → ⊥
    second (inl e) = cc
    second (inr (inl e)) = cc
    second (inr (inr (inl e))) = cc
    second (inr (inr (inr h))) = h

    first : In Code (BesideCode ∷ Constant ∷ Writable ∷ Elsewhere ∷ []) → ⊥
    first (inl e) = cc
    first (inr (inl e)) = cc
    first (inr (inr (inl e))) = cc
    first (inr (inr (inr (inl e)))) = cc
    first (inr (inr (inr (inr h)))) = h

-- what sections list once is placed once, whatever their choice
pub all_apart : (sections : List OutSection) → Apart (keys_of sections) → Apart (flat_map (keys_chosen sections) choices)
unfolding keys_chosen
all_apart sections a =
    apart_flat (λ (choice : Choice). keys_of (filter (is_chosen choice) sections)) choices choices_apart (λ choice h. filter_keys_apart (is_chosen choice) sections a) (λ c d key p q h k. one_choice sections key c d a h k)

pub chosen_there : (t : OutSection → Bool) (sections : List OutSection) (section : OutSection) (key : AtomKey) → In section sections → t section ≡ true → In key section.atoms → In key (keys_of (filter t sections))
chosen_there t sections section key h passes there =
    in_flat (λ (s : OutSection). s.atoms) (filter t sections) section key (in_filter t sections section h passes) there

in_choices : (choice : Choice) → In choice choices
unfolding choices
in_choices Code = inl refl
in_choices BesideCode = inr (inl refl)
in_choices Constant = inr (inr (inl refl))
in_choices Writable = inr (inr (inr (inl refl)))
in_choices Elsewhere = inr (inr (inr (inr (inl refl))))

all_there : (sections : List OutSection) (key : AtomKey) → In key (keys_of sections) → In key (flat_map (keys_chosen sections) choices)
unfolding keys_chosen
all_there sections key h =
    let found : (section : OutSection) × In section sections × In key section.atoms = from_flat (λ (s : OutSection). s.atoms) sections key h in
    in_flat (λ (choice : Choice). keys_of (filter (is_chosen choice) sections)) choices (choice_of found.0) key (in_choices (choice_of found.0)) (chosen_there (is_chosen (choice_of found.0)) sections found.0 key found.1 (is_chosen_by_one found.0) found.2)

pub from_pairs : (keys : List AtomKey) → AllPairs (λ (a : AtomKey) (b : AtomKey). a ≢ b) keys → Apart keys
from_pairs [] pairs = tt
from_pairs (key ∷ keys) pairs = (
  λ h. let there : Contains keys key = Contains_from_in keys key h in pairs 0 (suc there.0) key (omega arith) (omega (arith, there.1)) (sym there.2),
  from_pairs keys (λ i j d low high. pairs (suc i) (suc j) d (omega arith) (omega arith)),
)

-- ---- the keys of what was placed

stand_keys : (at : ℕ) (atoms : List Atom) → map (λ (p : Placed). p.atom) (places (stand at atoms)) ≡ map (λ (atom : Atom). atom.key) atoms
unfolding stand
stand_keys at [] = refl
stand_keys at (atom ∷ atoms) = ap (λ (keys : List AtomKey). atom.key ∷ keys) (stand_keys (aligned atom.align at + atom.size) atoms)

area_keys : (areas : List IslandArea) (unit : ℕ) (atoms : List Atom) → map (λ (atom : Atom). atom.key) (map (with_area areas unit) atoms) ≡ map (λ (atom : Atom). atom.key) atoms
area_keys areas unit [] = refl
area_keys areas unit (atom ∷ atoms) = ap (λ (keys : List AtomKey). atom.key ∷ keys) (area_keys areas unit atoms)

kept_join : (kept : List Atom) (xs ys : List AtomKey) → kept_keys kept (xs ++ ys) ≡ kept_keys kept xs ++ kept_keys kept ys
kept_join kept xs ys = ap (λ (atoms : List Atom). map (λ (atom : Atom). atom.key) atoms) (atoms_join kept xs ys) ∙ map-append (λ (atom : Atom). atom.key) (atoms_of kept xs) (atoms_of kept ys)

parts_keys : (kept : List Atom) (areas : List IslandArea) (unit at : ℕ) (parts : List Part) → map (λ (p : Placed). p.atom) (parts_places (spaced kept areas unit) at parts) ≡ kept_keys kept (part_keys parts)
unfolding parts_places spaced atoms_of
parts_keys kept areas unit at [] = refl
parts_keys kept areas unit at (part ∷ parts) =
    let here = places (stand (part_from at part) (spaced kept areas unit part.section.atoms)) in
    let next = part_end (spaced kept areas unit) at part in
    map-append (λ (p : Placed). p.atom) here (parts_places (spaced kept areas unit) next parts)
    ∙ (ap₂ (λ (xs ys : List AtomKey). xs ++ ys) (stand_keys (part_from at part) (spaced kept areas unit part.section.atoms) ∙ area_keys areas unit (atoms_of kept part.section.atoms)) (parts_keys kept areas unit next parts)
    ∙ sym (kept_join kept part.section.atoms (part_keys parts)))

pub groups_keys : (kept : List Atom) (areas : List IslandArea) (unit at lead : ℕ) (groups : List Group) → map (λ (p : Placed). p.atom) (groups_places (spaced kept areas unit) at lead groups) ≡ kept_keys kept (group_keys groups)
unfolding groups_places atoms_of
groups_keys kept areas unit at lead [] = refl
groups_keys kept areas unit at lead (group ∷ groups) =
    let here = parts_places (spaced kept areas unit) (at + lead) group.parts in
    let next = page_up (group_end (spaced kept areas unit) at lead group) in
    map-append (λ (p : Placed). p.atom) here (groups_places (spaced kept areas unit) next 0 groups)
    ∙ (ap₂ (λ (xs ys : List AtomKey). xs ++ ys) (parts_keys kept areas unit (at + lead) group.parts) (groups_keys kept areas unit next 0 groups)
    ∙ sym (kept_join kept (part_keys group.parts) (group_keys groups)))

pub image_keys : (kept : List Atom) (sections : List OutSection) (slots : Slots) (islands : IslandPlan) (sizes : PlaceSizes) (command : Command) → map (λ (p : Placed). p.atom) (image_places (plan_of kept sections slots islands sizes command)) ≡ kept_keys kept (flat_map (keys_chosen sections) choices)
unfolding image_places plan_of
image_keys kept sections slots islands sizes command =
    groups_keys kept islands.areas (area_unit sections) _ _ (groups_of sections (made_bytes slots sizes)) ∙ ap (kept_keys kept) (all_group_keys sections (made_bytes slots sizes))

mapped_at : {X Y : Type 0} (f : X → Y) (xs : List X) (k : ℕ) (d : X) → get_or (map f xs) k (f d) ≡ f (get_or xs k d)
mapped_at f [] k d = refl
mapped_at f (x ∷ xs) zero d = refl
mapped_at f (x ∷ xs) (suc k) d = mapped_at f xs k d

length_mapped : {X Y : Type 0} (f : X → Y) (xs : List X) → length (map f xs) ≡ length xs
length_mapped f [] = refl
length_mapped f (x ∷ xs) = ap suc (length_mapped f xs)

placed_pairs : (placed : List Placed) → Apart (map (λ (p : Placed). p.atom) placed) → AllPairs (λ (p : Placed) (q : Placed). p.atom ≢ q.atom) placed
placed_pairs placed apart = λ i j d low high same.
    pairs (map (λ (p : Placed). p.atom) placed) apart i j d.atom low (omega (arith, length_mapped (λ (p : Placed). p.atom) placed, high))
    (mapped_at (λ (p : Placed). p.atom) placed i d ∙ (same ∙ sym (mapped_at (λ (p : Placed). p.atom) placed j d)))

pub image_apart : (kept : List Atom) (sections : List OutSection) (slots : Slots) (islands : IslandPlan) (sizes : PlaceSizes) (command : Command) → AllPairs (λ (a : AtomKey) (b : AtomKey). a ≢ b) (keys_of sections) → Apart (map (λ (p : Placed). p.atom) (image_places (plan_of kept sections slots islands sizes command)))
image_apart kept sections slots islands sizes command once =
    subst (λ (keys : List AtomKey). Apart keys) (sym (image_keys kept sections slots islands sizes command)) (kept_apart kept (flat_map (keys_chosen sections) choices) (all_apart sections (from_pairs (keys_of sections) once)))

pub placed_once : (kept : List Atom) (sections : List OutSection) (slots : Slots) (islands : IslandPlan) (sizes : PlaceSizes) (command : Command) → AllPairs (λ (a : AtomKey) (b : AtomKey). a ≢ b) (keys_of sections) → AllPairs (λ (p : Placed) (q : Placed). p.atom ≢ q.atom) (image_places (plan_of kept sections slots islands sizes command))
placed_once kept sections slots islands sizes command once =
    placed_pairs (image_places (plan_of kept sections slots islands sizes command)) (image_apart kept sections slots islands sizes command once)

pub placed_there : (kept : List Atom) (sections : List OutSection) (slots : Slots) (islands : IslandPlan) (sizes : PlaceSizes) (command : Command) (atom : Atom) → Contains kept atom → Contains (keys_of sections) atom.key → (address : ℕ) × Contains (image_places (plan_of kept sections slots islands sizes command)) (record { atom = atom.key; address = address })
placed_there kept sections slots islands sizes command atom h listed =
    let all = image_places (plan_of kept sections slots islands sizes command) in
    let key : In atom.key (map (λ (p : Placed). p.atom) all) = subst (λ (keys : List AtomKey). In atom.key keys) (sym (image_keys kept sections slots islands sizes command)) (kept_there kept (flat_map (keys_chosen sections) choices) atom (in_from_Contains kept atom h) (all_there sections atom.key (in_from_Contains (keys_of sections) atom.key listed))) in
    let found : (p : Placed) × In p all × (p.atom ≡ atom.key) = from_map (λ (p : Placed). p.atom) all atom.key key in
    let same : found.0 ≡ record { atom = atom.key; address = found.0.address } = ap (λ (k : AtomKey). let q : Placed = record { atom = k; address = found.0.address } in q) found.2 in
    (found.0.address, Contains_from_in all (record { atom = atom.key; address = found.0.address }) (subst (λ (p : Placed). In p all) same found.1))
