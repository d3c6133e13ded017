-- The section of an image that lists an atom is the one to which the atom's own section goes.
use Rattle.std.proofs.Common.{◌≡◌, ℕ, ◌<◌, ◌≤◌, ◌==◌, ◌&&◌, ◌||◌, inl, inr, ◌⊎◌, Bool, true, false, not, List, [], ◌∷◌, length, get_or, slice_get, Some, Contains, codes, refl, sym, ap, ◌∙◌, arith, subst, if◌then◌else◌}
use Rattle.std.specs.List.{AllPairs, filter, find}
use Rattle.std.specs.Ordering.{is_eq}
use Rattle.std.specs.Str.{bytes_eq}
use Rattle.std.proofs.lemmas.Bool.{ne_eqb}
use Rattle.std.proofs.lemmas.Option.{get_or_from_slice_get, slice_get_within}
use Rattle.std.proofs.lemmas.Slice.Eq.{bytes_eq-Decides}
use Rattle.list_lemmas.proofs.Members.{Contains_from_in, In, from_filter, from_filter_map, from_flat, from_map, in_from_Contains}
use Rattle.mo_types.specs.Destination.{Destination, destination_segment, is_constant, is_instructions, is_thread_local as is_thread_kind}
use Rattle.mo_types.specs.Keys.{compare_files}
use Rattle.mo_types.specs.Loaded.{IsBefore}
use Rattle.mo_types.specs.RelocationRules.{section_numbered}
use Rattle.mo_types.specs.declared.atom.Atom.{Atom}
use Rattle.mo_types.specs.declared.key.AtomKey.{AtomKey}
use Rattle.mo_types.specs.declared.loaded.LoadedFile.{LoadedFile}
use Rattle.mo_types.specs.declared.object.Section.{Section}
use Rattle.mo_types.specs.declared.out_section.OutSection.{OutSection}
use Rattle.tlv_plan.specs.Template.{greatest_align, is_thread_local, keys_of, thread_local}
use Rattle.patch.proofs.ChosenLemmas.{from_mapped, some_is}
use Rattle.sect_list.specs.OutSections.{Home, Row, going_to, home_in, home_of, in_order, is_in, led, led_by, out_sections, row_of, rows, same_destination, section_with, sections_of}
use Rattle.sect_list.proofs.Gathering.{equal}
use Rattle.sect_list.proofs.Homes.{file_found, files_rise, start}
use Rattle.sect_list.proofs.Listed.{kept_are_listed}
use Rattle.sect_list.proofs.Once.{order_members, section_behind}
use Rattle.sect_place.proofs.Positions.{chosen_there}

-- ---- from a section to its atoms

-- an atom with this key goes to a section of this segment and type
pub record GoesTo (files : List LoadedFile) (key : AtomKey) (segment : List ℕ) (kind : ℕ) : Type 0 where
  pub home : Home
  pub of_key : home_of files key.file key.section ≡ Some home
  pub into : home.to.segment ≡ segment
  pub to : home.to.kind ≡ kind

-- a section of some has the atoms, the segment and the type
record IsFrom (sections : List OutSection) (section : OutSection) : Type 0 where
  from : OutSection
  among : In from sections
  atoms : from.atoms ≡ section.atoms
  segment : from.segment ≡ section.segment
  kind : from.kind ≡ section.kind

led_from : (align : ℕ) (sections : List OutSection) (section : OutSection) → In section (led_by align sections) → IsFrom sections section
led_from align [] section h = absurd h
led_from align (s ∷ sections) section h = by (is_thread_local s) refl (led_from align sections section)
  where
    later : IsFrom sections section → IsFrom (s ∷ sections) section
    later rest = record { from = rest.from; among = inr rest.among; atoms = rest.atoms; segment = rest.segment; kind = rest.kind }

    raised : (record s { align = align } ≡ section) ⊎ In section sections → IsFrom (s ∷ sections) section
    raised (inl e) = record { from = s; among = inl refl; atoms = ap (λ (q : OutSection). q.atoms) e; segment = ap (λ (q : OutSection). q.segment) e; kind = ap (λ (q : OutSection). q.kind) e }
    raised (inr there) = record { from = section; among = inr there; atoms = refl; segment = refl; kind = refl }

    plain : (s ≡ section) ⊎ In section (led_by align sections) → (In section (led_by align sections) → IsFrom sections section) → IsFrom (s ∷ sections) section
    plain (inl e) rest = record { from = s; among = inl refl; atoms = ap (λ (q : OutSection). q.atoms) e; segment = ap (λ (q : OutSection). q.segment) e; kind = ap (λ (q : OutSection). q.kind) e }
    plain (inr there) rest = later (rest there)

    by : (b : Bool) → is_thread_local s ≡ b → (In section (led_by align sections) → IsFrom sections section) → IsFrom (s ∷ sections) section
    by true e rest = raised (rw e at h)
    by false e rest = plain (rw e at h) rest

-- a row goes where its atom does
row_goes : (files : List LoadedFile) (kept : List Atom) (row : Row) → In row (rows files kept) → home_of files row.atom.key.file row.atom.key.section ≡ Some row.home
unfolding rows row_of
row_goes files kept row h =
    let of_atom = from_filter_map (row_of files) kept row h in
    let made = from_mapped (λ (home : Home). let r : Row = record { atom = of_atom.0; home = home } in r) (home_of files of_atom.0.key.file of_atom.0.key.section) row of_atom.2 in
    let same : of_atom.0 ≡ row.atom = ap (λ (r : Row). r.atom) made.2 in
    ap (λ (a : Atom). home_of files a.key.file a.key.section) (sym same) ∙ made.1 ∙ ap (λ (r : Row). Some r.home) made.2

of_rows : (files : List LoadedFile) (kept : List Atom) (section : OutSection) (key : AtomKey) → In section (sections_of (rows files kept)) → In key section.atoms → GoesTo files key section.segment section.kind
unfolding section_with going_to
of_rows files kept section key h listed =
    let all : List Row = rows files kept in
    let behind = section_behind all section h in
    let there : In key (section_with behind.0 (going_to all behind.0)).atoms = subst (λ (s : OutSection). In key s.atoms) (sym behind.1) listed in
    let row = from_map (λ (r : Row). r.atom.key) (going_to all behind.0) key there in
    let passed = from_filter (λ (r : Row). same_destination r.home.to behind.0) all row.0 row.1 in
    let to = (equal row.0.home.to behind.0).0 passed.1 in
    record {
      home = row.0.home;
      of_key = ap (λ (k : AtomKey). home_of files k.file k.section) (sym row.2) ∙ row_goes files kept row.0 passed.0;
      into = ap (λ (d : Destination). d.segment) to ∙ ap (λ (s : OutSection). s.segment) behind.1;
      to = ap (λ (d : Destination). d.kind) to ∙ ap (λ (s : OutSection). s.kind) behind.1;
    }

pub goes : (files : List LoadedFile) (kept : List Atom) (section : OutSection) (key : AtomKey) → In section (out_sections files kept) → In key section.atoms → GoesTo files key section.segment section.kind
unfolding out_sections led
goes files kept section key h listed =
    let ordered : List OutSection = in_order (sections_of (rows files kept)) in
    let one = led_from (greatest_align (thread_local ordered)) ordered section h in
    subst (λ (n : ℕ). GoesTo files key section.segment n) one.kind (subst (λ (name : List ℕ). GoesTo files key name one.from.kind) one.segment
    (of_rows files kept one.from key (order_members (sections_of (rows files kept)) one.from one.among) (subst (λ (keys : List AtomKey). In key keys) (sym one.atoms) listed)))

-- ---- the home of an object's atoms

-- the section of a number is one of a whole object's
numbered_low : (sections : List Section) (number : ℕ) (section : Section) → section_numbered sections number ≡ Some section → number ≡ 256 → 255 < length sections
numbered_low sections number section numbered common =
    let there : section_numbered sections 256 ≡ Some section = ap (section_numbered sections) (sym common) ∙ numbered in
    slice_get_within sections 255 section there

pub section_home : (files : List LoadedFile) (at : ℕ) (file : LoadedFile) (number : ℕ) (section : Section) → AllPairs (λ (a : LoadedFile) (b : LoadedFile). IsBefore a.id b.id) files → slice_get files at ≡ Some file → length file.object.sections ≤ 255 → section_numbered file.object.sections number ≡ Some section → home_of files file.id number ≡ Some (home_in section)
unfolding home_of
section_home files at file number section rises there few numbered =
    let uncommon : (number == 256) ≡ false = ne_eqb number 256 (λ e. let low = numbered_low file.object.sections number section numbered e in omega (arith, low, few)) in
    let is : get_or files at file ≡ file = get_or_from_slice_get files at file file there in
    let found : find (λ (one : LoadedFile). is_eq (compare_files one.id file.id)) files ≡ Some file =
    file_found files file.id at file (files_rise files rises) (slice_get_within files at file there) (ap (λ (one : LoadedFile). start one.id) is) ∙ ap (λ (one : LoadedFile). Some one) is in
    rw (uncommon, found, numbered) refl

-- what is in `__TEXT` stays there
text_stays : (section : Section) → section.segment ≡ codes "__TEXT" → destination_segment section ≡ codes "__TEXT"
unfolding destination_segment is_constant
text_stays section text =
    let other : bytes_eq section.segment (codes "__DATA") ≡ false = ap (λ (name : List ℕ). bytes_eq name (codes "__DATA")) text in
    by (is_instructions section) (bytes_eq section.segment (codes "__DATA")) other
  where
    by : (b c : Bool) → c ≡ false → (if b then codes "__TEXT" else if c && (bytes_eq section.name (codes "__const") || bytes_eq section.name (codes "__mod_init_func")) && not (is_thread_kind section.kind) then codes "__DATA_CONST" else section.segment) ≡ codes "__TEXT"
    by true c e = refl
    by false true e = absurd cc
    by false false e = text

pub text_home : (section : Section) → section.segment ≡ codes "__TEXT" → (home_in section).to.segment ≡ codes "__TEXT"
unfolding home_in
text_home section text = text_stays section text

-- an atom that goes to `__TEXT` is listed there
pub text_listed : (files : List LoadedFile) (kept : List Atom) (atom : Atom) (home : Home) → In atom kept → home_of files atom.key.file atom.key.section ≡ Some home → home.to.segment ≡ codes "__TEXT" → Contains (keys_of (filter (is_in (codes "__TEXT")) (out_sections files kept))) atom.key
text_listed files kept atom home h is text =
    let all = out_sections files kept in
    let listed = kept_are_listed files kept atom home (Contains_from_in kept atom h) (sym is) in
    let of_section = from_flat (λ (s : OutSection). s.atoms) all atom.key (in_from_Contains (keys_of all) atom.key listed) in
    let to = goes files kept of_section.0 atom.key of_section.1 of_section.2 in
    let same : to.home ≡ home = some_is to.home home (sym to.of_key ∙ is) in
    let segment : of_section.0.segment ≡ codes "__TEXT" = sym to.into ∙ ap (λ (one : Home). one.to.segment) same ∙ text in
    Contains_from_in (keys_of (filter (is_in (codes "__TEXT")) all)) atom.key
    (chosen_there (is_in (codes "__TEXT")) all of_section.0 atom.key of_section.1 ((bytes_eq-Decides of_section.0.segment (codes "__TEXT")).1 segment) of_section.2)
