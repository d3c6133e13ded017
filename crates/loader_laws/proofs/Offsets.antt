-- The offsets of the template's atoms count from where the image has the template begin.
use Rattle.std.proofs.Common.{◌≡◌, ◌⊎◌, ℕ, ◌+◌, ◌-◌, ◌≤◌, ◌==◌, Bool, true, false, cond, min, List, [], ◌∷◌, map, find, Option, Some, None, inl, inr, refl, sym, ap, ◌∙◌, subst, arith, if◌then◌else◌}
use Rattle.std.specs.Prelude.{All, IsSome}
use Rattle.std.specs.FinMap as finite
use Rattle.std.specs.FinMap.{get-from_entries}
use Rattle.std.specs.List.{filter_map}
use Rattle.std.specs.Option.{option_and_then, option_map, option_map_or}
use Rattle.std.specs.Ordering.{is_eq}
use Rattle.std.proofs.lemmas.Bool.{cases_Bool, cases_lt, eq-eqb, false≢true, ne_eqb}
use Rattle.std.proofs.lemmas.Option.{slice_get_within}
use Rattle.list_lemmas.proofs.Members.{In, find_some, from_filter_map, from_flat, from_map, in_filter_map, in_flat, in_map}
use Rattle.literal_merge.proofs.RepresentativeLemmas.{atoms_of_file}
use Rattle.mark_core.specs.Kept.{has}
use Rattle.mo_types.proofs.KeyOrder.{compare_keys_total}
use Rattle.mo_types.specs.Atoms as cuts
use Rattle.mo_types.specs.Destination.{destination_kind, is_instructions}
use Rattle.mo_types.specs.Keys.{compare_files, compare_keys}
use Rattle.mo_types.specs.Loaded.{IsWholeFile}
use Rattle.mo_types.specs.RelocationRules.{least, section_numbered}
use Rattle.mo_types.specs.Whole.{IsWhole, is_dropped}
use Rattle.mo_types.specs.declared.atom.Atom.{Atom}
use Rattle.mo_types.specs.declared.goal.Goal.{Goal}
use Rattle.mo_types.specs.declared.goal.Goal.TheVariants.{Def, WeakSelf, Header, Import, Flat, Nobody}
use Rattle.mo_types.specs.declared.key.AtomKey.{AtomKey}
use Rattle.mo_types.specs.declared.key.TheConstants.{COMMON_SECTION}
use Rattle.mo_types.specs.declared.loaded.LoadedFile.{LoadedFile}
use Rattle.mo_types.specs.declared.object.Section.{Section}
use Rattle.atom_cut.specs.Laws.{HasItsBytes}
use Rattle.atom_cut.proofs.OwnBytes.{atoms_have_bytes}
use Rattle.field_laws.specs.Pointers.{addresses_of}
use Rattle.field_laws.proofs.Found.{address_found}
use Rattle.image_read.specs.Held.{AtomMap, in_atom}
use Rattle.ref_meet.specs.Addresses.{address_by, place_address}
use Rattle.ref_meet.specs.Scene.{kind_in}
use Rattle.ref_meet.specs.Template.{in_template, leads_to_template, offset_from, template_offset, template_start}
use Rattle.sect_list.specs.OutSections.{Home, common_home, home_in, home_of}
use Rattle.sect_place.specs.Addresses.{address_in}
use Rattle.sect_place.specs.declared.layout.Layout.{Layout}
use Rattle.sect_place.specs.declared.layout.PlacedSection.{PlacedSection}
use Rattle.slot_needs.specs.Needs.{is_outer}
use Rattle.tlv_plan.specs.Template.{is_thread_local}
use Rattle.image_make.specs.Made.{IsLaid, ImageInputs, kept_of, scene_of}
use Rattle.image_make.specs.declared.kept.KeptAtom.{KeptAtom}
use Rattle.image_laws.specs.Means.{AreRising}
use Rattle.image_laws.specs.References.{AreOffsets, HasAddress}
use Rattle.image_laws.proofs.Loading.{from_all}
use Rattle.link_files.proofs.Cuts.{at_place}
use Rattle.link_files.proofs.KeptLemmas.{same_file}
use Rattle.link_files.proofs.Lists.{from_mapped, from_then, in_slice, no_some, not_none, some_is}
use Rattle.loader_laws.specs.LinkOf.{is_template, template_atom, template_atoms, template_offsets}
use Rattle.loader_laws.specs.Tellings.{IsRegularCode}
use Rattle.loader_laws.proofs.Finding.{cut_from, file_found, key_found, key_itself, one_file}
use Rattle.loader_laws.proofs.Placing.{IsCommonOf, IsKeptFrom, IsLinking, kept_from}
use Rattle.loader_laws.proofs.Template.{IsHosted, IsTemplateStart, hosted, placed_kept, starts}
use Rattle.image_make.proofs.HomeLemmas.{GoesTo}
use Rattle.loader_laws.proofs.Typed.{layout_goes}

-- ---- the least of some numbers

-- a number of a list that none of it is below
record IsLeast (xs : List ℕ) (n : ℕ) : Type 0 where
  pub among : In n xs
  pub below : (x : ℕ) → In x xs → n ≤ x

least_has : (x : ℕ) (xs : List ℕ) → (n : ℕ) × (least (x ∷ xs) ≡ Some n) × IsLeast (x ∷ xs) n
least_has x [] = (x, refl, record { among = inl refl; below = λ y h. by y h })
  where
    by : (y : ℕ) → (x ≡ y) ⊎ ⊥ → x ≤ y
    by y (inl e) = omega (arith, e)
    by y (inr none) = absurd none
least_has x (z ∷ zs) =
    let rest = least_has z zs in
    let low : min x rest.0 ≤ rest.0 = omega arith in
    (min x rest.0, ap (λ (o : Option ℕ). Some (option_map_or (min x) o x)) rest.1, record { among = either (cases_least x rest.0) rest.2.among; below = λ y h. by rest.0 rest.2 y h })
  where
    cases_least : (a b : ℕ) → (a ≡ min a b) ⊎ (b ≡ min a b)
    cases_least a b = elim (cases_lt a b) [ inl less ↦ inl (omega (arith, less)) | inr more ↦ inr (omega (arith, more)) ]

    either : {n : ℕ} → (x ≡ min x n) ⊎ (n ≡ min x n) → In n (z ∷ zs) → In (min x n) (x ∷ z ∷ zs)
    either (inl e) there = inl e
    either (inr e) there = inr (subst (λ (k : ℕ). In k (z ∷ zs)) e there)

    by : (n : ℕ) → IsLeast (z ∷ zs) n → (y : ℕ) → In y (x ∷ z ∷ zs) → min x n ≤ y
    by n is y (inl e) = omega (arith, e)
    by n is y (inr there) = let low = is.below y there in omega (arith, low)

least_is : (xs : List ℕ) (n : ℕ) → IsLeast xs n → least xs ≡ Some n
least_is [] n is = absurd is.among
least_is (x ∷ xs) n is =
    let has = least_has x xs in
    let up = is.below has.0 has.2.among in
    let down = has.2.below n is.among in
    let same : has.0 ≡ n = omega (arith, up, down) in
    has.1 ∙ ap Some same

-- ---- look-ups

find_entry : (entries : List (AtomKey × ℕ)) (key : AtomKey) (n : ℕ) → In (key, n) entries → ((m : ℕ) → In (key, m) entries → m ≡ n) → finite.find compare_keys key entries ≡ Some n
find_entry [] key n h one = absurd h
find_entry (e ∷ entries) key n h one = by (is_eq (compare_keys key e.0)) refl h (λ there. find_entry entries key n there (λ m k. one m (inr k)))
  where
    here : is_eq (compare_keys key e.0) ≡ true → Some e.1 ≡ Some n
    here same =
        let is : key ≡ e.0 = key_found key e.0 same in
        ap Some (one e.1 (inl (ap (λ (k : AtomKey). let p : AtomKey × ℕ = (k, e.1) in p) (sym is))))

    other : is_eq (compare_keys key e.0) ≡ false → (e ≡ (key, n)) ⊎ In (key, n) entries → In (key, n) entries
    other differs (inl is) = absurd (false≢true (sym differs ∙ ap (λ (p : AtomKey × ℕ). is_eq (compare_keys key p.0)) is ∙ key_itself key))
    other differs (inr there) = there

    by : (b : Bool) → is_eq (compare_keys key e.0) ≡ b → (e ≡ (key, n)) ⊎ In (key, n) entries → (In (key, n) entries → finite.find compare_keys key entries ≡ Some n) → cond b (Some e.1) (finite.find compare_keys key entries) ≡ Some n
    by true f there rest = here f
    by false f there rest = rest (other f there)

find_missing : (entries : List (AtomKey × ℕ)) (key : AtomKey) → ((m : ℕ) → In (key, m) entries → ⊥) → finite.find compare_keys key entries ≡ None
find_missing [] key none = refl
find_missing (e ∷ entries) key none = by (is_eq (compare_keys key e.0)) refl (find_missing entries key (λ m h. none m (inr h)))
  where
    by : (b : Bool) → is_eq (compare_keys key e.0) ≡ b → finite.find compare_keys key entries ≡ None → cond b (Some e.1) (finite.find compare_keys key entries) ≡ None
    by true f rest = let is : key ≡ e.0 = key_found key e.0 f in absurd (none e.1 (inl (ap (λ (k : AtomKey). let p : AtomKey × ℕ = (k, e.1) in p) (sym is))))
    by false f rest = rest

-- ---- the atoms of the template

-- an atom of one of the files, in a section of the template, with its address
pub record IsTemplateAtom (m : ImageInputs) (layout : Layout) (key : AtomKey) (address : ℕ) : Type 0 where
  pub file : LoadedFile
  pub among : In file m.files
  pub atom : Atom
  pub of_file : In atom file.atoms
  pub named : atom.key ≡ key
  pub section : Section
  pub numbered : section_numbered file.object.sections key.section ≡ Some section
  pub kind : is_template section.kind ≡ true
  pub stands : address_in layout.placed key ≡ Some address

abbrev atoms_of : ImageInputs → Layout → List (AtomKey × ℕ)
atoms_of m layout = template_atoms (addresses_of layout.placed) m.files

abbrev pair : AtomKey → ℕ → AtomKey × ℕ
pair key address = (key, address)

in_atoms : (m : ImageInputs) (layout : Layout) (key : AtomKey) (address : ℕ) → IsTemplateAtom m layout key address → In (key, address) (atoms_of m layout)
unfolding template_atoms template_atom
in_atoms m layout key address is =
    let found : finite.get (addresses_of layout.placed) is.atom.key ≡ Some address = ap (finite.get (addresses_of layout.placed)) is.named ∙ address_found layout.placed key ∙ is.stands in
    let numbered : section_numbered is.file.object.sections is.atom.key.section ≡ Some is.section = ap (λ (k : AtomKey). section_numbered is.file.object.sections k.section) is.named ∙ is.numbered in
    let kind = is.kind in
    let made : template_atom (addresses_of layout.placed) is.file is.atom ≡ Some (is.atom.key, address) = rw (numbered, kind, found) refl in
    let there : In (is.atom.key, address) (filter_map (template_atom (addresses_of layout.placed) is.file) is.file.atoms) =
    in_filter_map (template_atom (addresses_of layout.placed) is.file) is.file.atoms is.atom (is.atom.key, address) is.of_file made in
    subst (λ (k : AtomKey). In (k, address) (atoms_of m layout)) is.named
    (in_flat (λ (file : LoadedFile). filter_map (template_atom (addresses_of layout.placed) file) file.atoms) m.files is.file (is.atom.key, address) is.among there)

from_option : (b : Bool) (o : Option (AtomKey × ℕ)) (p : AtomKey × ℕ) → (if b then o else None) ≡ Some p → (b ≡ true) × (o ≡ Some p)
from_option true o p e = (refl, e)
from_option false o p e = no_some p e

from_section : (o : Option Section) → option_map_or (λ (section : Section). is_template section.kind) o false ≡ true → (section : Section) × (o ≡ Some section) × (is_template section.kind ≡ true)
from_section None e = absurd (false≢true e)
from_section (Some section) e = (section, refl, e)

from_atoms : (m : ImageInputs) (layout : Layout) (p : AtomKey × ℕ) → In p (atoms_of m layout) → IsTemplateAtom m layout p.0 p.1
unfolding template_atoms template_atom
from_atoms m layout p h =
    let of = from_flat (λ (file : LoadedFile). filter_map (template_atom (addresses_of layout.placed) file) file.atoms) m.files p h in
    let file : LoadedFile = of.0 in
    let atom = from_filter_map (template_atom (addresses_of layout.placed) file) file.atoms p of.2 in
    let is = from_option (option_map_or (λ (section : Section). is_template section.kind) (section_numbered file.object.sections atom.0.key.section) false) _ p atom.2 in
    let section = from_section (section_numbered file.object.sections atom.0.key.section) is.0 in
    let found = from_mapped (λ (address : ℕ). pair atom.0.key address) (finite.get (addresses_of layout.placed) atom.0.key) p is.1 in
    let named : atom.0.key ≡ p.0 = ap (λ (q : AtomKey × ℕ). q.0) found.2 in
    let at : found.0 ≡ p.1 = ap (λ (q : AtomKey × ℕ). q.1) found.2 in
    record {
      file = file;
      among = of.1;
      atom = atom.0;
      of_file = atom.1;
      named = named;
      section = section.0;
      numbered = ap (λ (k : AtomKey). section_numbered file.object.sections k.section) (sym named) ∙ section.1;
      kind = section.2;
      stands = ap (address_in layout.placed) (sym named) ∙ sym (address_found layout.placed atom.0.key) ∙ found.1 ∙ ap Some at;
    }

-- ---- they are those of the template's sections

-- a file's section has no number of common symbols
not_common : (file : LoadedFile) (number : ℕ) (section : Section) → IsWhole file.object → section_numbered file.object.sections number ≡ Some section → (number == COMMON_SECTION) ≡ false
not_common file number section whole numbered =
    let place = at_place file.object.sections number section numbered in
    let within = slice_get_within file.object.sections place.0 section place.2 in
    let few = whole.few_sections in
    let at : 1 + place.0 ≡ number = place.1 in
    ne_eqb number COMMON_SECTION (λ e. omega (arith, e, at, within, few))

-- where the atoms of a file's section go
section_home : (m : ImageInputs) (file : LoadedFile) (key : AtomKey) (section : Section) → IsLinking m → In file m.files → file.id ≡ key.file → section_numbered file.object.sections key.section ≡ Some section → home_of m.files key.file key.section ≡ Some (home_in section)
unfolding home_of
section_home m file key section linking among same numbered =
    let uncommon = not_common file key.section section (from_all IsWholeFile m.files file linking.solid.whole among).object numbered in
    rw (uncommon, file_found m.files file key.file linking.ordered among same, numbered) refl

-- code isn't in the template
code_away : (section : Section) → is_template section.kind ≡ true → is_dropped section ≡ false → IsRegularCode section → is_instructions section ≡ false
code_away section kind linked regular = elim (cases_Bool (is_instructions section)) [
  | inl code ↦ absurd (false≢true (ap is_template (sym (regular linked code)) ∙ kind))
  | inr away ↦ away
]

kind_stays : (section : Section) → is_instructions section ≡ false → destination_kind section ≡ section.kind
unfolding destination_kind
kind_stays section away = rw away refl

kind_from : (section : Section) → is_template (destination_kind section) ≡ true → is_template section.kind ≡ true
unfolding destination_kind
kind_from section e = elim (cases_Bool (is_instructions section)) [
  | inl code ↦ absurd (false≢true (rw code at e))
  | inr away ↦ rw away at e
]

-- the section of the image that lists such an atom is one of the template's
host_local : (m : ImageInputs) (layout : Layout) (key : AtomKey) (address : ℕ) (host : PlacedSection) → IsLinking m → IsLaid m layout → IsTemplateAtom m layout key address → In host layout.sections → In key host.section.atoms → is_thread_local host.section ≡ true
unfolding home_in
host_local m layout key address host linking laid is among lists =
    let whole : IsWholeFile is.file = from_all IsWholeFile m.files is.file linking.solid.whole is.among in
    let cut : In is.atom (cuts.atoms_of is.file.object is.file.id) = cut_from is.file is.atom whole is.of_file in
    let has : HasItsBytes is.file.object is.atom = from_all (HasItsBytes is.file.object) (cuts.atoms_of is.file.object is.file.id) is.atom (atoms_have_bytes is.file.object is.file.id whole.object) cut in
    let own : has.section ≡ is.section = some_is has.section is.section (sym has.numbered ∙ ap (λ (k : AtomKey). section_numbered is.file.object.sections k.section) is.named ∙ is.numbered) in
    let linked : is_dropped is.section ≡ false = ap is_dropped (sym own) ∙ has.linked in
    let place = at_place is.file.object.sections is.atom.key.section has.section has.numbered in
    let there : In is.section is.file.object.sections = subst (λ (s : Section). In s is.file.object.sections) own (in_slice is.file.object.sections place.0 has.section place.2) in
    let regular : IsRegularCode is.section = from_all IsRegularCode is.file.object.sections is.section (from_all (λ (f : LoadedFile). All IsRegularCode f.object.sections) m.files is.file linking.named.code is.among) there in
    let id : is.file.id ≡ key.file = sym (atoms_of_file is.file.object is.file.id is.atom cut) ∙ ap (λ (k : AtomKey). k.file) is.named in
    let to = layout_goes m layout host key laid among lists in
    let home : to.home ≡ home_in is.section = some_is to.home (home_in is.section) (sym to.of_key ∙ section_home m is.file key is.section linking is.among id is.numbered) in
    let kind : host.section.kind ≡ is.section.kind = sym to.to ∙ ap (λ (h : Home). h.to.kind) home ∙ kind_stays is.section (code_away is.section is.kind linked regular) in
    ap is_template kind ∙ is.kind

-- an atom that is placed, of a section of the template by its number
pub is_atom : (m : ImageInputs) (layout : Layout) (key : AtomKey) (address : ℕ) (file : LoadedFile) (section : Section) → IsLinking m → IsLaid m layout → address_in layout.placed key ≡ Some address → In file m.files → file.id ≡ key.file → section_numbered file.object.sections key.section ≡ Some section → is_template section.kind ≡ true → IsTemplateAtom m layout key address
is_atom m layout key address file section linking laid stood among same numbered kind = by from.from
  where
    kept : (one : KeptAtom) × In one (kept_of m) × (one.atom.key ≡ key)
    kept = placed_kept m layout key address laid stood

    from : IsKeptFrom m kept.0
    from = kept_from m kept.0 kept.1

    named : from.atom.key ≡ key
    named = from.named ∙ kept.2

    by : (In from.atom from.file.atoms × (has m.keys from.atom.key ≡ true)) ⊎ IsCommonOf from.file from.atom.key → IsTemplateAtom m layout key address
    by (inl piece) =
        let there : In from.file m.files = in_slice m.files kept.0.file from.file from.there in
        let whole : IsWholeFile from.file = from_all IsWholeFile m.files from.file linking.solid.whole there in
        let id : from.file.id ≡ file.id = sym (atoms_of_file from.file.object from.file.id from.atom (cut_from from.file from.atom whole piece.0)) ∙ ap (λ (k : AtomKey). k.file) named ∙ sym same in
        let one : from.file ≡ file = one_file m.files from.file file linking.ordered there among id in
        record {
          file = file;
          among = among;
          atom = from.atom;
          of_file = subst (λ (f : LoadedFile). In from.atom f.atoms) one piece.0;
          named = named;
          section = section;
          numbered = numbered;
          kind = kind;
          stands = stood;
        }
    by (inr common) =
        let number : key.section ≡ COMMON_SECTION = ap (λ (k : AtomKey). k.section) (sym named) ∙ common.common in
        let clash : (key.section == COMMON_SECTION) ≡ false = not_common file key.section section (from_all IsWholeFile m.files file linking.solid.whole among).object numbered in
        absurd (false≢true (sym clash ∙ eq-eqb key.section COMMON_SECTION number))

-- what a home comes from
record IsHomeIn (files : List LoadedFile) (key : AtomKey) (home : Home) : Type 0 where
  pub file : LoadedFile
  pub among : In file files
  pub same : file.id ≡ key.file
  pub section : Section
  pub numbered : section_numbered file.object.sections key.section ≡ Some section
  pub is : home_in section ≡ home

home_behind : (files : List LoadedFile) (key : AtomKey) (home : Home) → home_of files key.file key.section ≡ Some home → (common_home ≡ home) ⊎ IsHomeIn files key home
unfolding home_of
home_behind files key home e = by (key.section == COMMON_SECTION) refl e
  where
    test : LoadedFile → Bool
    test file = is_eq (compare_files file.id key.file)

    to : LoadedFile → Option Home
    to file = option_map home_in (section_numbered file.object.sections key.section)

    by : (b : Bool) → (key.section == COMMON_SECTION) ≡ b → (if b then Some common_home else option_and_then to (find test files)) ≡ Some home → (common_home ≡ home) ⊎ IsHomeIn files key home
    by true f g = inl (some_is common_home home g)
    by false f g =
        let file = from_then to (find test files) home g in
        let section = from_mapped home_in (section_numbered file.0.object.sections key.section) home file.2 in
        let found = find_some test files file.0 file.1 in
        inr (record { file = file.0; among = found.0; same = same_file file.0.id key.file found.1; section = section.0; numbered = section.1; is = section.2 })

-- the atom at the template's start is one of them
first_atom : (m : ImageInputs) (layout : Layout) (start : ℕ) → IsLinking m → IsLaid m layout → (is : IsTemplateStart m layout start) → IsTemplateAtom m layout is.first start
unfolding home_in
first_atom m layout start linking laid is = by (home_behind m.files is.first to.home to.of_key)
  where
    to : GoesTo m.files is.first is.section.section.segment is.section.section.kind
    to = layout_goes m layout is.section is.first laid is.among is.lists

    local : is_template to.home.to.kind ≡ true
    local = ap is_template to.to ∙ is.local

    by : (common_home ≡ to.home) ⊎ IsHomeIn m.files is.first to.home → IsTemplateAtom m layout is.first start
    by (inl common) = absurd (false≢true (ap (λ (h : Home). is_template h.to.kind) common ∙ local))
    by (inr home) =
        is_atom m layout is.first start home.file home.section linking laid is.stands home.among home.same home.numbered
        (kind_from home.section (ap (λ (h : Home). is_template h.to.kind) home.is ∙ local))

-- ---- where the template begins

-- the template's start is the least address of its atoms
record HasLeast (m : ImageInputs) (layout : Layout) (start : ℕ) : Type 0 where
  pub begins : template_start layout.sections ≡ Some start
  pub least : least (map (λ (p : AtomKey × ℕ). p.1) (atoms_of m layout)) ≡ Some start

has_least : (m : ImageInputs) (layout : Layout) (key : AtomKey) (address : ℕ) → IsLinking m → AreRising m → IsLaid m layout → IsTemplateAtom m layout key address → (start : ℕ) × HasLeast m layout start
has_least m layout key address linking rising laid is = (begin.0, record { begins = begin.1.begins; least = least_is (map (λ (p : AtomKey × ℕ). p.1) (atoms_of m layout)) begin.0 (record { among = among; below = below }) })
  where
    at : IsHosted layout key address
    at = hosted m layout key address laid is.stands

    begin : (start : ℕ) × IsTemplateStart m layout start
    begin = starts m layout at.host rising laid at.among (host_local m layout key address at.host linking laid is at.among at.lists)

    among : In begin.0 (map (λ (p : AtomKey × ℕ). p.1) (atoms_of m layout))
    among = in_map (λ (p : AtomKey × ℕ). p.1) (atoms_of m layout) (begin.1.first, begin.0) (in_atoms m layout begin.1.first begin.0 (first_atom m layout begin.0 linking laid begin.1))

    below : (x : ℕ) → In x (map (λ (p : AtomKey × ℕ). p.1) (atoms_of m layout)) → begin.0 ≤ x
    below x h =
        let of : (p : AtomKey × ℕ) × In p (atoms_of m layout) × (p.1 ≡ x) = from_map (λ (p : AtomKey × ℕ). p.1) (atoms_of m layout) x h in
        let other = from_atoms m layout of.0 of.1 in
        let there = hosted m layout of.0.0 of.0.1 laid other.stands in
        let first = begin.1.least there.host there.among (host_local m layout of.0.0 of.0.1 there.host linking laid other there.among there.lists) in
        let from = there.from in
        let same = of.2 in
        omega (arith, first, from, same)

-- ---- the offsets

abbrev offsets_of : ImageInputs → Layout → AtomMap
offsets_of m layout = template_offsets (atoms_of m layout)

-- counted from a start
abbrev shifted : ℕ → AtomKey × ℕ → AtomKey × ℕ
shifted start p = (p.0, p.1 - start)

offset_found : (atoms : List (AtomKey × ℕ)) (key : AtomKey) → finite.get (template_offsets atoms) key ≡ finite.find compare_keys key (option_map_or (λ (n : ℕ). map (shifted n) atoms) (least (map (λ (p : AtomKey × ℕ). p.1) atoms)) [])
unfolding template_offsets
offset_found atoms key = get-from_entries compare_keys_total (option_map_or (λ (n : ℕ). map (shifted n) atoms) (least (map (λ (p : AtomKey × ℕ). p.1) atoms)) []) key

-- a shifted entry is that of an atom
from_shifted : (m : ImageInputs) (layout : Layout) (start : ℕ) (key : AtomKey) (n : ℕ) → In (pair key n) (map (shifted start) (atoms_of m layout)) → (address : ℕ) × IsTemplateAtom m layout key address × (address - start ≡ n)
from_shifted m layout start key n h =
    let of : (p : AtomKey × ℕ) × In p (atoms_of m layout) × (shifted start p ≡ pair key n) = from_map (shifted start) (atoms_of m layout) (pair key n) h in
    let named : of.0.0 ≡ key = ap (λ (q : AtomKey × ℕ). q.0) of.2 in
    (of.0.1, subst (λ (k : AtomKey). IsTemplateAtom m layout k of.0.1) named (from_atoms m layout of.0 of.1), ap (λ (q : AtomKey × ℕ). q.1) of.2)

offset_there : (m : ImageInputs) (layout : Layout) (key : AtomKey) (address start : ℕ) → IsTemplateAtom m layout key address → HasLeast m layout start → finite.get (offsets_of m layout) key ≡ Some (address - start)
offset_there m layout key address start is least_is =
    offset_found (atoms_of m layout) key
    ∙ ap (λ (o : Option ℕ). finite.find compare_keys key (option_map_or (λ (n : ℕ). map (shifted n) (atoms_of m layout)) o [])) least_is.least
    ∙ find_entry (map (shifted start) (atoms_of m layout)) key (address - start)
    (in_map (shifted start) (atoms_of m layout) (key, address) (in_atoms m layout key address is))
    (λ n h.
    let other = from_shifted m layout start key n h in
    let same : other.0 ≡ address = some_is other.0 address (sym other.1.stands ∙ is.stands) in
    sym other.2 ∙ ap (λ (k : ℕ). k - start) same)

no_offset : (m : ImageInputs) (layout : Layout) (key : AtomKey) → ((address : ℕ) → IsTemplateAtom m layout key address → ⊥) → finite.get (offsets_of m layout) key ≡ None
no_offset m layout key none = offset_found (atoms_of m layout) key ∙ by (least (map (λ (p : AtomKey × ℕ). p.1) (atoms_of m layout)))
  where
    by : (o : Option ℕ) → finite.find compare_keys key (option_map_or (λ (n : ℕ). map (shifted n) (atoms_of m layout)) o []) ≡ None
    by None = refl
    by (Some start) = find_missing (map (shifted start) (atoms_of m layout)) key (λ n h. let of = from_shifted m layout start key n h in none of.0 of.1)

-- ---- they are those of goals

in_template_true : (m : ImageInputs) (layout : Layout) (key : AtomKey) (address : ℕ) → IsLinking m → IsTemplateAtom m layout key address → in_template m.files key ≡ true
unfolding in_template
in_template_true m layout key address linking is =
    let whole : IsWholeFile is.file = from_all IsWholeFile m.files is.file linking.solid.whole is.among in
    let id : is.file.id ≡ key.file = sym (atoms_of_file is.file.object is.file.id is.atom (cut_from is.file is.atom whole is.of_file)) ∙ ap (λ (k : AtomKey). k.file) is.named in
    let numbered = is.numbered in
    rw (file_found m.files is.file key.file linking.ordered is.among id, numbered) is.kind

record IsInTemplate (m : ImageInputs) (key : AtomKey) : Type 0 where
  pub file : LoadedFile
  pub among : In file m.files
  pub same : file.id ≡ key.file
  pub section : Section
  pub numbered : section_numbered file.object.sections key.section ≡ Some section
  pub kind : is_template section.kind ≡ true

section_there : (o : Option Section) → is_template (option_map_or (λ (section : Section). section.kind) o 0) ≡ true → (section : Section) × (o ≡ Some section) × (is_template section.kind ≡ true)
section_there None e = absurd (false≢true e)
section_there (Some section) e = (section, refl, e)

is_in_template : (m : ImageInputs) (key : AtomKey) → in_template m.files key ≡ true → IsInTemplate m key
unfolding in_template
is_in_template m key e = by (find test m.files) refl e
  where
    test : LoadedFile → Bool
    test file = is_eq (compare_files file.id key.file)

    by : (o : Option LoadedFile) → find test m.files ≡ o → option_map_or (λ (file : LoadedFile). is_template (kind_in file key.section)) o false ≡ true → IsInTemplate m key
    by None f g = absurd (false≢true g)
    by (Some file) f g =
        let found = find_some test m.files file f in
        let section = section_there (section_numbered file.object.sections key.section) g in
        record { file = file; among = found.0; same = same_file file.id key.file found.1; section = section.0; numbered = section.1; kind = section.2 }

no_address : (start : Option ℕ) (f : ℕ → ℕ → ℕ) → option_and_then (λ (n : ℕ). option_map (f n) None) start ≡ None
no_address None f = refl
no_address (Some n) f = refl

place_offset : (m : ImageInputs) (layout : Layout) (key : AtomKey) (offset : ℕ) → IsLinking m → AreRising m → IsLaid m layout → in_atom (offsets_of m layout) key offset ≡ (if in_template m.files key then offset_from (scene_of m layout) key offset else None)
place_offset m layout key offset linking rising laid = by (in_template m.files key) refl
  where
    found : in_template m.files key ≡ true → (o : Option ℕ) → address_in layout.placed key ≡ o → in_atom (offsets_of m layout) key offset ≡ offset_from (scene_of m layout) key offset
    found e None stood =
        let away = no_offset m layout key (λ address is. not_none address (sym is.stands ∙ stood)) in
        ap (option_map (λ (n : ℕ). n + offset)) away
        ∙ sym (ap (λ (o : Option ℕ). option_and_then (λ (start : ℕ). option_map (λ (at : ℕ). at - start + offset) o) (template_start layout.sections)) stood ∙ no_address (template_start layout.sections) (λ start at. at - start + offset))
    found e (Some address) stood =
        let is = is_in_template m key e in
        let atom = is_atom m layout key address is.file is.section linking laid stood is.among is.same is.numbered is.kind in
        let start = has_least m layout key address linking rising laid atom in
        ap (option_map (λ (n : ℕ). n + offset)) (offset_there m layout key address start.0 atom start.1)
        ∙ sym (ap (λ (o : Option ℕ). option_and_then (λ (n : ℕ). option_map (λ (at : ℕ). at - n + offset) (address_in layout.placed key)) o) start.1.begins
        ∙ ap (option_map (λ (at : ℕ). at - start.0 + offset)) stood)

    by : (b : Bool) → in_template m.files key ≡ b → in_atom (offsets_of m layout) key offset ≡ (if b then offset_from (scene_of m layout) key offset else None)
    by true e = found e (address_in layout.placed key) refl
    by false e = ap (option_map (λ (n : ℕ). n + offset)) (no_offset m layout key (λ address is. false≢true (sym e ∙ in_template_true m layout key address linking is)))

pub are_offsets : (m : ImageInputs) (layout : Layout) → IsLinking m → AreRising m → IsLaid m layout → AreOffsets (scene_of m layout) (template_offsets (template_atoms (addresses_of layout.placed) m.files))
unfolding template_offset
are_offsets m layout linking rising laid (Def key offset) = place_offset m layout key offset linking rising laid
are_offsets m layout linking rising laid (WeakSelf name key offset) = place_offset m layout key offset linking rising laid
are_offsets m layout linking rising laid Header = refl
are_offsets m layout linking rising laid (Import name ordinal by_weak optional) = refl
are_offsets m layout linking rising laid (Flat name) = refl
are_offsets m layout linking rising laid Nobody = refl

-- ---- what leads to the template has an offset there

has_offset : (m : ImageInputs) (layout : Layout) (key : AtomKey) (offset : ℕ) → IsLinking m → AreRising m → IsLaid m layout → in_template m.files key ≡ true → IsSome (place_address layout.placed key offset) → IsSome (offset_from (scene_of m layout) key offset)
has_offset m layout key offset linking rising laid e has = by (address_in layout.placed key) refl has
  where
    by : (o : Option ℕ) → address_in layout.placed key ≡ o → IsSome (option_map (λ (at : ℕ). at + offset) o) → IsSome (offset_from (scene_of m layout) key offset)
    by None stood none = absurd cc
    by (Some address) stood there =
        let is = is_in_template m key e in
        let atom = is_atom m layout key address is.file is.section linking laid stood is.among is.same is.numbered is.kind in
        let start = has_least m layout key address linking rising laid atom in
        rw (start.1.begins, stood) refl

pub template_has : (m : ImageInputs) (layout : Layout) (goal : Goal) → IsLinking m → AreRising m → IsLaid m layout → leads_to_template m.files goal ≡ true → (is_outer goal ≡ false → HasAddress (scene_of m layout) None goal) → IsSome (template_offset (scene_of m layout) goal)
unfolding template_offset address_by
template_has m layout (Def key offset) linking rising laid e has = has_offset m layout key offset linking rising laid e (has refl)
template_has m layout (WeakSelf name key offset) linking rising laid e has = has_offset m layout key offset linking rising laid e (has refl)
template_has m layout Header linking rising laid e has = absurd (false≢true e)
template_has m layout (Import name ordinal by_weak optional) linking rising laid e has = absurd (false≢true e)
template_has m layout (Flat name) linking rising laid e has = absurd (false≢true e)
template_has m layout Nobody linking rising laid e has = absurd (false≢true e)
