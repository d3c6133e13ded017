-- Each row of an image is an atom of one of its sections.
use Rattle.std.proofs.Common.{◌≡◌, ℕ, ◌+◌, ◌≤◌, Bool, true, false, not, List, [], ◌∷◌, get_or, length, map, Option, Some, None, Contains, refl, sym, ap, ◌∙◌, arith, subst}
use Rattle.std.specs.List.{filter}
use Rattle.std.specs.List.Sorted.{IsStrictlySortedBy}
use Rattle.std.specs.Option.{option_and_then, option_map}
use Rattle.std.specs.Ordering.{is_eq, on}
use Rattle.std.specs.declared.cmp.Ordering.TheVariants.{Less, Equal}
use Rattle.std.proofs.lemmas.Cmp.{tied_itself}
use Rattle.std.proofs.lemmas.List.Sorted.{Contains-permutation}
use Rattle.list_lemmas.proofs.Members.{Contains_from_in, In, all_in, from_filter, from_filter_map, from_flat}
use Rattle.list_lemmas.proofs.Rising.{rising_at}
use Rattle.mo_types.proofs.KeyOrder.{compare_keys_total}
use Rattle.mo_types.specs.Keys.{compare_keys}
use Rattle.mo_types.specs.Whole.{is_zerofill}
use Rattle.mo_types.specs.declared.atom.Atom.{Atom}
use Rattle.mo_types.specs.declared.key.AtomKey.{AtomKey}
use Rattle.atom_index.proofs.Keys.{find_found}
use Rattle.sect_place.specs.Layout.{image_places, image_sections, plan_of}
use Rattle.sect_list.specs.OutSections.{out_sections}
use Rattle.sect_place.specs.Places.{area_unit, spaced, with_area}
use Rattle.sect_place.specs.declared.layout.Layout.{Layout}
use Rattle.sect_place.specs.declared.layout.Placed.{Placed}
use Rattle.sect_place.specs.declared.layout.PlacedSection.{PlacedSection}
use Rattle.sect_list.proofs.Once.{listed_once}
use Rattle.sect_place.proofs.Positions.{finds}
use Rattle.sect_place.proofs.Single.{layout_rises}
use Rattle.sect_place.specs.Addresses.{AreOnce, address_in}
use Rattle.image_make.specs.Atoms.{AreRising, atom_of, kept_at}
use Rattle.image_make.specs.Rows.{has_bytes, row_at, row_of, rows, section_rows}
use Rattle.patch.specs.declared.range.PlacedWork.{PlacedWork}
use Rattle.image_make.specs.declared.kept.KeptAtom.{KeptAtom}
use Rattle.sect_place.proofs.AddressLemmas.{address_is}
use Rattle.image_make.proofs.KeptListLemmas.{rising_atoms}
use Rattle.image_make.specs.Made.{IsLaid, ImageInputs, kept_of, plan_for, plan_with, rows_of, sizes_of}
use Rattle.image_make.proofs.Spots.{all_have, spaced_in, spot, stands}

-- ---- no atom stands twice

less_not_equal : Less ≡ Equal → ⊥
less_not_equal e = cc

once : (placed : List Placed) → IsStrictlySortedBy (on (λ (p : Placed). p.atom) compare_keys) placed → AreOnce placed
once placed rising = λ i j d low high same.
    less_not_equal (sym (rising_at (on (λ (p : Placed). p.atom) compare_keys) placed i j d rising low high) ∙ ap (λ a. compare_keys a (get_or placed j d).atom) same ∙ tied_itself compare_keys_total (get_or placed j d).atom)

pub placed_once : (m : ImageInputs) (layout : Layout) → AreRising (kept_of m) → IsLaid m layout → AreOnce layout.placed
unfolding plan_with
placed_once m layout rising laid =
    let atoms = map atom_of (kept_of m) in
    once layout.placed (layout_rises atoms (out_sections m.files atoms) m.slots m.islands (sizes_of m.command m.libs (length m.info)) m.command layout (listed_once m.files atoms (rising_atoms (kept_of m) rising)) laid.layout_of)

-- ---- a row

-- the atom with a key, its address, and the row of both
pub record IsRow (placed : List Placed) (atoms : List KeptAtom) (section : PlacedSection) (key : AtomKey) (row : PlacedWork) : Type 0 where
  pub kept : KeptAtom
  pub address : ℕ
  pub known : kept_at atoms key ≡ Some kept
  pub stood : address_in placed key ≡ Some address
  pub is : row_at section kept address ≡ row

some_is : {X : Type 0} (x y : X) → Some x ≡ Some y → x ≡ y
some_is x y e = cc

pub is_row : (placed : List Placed) (atoms : List KeptAtom) (section : PlacedSection) (key : AtomKey) (row : PlacedWork) → row_of placed atoms section key ≡ Some row → IsRow placed atoms section key row
unfolding row_of
is_row placed atoms section key row e = by (kept_at atoms key) (address_in placed key) refl refl e
  where
    by : (kept : Option KeptAtom) (address : Option ℕ) → kept_at atoms key ≡ kept → address_in placed key ≡ address → option_and_then (λ (one : KeptAtom). option_map (row_at section one) address) kept ≡ Some row → IsRow placed atoms section key row
    by None address k a is = absurd cc
    by (Some kept) None k a is = absurd cc
    by (Some kept) (Some address) k a is = record { kept = kept; address = address; known = k; stood = a; is = some_is (row_at section kept address) row is }

pub find_mapped : (kept : List KeptAtom) (key : AtomKey) (one : KeptAtom) → kept_at kept key ≡ Some one → finds (map atom_of kept) key ≡ Some one.atom
find_mapped [] key one e = absurd cc
find_mapped (first ∷ kept) key one e = by (is_eq (compare_keys first.atom.key key)) refl (find_mapped kept key one)
  where
    by : (b : Bool) → is_eq (compare_keys first.atom.key key) ≡ b → (kept_at kept key ≡ Some one → finds (map atom_of kept) key ≡ Some one.atom) → finds (map atom_of (first ∷ kept)) key ≡ Some one.atom
    by true is rest = let here : Some first ≡ Some one = rw is at e in rw is (ap (λ (k : KeptAtom). Some k.atom) (some_is first one here))
    by false is rest = let there : kept_at kept key ≡ Some one = rw is at e in rw is (rest there)

solid_is : (b : Bool) → not b ≡ true → b ≡ false
solid_is true e = cc
solid_is false e = refl

-- the kept atom with a key is the one that has it
pub kept_found : (m : ImageInputs) (kept : KeptAtom) → AreRising (kept_of m) → Contains (kept_of m) kept → kept_at (kept_of m) kept.atom.key ≡ Some kept
kept_found m kept rising (at, low, is) =
    find_found (λ (one : KeptAtom). one.atom.key) (kept_of m) kept.atom.key at kept rising low (ap (λ (one : KeptAtom). one.atom.key) is) ∙ ap Some is

-- a kept atom of a section stands within it
pub record IsWithin (section : PlacedSection) (key : AtomKey) (size address : ℕ) : Type 0 where
  pub low : section.address ≤ address
  pub high : address + size ≤ section.address + section.size

pub atom_within : (m : ImageInputs) (layout : Layout) (section : PlacedSection) (key : AtomKey) (kept : KeptAtom) (address : ℕ) → AreRising (kept_of m) → IsLaid m layout → In section layout.sections → In key section.section.atoms → kept_at (kept_of m) key ≡ Some kept → address_in layout.placed key ≡ Some address → IsWithin section key kept.atom.size address
unfolding plan_with plan_of
atom_within m layout section key kept address rising laid among listed known stood =
    let atoms = map atom_of (kept_of m) in
    let sections = out_sections m.files atoms in
    let unit = area_unit sections in
    let raised : Atom = with_area m.islands.areas unit kept.atom in
    let found : finds atoms key ≡ Some kept.atom = find_mapped (kept_of m) key kept known in
    let there : In raised (spaced atoms m.islands.areas unit section.section.atoms) = spaced_in atoms m.islands.areas unit section.section.atoms key kept.atom listed found in
    let where_at = stands section.address (spaced atoms m.islands.areas unit section.section.atoms) raised there in
    let planned : In section (image_sections (plan_for m)) = subst (λ (ss : List PlacedSection). In section ss) laid.layout_of.sections among in
    let has = all_in _ (image_sections (plan_for m)) section (all_have (plan_for m)) planned in
    let here = has raised where_at.0 where_at.1 in
    let named : kept.atom.key ≡ key = (Rattle.sect_place.proofs.Positions.found_atom atoms key kept.atom found).0 in
    let placed : Contains layout.placed (spot raised where_at.0) = Contains-permutation (image_places (plan_for m)) layout.placed (spot raised where_at.0) laid.layout_of.places (Contains_from_in (image_places (plan_for m)) (spot raised where_at.0) here.0) in
    let of_key : Contains layout.placed (record { atom = key; address = where_at.0 }) = subst (λ (k : AtomKey). Contains layout.placed (record { atom = k; address = where_at.0 })) named placed in
    let same : Some where_at.0 ≡ Some address = address_is layout.placed key (Some where_at.0) (placed_once m layout rising laid) of_key ∙ stood in
    let one : where_at.0 ≡ address = some_is where_at.0 address same in
    record { low = omega (arith, here.1); high = omega (arith, here.2) }

-- what a row says of its atom
row_says : (section : PlacedSection) (kept : KeptAtom) (address : ℕ) (row : PlacedWork) → row_at section kept address ≡ row → (address ≡ row.address) × (kept.atom ≡ row.atom)
row_says section kept address row e = (ap (λ (r : PlacedWork). r.address) e, ap (λ (r : PlacedWork). r.atom) e)

-- a row is of an atom that stands in a section with bytes, at the same distance from its start in memory and in the file
pub record IsRowIn (m : ImageInputs) (layout : Layout) (row : PlacedWork) : Type 0 where
  pub section : PlacedSection
  pub among : In section layout.sections
  pub solid : is_zerofill section.section.kind ≡ false
  pub kept : KeptAtom
  pub key : AtomKey
  pub listed : In key section.section.atoms
  pub known : kept_at (kept_of m) key ≡ Some kept
  pub stood : address_in layout.placed row.atom.key ≡ Some row.address
  pub is : row_at section kept row.address ≡ row
  pub within : IsWithin section key row.atom.size row.address

pub row_in : (m : ImageInputs) (layout : Layout) (row : PlacedWork) → AreRising (kept_of m) → IsLaid m layout → In row (rows_of m layout) → IsRowIn m layout row
unfolding rows section_rows
row_in m layout row rising laid h =
    let of_section = from_flat (section_rows layout.placed (kept_of m)) (filter has_bytes layout.sections) row h in
    let section : PlacedSection = of_section.0 in
    let passed = from_filter has_bytes layout.sections section of_section.1 in
    let of_key = from_filter_map (row_of layout.placed (kept_of m) section) section.section.atoms row of_section.2 in
    let one = is_row layout.placed (kept_of m) section of_key.0 row of_key.2 in
    let says = row_says section one.kept one.address row one.is in
    let address : one.address ≡ row.address = says.0 in
    let atom : one.kept.atom ≡ row.atom = says.1 in
    let named : one.kept.atom.key ≡ of_key.0 = (Rattle.sect_place.proofs.Positions.found_atom (map atom_of (kept_of m)) of_key.0 one.kept.atom (find_mapped (kept_of m) of_key.0 one.kept one.known)).0 in
    let own : of_key.0 ≡ row.atom.key = sym named ∙ ap (λ (a : Atom). a.key) atom in
    let within = atom_within m layout section of_key.0 one.kept one.address rising laid passed.0 of_key.1 one.known one.stood in
    record {
      section = section;
      among = passed.0;
      solid = solid_is (is_zerofill section.section.kind) passed.1;
      kept = one.kept;
      key = of_key.0;
      listed = of_key.1;
      known = one.known;
      stood = subst (λ (k : AtomKey). address_in layout.placed k ≡ Some row.address) own (one.stood ∙ ap Some address);
      is = subst (λ (n : ℕ). row_at section one.kept n ≡ row) address one.is;
      within = subst (λ (a : Atom). IsWithin section of_key.0 a.size row.address) atom (subst (λ (n : ℕ). IsWithin section of_key.0 one.kept.atom.size n) address within);
    }
