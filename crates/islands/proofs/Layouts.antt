-- What a layout without islands is.
use Rattle.std.proofs.Common.{◌≡◌, ℕ, ◌+◌, ◌&&◌, Bool, true, false, List, [], ◌∷◌, get_or, All, Some, refl, sym, ap, subst, ◌∙◌}
use Rattle.std.specs.List.{AllByRecursion, filter, find, list_any}
use Rattle.std.specs.List.Sorted.{IsStrictlySortedBy}
use Rattle.std.specs.Option.{is_some}
use Rattle.std.specs.Ordering.{is_eq, on}
use Rattle.std.specs.declared.cmp.Ordering.TheVariants.{Less}
use Rattle.std.proofs.lemmas.Cmp.{tied_itself}
use Rattle.std.proofs.lemmas.List.Elements.{All-from_recursion, recursion_from_All}
use Rattle.list_lemmas.proofs.Members.{In, all_in, from_filter_map}
use Rattle.list_lemmas.proofs.Rising.{rising_at}
use Rattle.mo_types.proofs.KeyOrder.{compare_keys_total}
use Rattle.mo_types.specs.Keys.{compare_keys}
use Rattle.mo_types.specs.declared.atom.Atom.{Atom}
use Rattle.mo_types.specs.declared.key.AtomKey.{AtomKey}
use Rattle.mo_types.specs.declared.out_section.OutSection.{OutSection}
use Rattle.tlv_plan.specs.Template.{atoms_of, keys_of}
use Rattle.sect_place.specs.Addresses.{AreOnce, address_in}
use Rattle.sect_place.specs.Arrangement.{groups_of, is_code}
use Rattle.sect_place.specs.Layout.{base_of, image_sections, lead_of, made_bytes, plan_of}
use Rattle.sect_place.specs.Moved.{code_keys, no_islands}
use Rattle.sect_place.specs.Places.{area_unit, spaced}
use Rattle.sect_place.specs.Shifts.{sections_in}
use Rattle.sect_place.specs.declared.layout.Layout.{Layout}
use Rattle.sect_place.specs.declared.layout.Placed.{Placed}
use Rattle.sect_place.specs.declared.layout.PlacedSection.{PlacedSection}
use Rattle.sect_place.proofs.Planned.{AreThose, all_there, those}
use Rattle.sect_place.proofs.Positions.{found_atom}
use Rattle.sect_place.proofs.Single.{layout_rises}
use Rattle.islands.specs.Plan.{IsWithoutIslands}
use Rattle.islands.specs.Text.{has_key, stands_in, text_atoms}
use Rattle.islands.specs.inner.Ordered.{IsOrdered}
use Rattle.islands.proofs.Planned.{code_planned}

-- ---- kept atoms

pub atoms_kept : (kept : List Atom) (keys : List AtomKey) (atom : Atom) → In atom (atoms_of kept keys) → In atom kept
unfolding atoms_of
atoms_kept kept keys atom h =
    let found : (key : AtomKey) × In key keys × (find (λ (a : Atom). is_eq (compare_keys a.key key)) kept ≡ Some atom) = from_filter_map (λ (key : AtomKey). find (λ (a : Atom). is_eq (compare_keys a.key key)) kept) keys atom h in
    (found_atom kept found.0 atom found.2).1

pub both_true : (a b : Bool) → (a && b) ≡ true → (a ≡ true) × (b ≡ true)
both_true true true e = (refl, refl)
both_true true false e = cc
both_true false b e = cc

pub both_are : (a b : Bool) → a ≡ true → b ≡ true → (a && b) ≡ true
both_are a b e f = rw (e, f) refl

pub stands_parts : (t : OutSection → Bool) (layout : Layout) (key : AtomKey) → stands_in t layout key ≡ true → (list_any (λ (p : PlacedSection). t p.section && has_key p.section.atoms key) layout.sections ≡ true) × (is_some (address_in layout.placed key) ≡ true)
stands_parts t layout key e = both_true (list_any (λ (p : PlacedSection). t p.section && has_key p.section.atoms key) layout.sections) (is_some (address_in layout.placed key)) e

pub stands_from : (t : OutSection → Bool) (layout : Layout) (key : AtomKey) → list_any (λ (p : PlacedSection). t p.section && has_key p.section.atoms key) layout.sections ≡ true → is_some (address_in layout.placed key) ≡ true → stands_in t layout key ≡ true
stands_from t layout key e f = both_are (list_any (λ (p : PlacedSection). t p.section && has_key p.section.atoms key) layout.sections) (is_some (address_in layout.placed key)) e f

-- places in the order of their atoms have no atom twice
pub once_of : (placed : List Placed) → IsStrictlySortedBy (on (λ (p : Placed). p.atom) compare_keys) placed → AreOnce placed
once_of placed rising i j d low high same =
    let less : compare_keys (get_or placed i d).atom (get_or placed j d).atom ≡ Less = rising_at (on (λ (p : Placed). p.atom) compare_keys) placed i j d rising low high in
    let tie = tied_itself compare_keys_total (get_or placed i d).atom in
    let clash : compare_keys (get_or placed i d).atom (get_or placed i d).atom ≡ Less = subst (λ (k : AtomKey). compare_keys (get_or placed i d).atom k ≡ Less) (sym same) less in
    cc

module _ (kept : List Atom) (layout : Layout) (is : IsWithoutIslands kept layout) where
  abbrev unit : ℕ
  unit = area_unit is.sections

  abbrev spread : List AtomKey → List Atom
  spread = spaced kept [] (area_unit is.sections)

  abbrev first : ℕ
  first = base_of is.command + lead_of (groups_of is.sections (made_bytes is.slots is.sizes)) is.sizes is.command

  -- ---- no atom twice, and sections in order

  once : AreOnce layout.placed
  once = once_of layout.placed (layout_rises kept is.sections is.slots no_islands is.sizes is.command layout is.in_order.once is.placed)

  pub are : AreThose is.sections (sections_in layout.sections)
  unfolding image_sections plan_of
  are =
      subst (λ (placed : List PlacedSection). AreThose is.sections (sections_in placed)) (sym is.placed.sections)
      (those (spaced kept [] (area_unit is.sections)) (base_of is.command) 0 (lead_of (groups_of is.sections (made_bytes is.slots is.sizes)) is.sizes is.command) is.sections (made_bytes is.slots is.sizes))

  each : All (λ (p : PlacedSection). IsStrictlySortedBy compare_keys p.section.atoms) layout.sections
  unfolding IsStrictlySortedBy
  each =
      All-from_recursion (λ (p : PlacedSection). IsStrictlySortedBy compare_keys p.section.atoms) layout.sections
      (placed_all layout.sections (all_there (λ (section : OutSection). IsStrictlySortedBy compare_keys section.atoms) is.sections (sections_in layout.sections) are
      (λ section h. all_in (λ (s : OutSection). IsStrictlySortedBy compare_keys s.atoms) is.sections section (recursion_from_All (λ (s : OutSection). IsStrictlySortedBy compare_keys s.atoms) is.sections is.in_order.each) h)
      (λ section none. subst (λ (keys : List AtomKey). IsStrictlySortedBy compare_keys keys) (sym none) tt)))
    where
      placed_all : (placed : List PlacedSection) → AllByRecursion (λ (s : OutSection). IsStrictlySortedBy compare_keys s.atoms) (sections_in placed) → AllByRecursion (λ (p : PlacedSection). IsStrictlySortedBy compare_keys p.section.atoms) placed
      placed_all [] all = tt
      placed_all (p ∷ placed) all = (all.0, placed_all placed all.1)

  pub ordered : IsOrdered layout
  ordered = record { once = once; each = each }

  -- ---- the atoms of `__text`

  pub code_same : code_keys (sections_in layout.sections) ≡ code_keys is.sections
  unfolding image_sections plan_of code_keys
  code_same =
      ap keys_of (ap (λ (placed : List PlacedSection). filter is_code (sections_in placed)) is.placed.sections
      ∙ code_planned (spaced kept [] (area_unit is.sections)) (base_of is.command) 0 (lead_of (groups_of is.sections (made_bytes is.slots is.sizes)) is.sizes is.command) is.sections (made_bytes is.slots is.sizes))

  pub atoms_same : text_atoms kept layout ≡ atoms_of kept (code_keys is.sections)
  unfolding text_atoms
  atoms_same = ap (atoms_of kept) code_same
