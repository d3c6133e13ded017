-- Where the atoms of a layout without islands stand: those of `__text` in order, and all others behind them.
use Rattle.std.proofs.Common.{◌≡◌, ℕ, ◌+◌, ◌<◌, ◌≤◌, ◌⊎◌, ◌++◌, ◌&&◌, Bool, true, false, List, [], ◌∷◌, get_or, map, Contains, Option, Some, None, codes, refl, sym, ap, ap₂, subst, ◌∙◌, inl, inr, arith, append_assoc, length-append}
use Rattle.std.specs.List.{AllByRecursion, AllPairs, filter, find, flat_map, list_any}
use Rattle.std.specs.List.Sorted.{IsStrictlySortedBy}
use Rattle.std.specs.Option.{is_some, option_map, unwrap_or}
use Rattle.std.specs.Ordering.{is_eq, on}
use Rattle.std.specs.declared.cmp.Ordering.{Ordering}
use Rattle.std.specs.declared.cmp.Ordering.TheVariants.{Less}
use Rattle.std.proofs.Math.ListN.{get_or-append}
use Rattle.std.proofs.lemmas.Bool.{cases_eq, cases_lt, false≢true}
use Rattle.std.proofs.lemmas.Cmp.{tied_itself}
use Rattle.std.proofs.lemmas.List.{get_or_default, map-append}
use Rattle.std.proofs.lemmas.List.Sorted.{Contains-permutation, IsPermutation-sym}
use Rattle.list_lemmas.proofs.Members.{In, Contains_from_in, all_from_in, all_in, all_map, any_from_in, any_true, find_none, find_some, from_filter, from_flat, from_map, in_either, in_filter, in_flat, in_from_Contains, in_left, in_map}
use Rattle.list_lemmas.proofs.Rising.{rising_at}
use Rattle.mo_types.proofs.KeyOrder.{compare_keys_total}
use Rattle.mo_types.specs.Keys.{compare_keys}
use Rattle.mo_types.specs.declared.atom.Atom.{Atom}
use Rattle.mo_types.specs.declared.key.AtomKey.{AtomKey}
use Rattle.mo_types.specs.declared.out_section.OutSection.{OutSection}
use Rattle.atom_index.proofs.Keys.{is_equal, same_key}
use Rattle.tlv_plan.specs.Template.{atoms_of, keys_of, stand}
use Rattle.tlv_plan.proofs.Walk.{aligned_least}
use Rattle.sect_list.proofs.Once.{one_by_map}
use Rattle.sect_place.specs.Addresses.{address_in}
use Rattle.sect_place.specs.Arrangement.{chosen, groups_of, is_chosen, is_code, text_parts, with_atoms}
use Rattle.sect_place.specs.Layout.{base_of, image_places, image_stand, lead_of, made_bytes, plan_of}
use Rattle.sect_place.specs.Moved.{code_keys, no_islands}
use Rattle.sect_place.specs.Places.{area_unit, bytes_behind, groups_stand, page_up, part_end, part_from, parts_end, parts_stand, places, spaced, with_area}
use Rattle.sect_place.specs.Shifts.{sections_in}
use Rattle.sect_place.specs.declared.layout.Layout.{Layout}
use Rattle.sect_place.specs.declared.layout.Placed.{Placed}
use Rattle.sect_place.specs.declared.layout.PlacedSection.{PlacedSection}
use Rattle.sect_place.specs.declared.part.Choice.TheVariants.{Code}
use Rattle.sect_place.specs.declared.part.Group.{Group}
use Rattle.sect_place.specs.declared.part.Part.{Part}
use Rattle.sect_place.proofs.Around.{stand_atoms}
use Rattle.sect_place.proofs.Fitting.{text_all}
use Rattle.sect_place.proofs.Meaning.{image_apart, image_same}
use Rattle.sect_place.proofs.Planned.{listed_there}
use Rattle.sect_place.proofs.Positions as positions
use Rattle.sect_place.proofs.Positions.{atoms_join, finds, chosen_there, found_atom, image_keys, kept_keys, kept_listed, kept_there, keys_listed, placed_there, still_listed}
use Rattle.sect_place.proofs.Sound.{groups_split, later_groups}
use Rattle.sect_place.proofs.Spread.{parts_after}
use Rattle.islands.specs.Plan.{IsWithoutIslands}
use Rattle.islands.specs.Text.{has_key, in_code, in_text, is_text, place_in}
use Rattle.islands.proofs.Keyed.{key_found, key_there}
use Rattle.islands.proofs.Layouts.{are, atoms_kept, both_are, both_true, code_same, stands_from, stands_parts}
use Rattle.islands.proofs.Planned.{beside_parts, text_split}
use Rattle.islands.proofs.Standing.{ends_join, groups_low, parts_join, parts_within}

-- ---- atoms in order

pub atoms_rise : (kept : List Atom) (keys : List AtomKey) → IsStrictlySortedBy compare_keys keys → IsStrictlySortedBy (on (λ (atom : Atom). atom.key) compare_keys) (atoms_of kept keys)
unfolding IsStrictlySortedBy atoms_of
atoms_rise kept [] rising = tt
atoms_rise kept (key ∷ keys) rising = by (finds kept key) refl (atoms_rise kept keys rising.1)
  where
    by : (o : Option Atom) → finds kept key ≡ o → IsStrictlySortedBy (on (λ (atom : Atom). atom.key) compare_keys) (atoms_of kept keys) → IsStrictlySortedBy (on (λ (atom : Atom). atom.key) compare_keys) (atoms_of kept (key ∷ keys))
    by None e rest = rw e rest
    by (Some found) e rest =
        let same : found.key ≡ key = (found_atom kept key found e).0 in
        rw e (all_from_in (λ (y : Atom). compare_keys found.key y.key ≡ Less) (atoms_of kept keys) (λ y h. subst (λ (k : AtomKey). compare_keys k y.key ≡ Less) (sym same) (all_in (λ (z : AtomKey). compare_keys key z ≡ Less) keys y.key rising.0 (keys_listed kept keys y h))), rest)

-- atoms with no area behind them
pub spaced_is : (kept : List Atom) (unit : ℕ) (keys : List AtomKey) → spaced kept [] unit keys ≡ map (with_area [] unit) (atoms_of kept keys)
unfolding spaced
spaced_is kept unit keys = refl

spaced_join : (kept : List Atom) (unit : ℕ) (xs ys : List AtomKey) → spaced kept [] unit (xs ++ ys) ≡ spaced kept [] unit xs ++ spaced kept [] unit ys
unfolding spaced
spaced_join kept unit xs ys = ap (map (with_area [] unit)) (atoms_join kept xs ys) ∙ map-append (with_area [] unit) (atoms_of kept xs) (atoms_of kept ys)

none_behind : (unit : ℕ) (key : AtomKey) → bytes_behind [] unit key ≡ 0
unfolding bytes_behind
none_behind unit key = refl

rising_areas : (unit : ℕ) (atoms : List Atom) → IsStrictlySortedBy (on (λ (atom : Atom). atom.key) compare_keys) atoms → IsStrictlySortedBy (on (λ (atom : Atom). atom.key) compare_keys) (map (with_area [] unit) atoms)
unfolding IsStrictlySortedBy
rising_areas unit [] rises = tt
rising_areas unit (atom ∷ atoms) rises = (all_map (with_area [] unit) (λ (y : Atom). compare_keys atom.key y.key ≡ Less) atoms rises.0, rising_areas unit atoms rises.1)

-- where the atoms of sections stand
parts_atoms : (kept : List Atom) (unit at : ℕ) (sections : List OutSection) → map (λ (p : Atom × ℕ). p.0) (parts_stand (spaced kept [] unit) at (map with_atoms sections)) ≡ spaced kept [] unit (keys_of sections)
unfolding parts_stand spaced atoms_of
parts_atoms kept unit at [] = refl
parts_atoms kept unit at (section ∷ sections) =
    let f = spaced kept [] unit in
    let part = with_atoms section in
    map-append (λ (p : Atom × ℕ). p.0) (stand (part_from at part) (f section.atoms)) (parts_stand f (part_end f at part) (map with_atoms sections))
    ∙ (ap₂ (λ (xs ys : List Atom). xs ++ ys) (stand_atoms (part_from at part) (f section.atoms)) (parts_atoms kept unit (part_end f at part) sections)
    ∙ sym (spaced_join kept unit section.atoms (keys_of sections)))

all_back : {X K : Type 0} (f : X → K) (P : K → Type 0) (xs : List X) → AllByRecursion P (map f xs) → AllByRecursion (λ x. P (f x)) xs
all_back f P [] all = tt
all_back f P (x ∷ xs) all = (all.0, all_back f P xs all.1)

rising_back : {X K : Type 0} (f : X → K) (R : K → K → Ordering) (xs : List X) → IsStrictlySortedBy R (map f xs) → IsStrictlySortedBy (on f R) xs
unfolding IsStrictlySortedBy
rising_back f R [] h = tt
rising_back f R (x ∷ xs) h = (all_back f (λ y. R (f x) y ≡ Less) xs h.0, rising_back f R xs h.1)

pairs_front : {X : Type 0} (R : X → X → Type 0) (xs ys : List X) → AllPairs R (xs ++ ys) → AllPairs R xs
pairs_front R xs ys all i j d low high =
    subst (λ x. R x (get_or xs j d)) (get_or-append xs ys d i (omega (arith, low, high)))
    (subst (λ y. R (get_or (xs ++ ys) i d) y) (get_or-append xs ys d j high) (all i j d low (omega (arith, high, length-append xs ys))))

-- of two that are in order by their keys the first stands before the other
stands_before : (xs : List (Atom × ℕ)) (p q : Atom × ℕ) → AllPairs (λ (a : Atom × ℕ) (b : Atom × ℕ). a.1 + a.0.size ≤ b.1) xs → IsStrictlySortedBy (on (λ (a : Atom × ℕ). a.0.key) compare_keys) xs → In p xs → In q xs → compare_keys p.0.key q.0.key ≡ Less → p.1 + p.0.size ≤ q.1
stands_before xs p q apart rises h k less = by (cases_lt i j)
  where
    at_p : Contains xs p
    at_p = Contains_from_in xs p h

    at_q : Contains xs q
    at_q = Contains_from_in xs q k

    i : ℕ
    i = at_p.0

    j : ℕ
    j = at_q.0

    there : get_or xs j p ≡ q
    there = get_or_default xs j p q at_q.1 ∙ at_q.2

    none : compare_keys q.0.key p.0.key ≡ Less → ⊥
    none back =
        let trans = compare_keys_total.trans p.0.key q.0.key p.0.key less back in
        let tie = tied_itself compare_keys_total p.0.key in
        cc

    by : (i < j) ⊎ (j ≤ i) → p.1 + p.0.size ≤ q.1
    by (inl low) = subst (λ (a : Atom × ℕ). a.1 + a.0.size ≤ q.1) at_p.2 (subst (λ (b : Atom × ℕ). (get_or xs i p).1 + (get_or xs i p).0.size ≤ b.1) there (apart i j p low at_q.1))
    by (inr up) = elim (cases_eq i j) [
      | inl e ↦ absurd (none (subst (λ (k : AtomKey). compare_keys k p.0.key ≡ Less) (ap (λ (a : Atom × ℕ). a.0.key) (sym at_p.2 ∙ (ap (λ (n : ℕ). get_or xs n p) e ∙ there))) (subst (λ (k : AtomKey). compare_keys p.0.key k ≡ Less) (ap (λ (a : Atom × ℕ). a.0.key) (sym (sym at_p.2 ∙ (ap (λ (n : ℕ). get_or xs n p) e ∙ there)))) less)))
      | inr differ ↦ absurd (none (subst (λ (a : Atom × ℕ). compare_keys a.0.key p.0.key ≡ Less) there (subst (λ (b : Atom × ℕ). compare_keys (get_or xs j p).0.key b.0.key ≡ Less) at_p.2 (rising_at (on (λ (a : Atom × ℕ). a.0.key) compare_keys) xs j i p rises (omega (arith, up, differ)) at_p.1))))
    ]

-- where an atom stands in `__text`, with no less room than its size
pub record Seat (kept : List Atom) (all : List (Atom × ℕ)) (key : AtomKey) (place : ℕ) : Type 0 where
  pub seat : Atom × ℕ
  pub there : In seat all
  pub of_key : seat.0.key ≡ key
  pub at : seat.1 ≡ place
  pub atom : Atom
  pub has : In atom kept
  pub named : atom.key ≡ key
  pub room : atom.size ≤ seat.0.size

module _ (kept : List Atom) (layout : Layout) (is : IsWithoutIslands kept layout) where
  abbrev spread : List AtomKey → List Atom
  spread = spaced kept [] (area_unit is.sections)

  abbrev pub first : ℕ
  first = base_of is.command + lead_of (groups_of is.sections (made_bytes is.slots is.sizes)) is.sizes is.command

  abbrev code_stand : List (Atom × ℕ)
  code_stand = parts_stand spread first (chosen Code is.sections)

  abbrev pub code_end : ℕ
  code_end = parts_end (spaced kept [] (area_unit is.sections)) first (chosen Code is.sections)

  abbrev beside : List Part
  beside = beside_parts is.sections (made_bytes is.slots is.sizes)

  abbrev text_group : Group
  text_group = record { name = codes "__TEXT"; parts = text_parts is.sections (made_bytes is.slots is.sizes) }

  abbrev pub next_page : ℕ
  next_page = page_up (parts_end spread first (text_parts is.sections (made_bytes is.slots is.sizes)))

  abbrev others : List (Atom × ℕ)
  others = parts_stand spread code_end beside ++ groups_stand spread next_page 0 (later_groups is.sections (made_bytes is.slots is.sizes))

  abbrev stood : List (Atom × ℕ)
  stood = image_stand (plan_of kept is.sections is.slots no_islands is.sizes is.command)

  stood_split : stood ≡ code_stand ++ others
  unfolding image_stand plan_of groups_stand
  stood_split =
      let bytes = made_bytes is.slots is.sizes in
      let later = groups_stand spread next_page 0 (later_groups is.sections bytes) in
      ap (λ (groups : List Group). groups_stand spread (base_of is.command) (lead_of (groups_of is.sections bytes) is.sizes is.command) groups) (groups_split is.sections bytes)
      ∙ (ap (λ (ps : List (Atom × ℕ)). ps ++ later) (ap (parts_stand spread first) (text_split is.sections bytes) ∙ parts_join spread first (chosen Code is.sections) beside)
      ∙ append_assoc code_stand (parts_stand spread code_end beside) later)

  pub page_after : code_end ≤ next_page
  page_after =
      let bytes = made_bytes is.slots is.sizes in
      let ends : parts_end spread first (text_parts is.sections bytes) ≡ parts_end spread code_end beside = ap (parts_end spread first) (text_split is.sections bytes) ∙ ends_join spread first (chosen Code is.sections) beside in
      let low = parts_after spread code_end beside in
      let up = (aligned_least 14 (parts_end spread first (text_parts is.sections bytes))).enough in
      omega (arith, ends, low, up)

  others_low : (p : Atom × ℕ) → In p others → code_end ≤ p.1
  others_low p h = by (in_either (parts_stand spread code_end beside) (groups_stand spread next_page 0 (later_groups is.sections (made_bytes is.slots is.sizes))) p h)
    where
      by : In p (parts_stand spread code_end beside) ⊎ In p (groups_stand spread next_page 0 (later_groups is.sections (made_bytes is.slots is.sizes))) → code_end ≤ p.1
      by (inl h) = (parts_within spread code_end beside p h).0
      by (inr h) = let low = groups_low spread next_page 0 (later_groups is.sections (made_bytes is.slots is.sizes)) p h in omega (arith, low, page_after)

  code_atoms : map (λ (p : Atom × ℕ). p.0) code_stand ≡ spread (code_keys is.sections)
  unfolding chosen is_chosen code_keys
  code_atoms = parts_atoms kept (area_unit is.sections) first (filter is_code is.sections)

  code_rises : IsStrictlySortedBy (on (λ (a : Atom × ℕ). a.0.key) compare_keys) code_stand
  code_rises =
      rising_back (λ (p : Atom × ℕ). p.0) (on (λ (atom : Atom). atom.key) compare_keys) code_stand
      (subst (λ (xs : List Atom). IsStrictlySortedBy (on (λ (atom : Atom). atom.key) compare_keys) xs) (sym (code_atoms ∙ spaced_is kept (area_unit is.sections) (code_keys is.sections)))
      (rising_areas (area_unit is.sections) (atoms_of kept (code_keys is.sections)) (atoms_rise kept (code_keys is.sections) is.in_order.code)))

  code_apart : AllPairs (λ (a : Atom × ℕ) (b : Atom × ℕ). a.1 + a.0.size ≤ b.1) code_stand
  code_apart = pairs_front (λ (a : Atom × ℕ) (b : Atom × ℕ). a.1 + a.0.size ≤ b.1) code_stand others (subst (λ (ps : List (Atom × ℕ)). AllPairs (λ (a : Atom × ℕ) (b : Atom × ℕ). a.1 + a.0.size ≤ b.1) ps) stood_split (image_apart (plan_of kept is.sections is.slots no_islands is.sizes is.command)))

  -- ---- where the layout has an atom

  abbrev pub all_places : List Placed
  all_places = image_places (plan_of kept is.sections is.slots no_islands is.sizes is.command)

  pub entry : (key : AtomKey) → is_some (address_in layout.placed key) ≡ true → In (record { atom = key; address = place_in layout key }) all_places
  unfolding address_in
  entry key some = by (find (λ (p : Placed). is_eq (compare_keys p.atom key)) layout.placed) refl
    where
      by : (found : Option Placed) → find (λ (p : Placed). is_eq (compare_keys p.atom key)) layout.placed ≡ found → In (record { atom = key; address = place_in layout key }) all_places
      by None e = let clash : false ≡ true = ap (λ (o : Option Placed). is_some (option_map (λ (p : Placed). p.address) o)) (sym e) ∙ some in absurd (false≢true clash)
      by (Some p) e =
          let found = find_some (λ (q : Placed). is_eq (compare_keys q.atom key)) layout.placed p e in
          let named : p.atom ≡ key = same_key p.atom key (is_equal (compare_keys p.atom key) found.1) in
          let place : place_in layout key ≡ p.address = ap (λ (o : Option Placed). unwrap_or (option_map (λ (q : Placed). q.address) o) 0) e in
          let same : p ≡ record { atom = key; address = place_in layout key } = ap₂ (λ (k : AtomKey) (n : ℕ). let q : Placed = record { atom = k; address = n } in q) named (sym place) in
          subst (λ (q : Placed). In q all_places) same (in_from_Contains all_places p (Contains-permutation layout.placed all_places p (IsPermutation-sym all_places layout.placed is.placed.places) (Contains_from_in layout.placed p found.0)))

  pub one_place : (key : AtomKey) (a b : ℕ) → In (record { atom = key; address = a }) all_places → In (record { atom = key; address = b }) all_places → a ≡ b
  one_place key a b p q =
      let same : (let x : Placed = record { atom = key; address = a } in x) ≡ record { atom = key; address = b } = one_by_map (λ (x : Placed). x.atom) all_places (positions.image_apart kept is.sections is.slots no_islands is.sizes is.command is.in_order.once) (record { atom = key; address = a }) (record { atom = key; address = b }) p q refl in
      ap (λ (x : Placed). x.address) same

  places_are : all_places ≡ places stood
  places_are = image_same (plan_of kept is.sections is.slots no_islands is.sizes is.command)

  -- a kept atom has the key
  kept_of : (key : AtomKey) (place : ℕ) → In (record { atom = key; address = place }) all_places → (atom : Atom) × In atom kept × (atom.key ≡ key)
  kept_of key place h =
      let listed : In key (map (λ (p : Placed). p.atom) all_places) = in_map (λ (p : Placed). p.atom) all_places (record { atom = key; address = place }) h in
      let keys = flat_map (positions.keys_chosen is.sections) positions.choices in
      let found : (atom : Atom) × In atom (atoms_of kept keys) × (atom.key ≡ key) = from_map (λ (atom : Atom). atom.key) (atoms_of kept keys) key (subst (λ (ks : List AtomKey). In key ks) (image_keys kept is.sections is.slots no_islands is.sizes is.command) listed) in
      (found.0, atoms_kept kept keys found.0 found.1, found.2)

  -- ---- sections that list an atom

  pub listed : (t : OutSection → Bool) (key : AtomKey) → list_any (λ (p : PlacedSection). t p.section && has_key p.section.atoms key) layout.sections ≡ true → In key (keys_of (filter t (sections_in layout.sections)))
  listed t key e =
      let found : (p : PlacedSection) × In p layout.sections × ((t p.section && has_key p.section.atoms key) ≡ true) = any_true (λ (p : PlacedSection). t p.section && has_key p.section.atoms key) layout.sections e in
      let parts = both_true (t found.0.section) (has_key found.0.section.atoms key) found.2 in
      in_flat (λ (s : OutSection). s.atoms) (filter t (sections_in layout.sections)) found.0.section key
      (in_filter t (sections_in layout.sections) found.0.section (in_map (λ (p : PlacedSection). p.section) layout.sections found.0 found.1) parts.0) (key_there found.0.section.atoms key parts.1)

  pub listed_any : (t : OutSection → Bool) (key : AtomKey) → In key (keys_of (filter t (sections_in layout.sections))) → list_any (λ (p : PlacedSection). t p.section && has_key p.section.atoms key) layout.sections ≡ true
  listed_any t key h =
      let found : (s : OutSection) × In s (filter t (sections_in layout.sections)) × In key s.atoms = from_flat (λ (s : OutSection). s.atoms) (filter t (sections_in layout.sections)) key h in
      let passed = from_filter t (sections_in layout.sections) found.0 found.1 in
      let placed : (p : PlacedSection) × In p layout.sections × (p.section ≡ found.0) = from_map (λ (p : PlacedSection). p.section) layout.sections found.0 passed.0 in
      any_from_in (λ (p : PlacedSection). t p.section && has_key p.section.atoms key) layout.sections placed.0 placed.1
      (subst (λ (s : OutSection). (t s && has_key s.atoms key) ≡ true) (sym placed.2) (both_are (t found.0) (has_key found.0.atoms key) passed.1 (key_found found.0.atoms key found.2)))

  pub code_listed : (key : AtomKey) → in_code layout key ≡ true → In key (code_keys is.sections)
  unfolding code_keys
  code_listed key e = subst (λ (keys : List AtomKey). In key keys) (code_same kept layout is) (listed is_code key (stands_parts is_code layout key e).0)

  -- an atom of `__text`
  pub code_seat : (key : AtomKey) → in_code layout key ≡ true → Seat kept code_stand key (place_in layout key)
  code_seat key e =
      let here = entry key (stands_parts is_code layout key e).1 in
      let atom = kept_of key (place_in layout key) here in
      let of_code : In key (kept_keys kept (code_keys is.sections)) = subst (λ (k : AtomKey). In k (kept_keys kept (code_keys is.sections))) atom.2 (kept_there kept (code_keys is.sections) atom.0 atom.1 (subst (λ (k : AtomKey). In k (code_keys is.sections)) (sym atom.2) (code_listed key e))) in
      let own : (a : Atom) × In a (atoms_of kept (code_keys is.sections)) × (a.key ≡ key) = from_map (λ (a : Atom). a.key) (atoms_of kept (code_keys is.sections)) key of_code in
      let wide : In (with_area [] (area_unit is.sections) own.0) (map (λ (p : Atom × ℕ). p.0) code_stand) = subst (λ (xs : List Atom). In (with_area [] (area_unit is.sections) own.0) xs) (sym (code_atoms ∙ spaced_is kept (area_unit is.sections) (code_keys is.sections))) (in_map (with_area [] (area_unit is.sections)) (atoms_of kept (code_keys is.sections)) own.0 own.1) in
      let seat : (p : Atom × ℕ) × In p code_stand × (p.0 ≡ with_area [] (area_unit is.sections) own.0) = from_map (λ (p : Atom × ℕ). p.0) code_stand (with_area [] (area_unit is.sections) own.0) wide in
      let named : seat.0.0.key ≡ key = ap (λ (a : Atom). a.key) seat.2 ∙ own.2 in
      let placed : In (record { atom = seat.0.0.key; address = seat.0.1 }) all_places =
      subst (λ (ps : List Placed). In (record { atom = seat.0.0.key; address = seat.0.1 }) ps) (sym places_are)
      (in_map (λ (p : Atom × ℕ). let q : Placed = record { atom = p.0.key; address = p.1 } in q) stood seat.0 (subst (λ (ps : List (Atom × ℕ)). In seat.0 ps) (sym stood_split) (in_left code_stand others seat.0 seat.1))) in
      record {
        seat = seat.0;
        there = seat.1;
        of_key = named;
        at = one_place key seat.0.1 (place_in layout key) (subst (λ (k : AtomKey). In (record { atom = k; address = seat.0.1 }) all_places) named placed) here;
        atom = own.0;
        has = atoms_kept kept (code_keys is.sections) own.0 own.1;
        named = own.2;
        room = let size : seat.0.0.size ≡ own.0.size + bytes_behind [] (area_unit is.sections) own.0.key = ap (λ (a : Atom). a.size) seat.2 in omega (arith, size);
      }

  code_of : (k : AtomKey) → In k (code_keys is.sections) → In k (keys_of (filter is_code is.sections))
  unfolding code_keys
  code_of k h = h

  has_address : (k : AtomKey) (address : ℕ) → Contains layout.placed (record { atom = k; address = address }) → is_some (address_in layout.placed k) ≡ true
  unfolding address_in
  has_address k address h = by (find (λ (p : Placed). is_eq (compare_keys p.atom k)) layout.placed) refl
    where
      by : (found : Option Placed) → find (λ (p : Placed). is_eq (compare_keys p.atom k)) layout.placed ≡ found → is_some (option_map (λ (p : Placed). p.address) (find (λ (p : Placed). is_eq (compare_keys p.atom k)) layout.placed)) ≡ true
      by None e = absurd (false≢true (sym (find_none (λ (p : Placed). is_eq (compare_keys p.atom k)) layout.placed (record { atom = k; address = address }) e (in_from_Contains layout.placed (record { atom = k; address = address }) h)) ∙ ap is_eq (tied_itself compare_keys_total k)))
      by (Some p) e = ap (λ (o : Option Placed). is_some (option_map (λ (q : Placed). q.address) o)) e

  code_back : (k : AtomKey) → In k (code_keys is.sections) → In k (keys_of (filter is_code (sections_in layout.sections)))
  unfolding code_keys
  code_back k h = subst (λ (keys : List AtomKey). In k keys) (sym (code_same kept layout is)) h

  pub code_from : (key : AtomKey) → In key (code_keys is.sections) → is_some (address_in layout.placed key) ≡ true → in_code layout key ≡ true
  code_from key h some = stands_from is_code layout key (listed_any is_code key (code_back key h)) some

  -- the layout has each kept atom of `__text`
  pub code_placed : (x : Atom) → In x (atoms_of kept (code_keys is.sections)) → in_code layout x.key ≡ true
  code_placed x h =
      let key : In x.key (code_keys is.sections) = keys_listed kept (code_keys is.sections) x h in
      let there = placed_there kept is.sections is.slots no_islands is.sizes is.command x (Contains_from_in kept x (atoms_kept kept (code_keys is.sections) x h)) (Contains_from_in (keys_of is.sections) x.key (still_listed is_code is.sections x.key (code_of x.key key))) in
      stands_from is_code layout x.key (listed_any is_code x.key (code_back x.key key)) (has_address x.key there.0 (Contains-permutation all_places layout.placed (record { atom = x.key; address = there.0 }) is.placed.places there.1))

  -- any other atom of the layout stands behind those
  pub other_place : (key : AtomKey) → is_some (address_in layout.placed key) ≡ true → in_code layout key ≡ false → code_end ≤ place_in layout key
  other_place key some away =
      let here = entry key some in
      let found : (p : Atom × ℕ) × In p stood × ((let q : Placed = record { atom = p.0.key; address = p.1 } in q) ≡ record { atom = key; address = place_in layout key }) = from_map (λ (p : Atom × ℕ). let q : Placed = record { atom = p.0.key; address = p.1 } in q) stood (record { atom = key; address = place_in layout key }) (subst (λ (ps : List Placed). In (record { atom = key; address = place_in layout key }) ps) places_are here) in
      let named : found.0.0.key ≡ key = ap (λ (q : Placed). q.atom) found.2 in
      let place : found.0.1 ≡ place_in layout key = ap (λ (q : Placed). q.address) found.2 in
      by found.0 named place (in_either code_stand others found.0 (subst (λ (ps : List (Atom × ℕ)). In found.0 ps) stood_split found.1))
    where
      by : (p : Atom × ℕ) → p.0.key ≡ key → p.1 ≡ place_in layout key → In p code_stand ⊎ In p others → code_end ≤ place_in layout key
      by p named place (inr h) = let low = others_low p h in omega (arith, low, place)
      by p named place (inl h) =
          let wide : In p.0 (map (with_area [] (area_unit is.sections)) (atoms_of kept (code_keys is.sections))) = subst (λ (xs : List Atom). In p.0 xs) (code_atoms ∙ spaced_is kept (area_unit is.sections) (code_keys is.sections)) (in_map (λ (q : Atom × ℕ). q.0) code_stand p h) in
          let own : (a : Atom) × In a (atoms_of kept (code_keys is.sections)) × (with_area [] (area_unit is.sections) a ≡ p.0) = from_map (with_area [] (area_unit is.sections)) (atoms_of kept (code_keys is.sections)) p.0 wide in
          let key_in : In key (code_keys is.sections) = subst (λ (k : AtomKey). In k (code_keys is.sections)) (ap (λ (a : Atom). a.key) own.2 ∙ named) (keys_listed kept (code_keys is.sections) own.0 own.1) in
          absurd (false≢true (sym away ∙ stands_from is_code layout key (listed_any is_code key (code_back key key_in)) some))

  pub seats_in_turn : (a b : AtomKey) (pa pb : ℕ) (x : Seat kept code_stand a pa) (y : Seat kept code_stand b pb) → compare_keys a b ≡ Less → pa + x.atom.size ≤ pb
  seats_in_turn a b pa pb x y less =
      let before = stands_before code_stand x.seat y.seat code_apart code_rises x.there y.there (subst (λ (k : AtomKey). compare_keys x.seat.0.key k ≡ Less) (sym y.of_key) (subst (λ (k : AtomKey). compare_keys k b ≡ Less) (sym x.of_key) less)) in
      omega (arith, before, x.at, y.at, x.room)

  pub seat_within : (a : AtomKey) (pa : ℕ) (x : Seat kept code_stand a pa) → (first ≤ pa) × (pa + x.atom.size ≤ code_end)
  seat_within a pa x =
      let within = parts_within spread first (chosen Code is.sections) x.seat x.there in
      (omega (arith, within.0, x.at), omega (arith, within.1, x.at, x.room))

  -- ---- by addresses

  stood_parts : stood ≡ parts_stand spread first (text_parts is.sections (made_bytes is.slots is.sizes)) ++ groups_stand spread next_page 0 (later_groups is.sections (made_bytes is.slots is.sizes))
  unfolding image_stand plan_of groups_stand
  stood_parts = ap (λ (groups : List Group). groups_stand spread (base_of is.command) (lead_of (groups_of is.sections (made_bytes is.slots is.sizes)) is.sizes is.command) groups) (groups_split is.sections (made_bytes is.slots is.sizes))

  part_listed : (at : ℕ) (parts : List Part) (p : Atom × ℕ) → AllByRecursion (λ (part : Part). (k : AtomKey) → In k part.section.atoms → In k (keys_of (filter is_text is.sections))) parts → In p (parts_stand spread at parts) → In p.0.key (keys_of (filter is_text is.sections))
  unfolding parts_stand
  part_listed at [] p all h = absurd h
  part_listed at (part ∷ parts) p all h = by (part_listed (part_end spread at part) parts p all.1) (in_either (stand (part_from at part) (spread part.section.atoms)) (parts_stand spread (part_end spread at part) parts) p h)
    where
      by : (In p (parts_stand spread (part_end spread at part) parts) → In p.0.key (keys_of (filter is_text is.sections))) → In p (stand (part_from at part) (spread part.section.atoms)) ⊎ In p (parts_stand spread (part_end spread at part) parts) → In p.0.key (keys_of (filter is_text is.sections))
      by rest (inr h) = rest h
      by rest (inl h) =
          let wide : In p.0 (map (with_area [] (area_unit is.sections)) (atoms_of kept part.section.atoms)) =
          subst (λ (xs : List Atom). In p.0 xs) (stand_atoms (part_from at part) (spread part.section.atoms) ∙ spaced_is kept (area_unit is.sections) part.section.atoms) (in_map (λ (q : Atom × ℕ). q.0) (stand (part_from at part) (spread part.section.atoms)) p h) in
          let own : (a : Atom) × In a (atoms_of kept part.section.atoms) × (with_area [] (area_unit is.sections) a ≡ p.0) = from_map (with_area [] (area_unit is.sections)) (atoms_of kept part.section.atoms) p.0 wide in
          subst (λ (k : AtomKey). In k (keys_of (filter is_text is.sections))) (ap (λ (a : Atom). a.key) own.2) (all.0 own.0.key (keys_listed kept part.section.atoms own.0 own.1))

  text_listed : AllByRecursion (λ (part : Part). (k : AtomKey) → In k part.section.atoms → In k (keys_of (filter is_text is.sections))) (text_parts is.sections (made_bytes is.slots is.sizes))
  text_listed =
      text_all (λ (part : Part). (k : AtomKey) → In k part.section.atoms → In k (keys_of (filter is_text is.sections))) is.sections (made_bytes is.slots is.sizes)
      (λ fixed k h. absurd h) (λ fixed k h. absurd h) (λ section h text k there. chosen_there is_text is.sections section k h text there)

  -- what stands before the first page behind `__TEXT` is in it
  pub before_page : (key : AtomKey) → is_some (address_in layout.placed key) ≡ true → place_in layout key < next_page → in_text layout key ≡ true
  before_page key some low =
      let here = entry key some in
      let found : (p : Atom × ℕ) × In p stood × ((let q : Placed = record { atom = p.0.key; address = p.1 } in q) ≡ record { atom = key; address = place_in layout key }) = from_map (λ (p : Atom × ℕ). let q : Placed = record { atom = p.0.key; address = p.1 } in q) stood (record { atom = key; address = place_in layout key }) (subst (λ (ps : List Placed). In (record { atom = key; address = place_in layout key }) ps) places_are here) in
      let named : found.0.0.key ≡ key = ap (λ (q : Placed). q.atom) found.2 in
      let place : found.0.1 ≡ place_in layout key = ap (λ (q : Placed). q.address) found.2 in
      by found.0 named place (in_either (parts_stand spread first (text_parts is.sections (made_bytes is.slots is.sizes))) (groups_stand spread next_page 0 (later_groups is.sections (made_bytes is.slots is.sizes))) found.0 (subst (λ (ps : List (Atom × ℕ)). In found.0 ps) stood_parts found.1))
    where
      by : (p : Atom × ℕ) → p.0.key ≡ key → p.1 ≡ place_in layout key → In p (parts_stand spread first (text_parts is.sections (made_bytes is.slots is.sizes))) ⊎ In p (groups_stand spread next_page 0 (later_groups is.sections (made_bytes is.slots is.sizes))) → in_text layout key ≡ true
      by p named place (inr h) = let far = groups_low spread next_page 0 (later_groups is.sections (made_bytes is.slots is.sizes)) p h in absurd (omega (arith, far, place, low))
      by p named place (inl h) =
          let there : In key (keys_of (filter is_text is.sections)) = subst (λ (k : AtomKey). In k (keys_of (filter is_text is.sections))) named (part_listed first (text_parts is.sections (made_bytes is.slots is.sizes)) p text_listed h) in
          stands_from is_text layout key (listed_any is_text key (listed_there is.sections (sections_in layout.sections) is_text key (are kept layout is) (λ section text. text) there)) some
