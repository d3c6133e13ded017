-- The sections of an image list `__text` in order, and have no atom with a greater alignment than their own.
use Rattle.std.proofs.Common.{◌≡◌, ℕ, ◌≤◌, ◌⊎◌, ◌++◌, ◌==◌, ◌&&◌, Bool, true, false, max, List, [], ◌∷◌, map, Option, Some, None, All, codes, refl, sym, ap, ap₂, subst, ◌∙◌, inl, inr, arith, append-nil}
use Rattle.std.specs.List.{filter, fold, AllByRecursion}
use Rattle.std.specs.List.Sorted.{IsStrictlySortedBy}
use Rattle.std.specs.Ordering.{on}
use Rattle.std.specs.Str.{bytes_eq}
use Rattle.std.specs.declared.cmp.Ordering.TheVariants.{Less}
use Rattle.std.proofs.lemmas.Bool.{cases_Bool, false≢true, eqb-true}
use Rattle.std.proofs.lemmas.List.Elements.{All-from_recursion}
use Rattle.list_lemmas.proofs.Members.{In, all_in, all_from_in, all_weaker, in_filter, in_map, from_map, from_filter}
use Rattle.list_lemmas.proofs.Rising.{rising_map}
use Rattle.mo_types.specs.Destination.{Destination}
use Rattle.mo_types.specs.Keys.{compare_keys}
use Rattle.mo_types.specs.declared.atom.Atom.{Atom}
use Rattle.mo_types.specs.declared.key.AtomKey.{AtomKey}
use Rattle.mo_types.specs.declared.loaded.LoadedFile.{LoadedFile}
use Rattle.mo_types.specs.declared.out_section.OutSection.{OutSection}
use Rattle.tlv_plan.specs.Template.{atoms_of, greatest_align, is_thread_local, keys_of, thread_local}
use Rattle.sect_place.specs.Arrangement.{is_code}
use Rattle.sect_list.specs.OutSections.{is_in, Home, Row, going_to, home_of, in_order, led, led_by, out_sections, row_of, rows, same_destination, section_with, sections_of}
use Rattle.sect_place.specs.Moved.{AreInOrder, code_keys}
use Rattle.sect_list.proofs.Listed.{names_equal}
use Rattle.sect_list.proofs.Low.{all_low}
use Rattle.sect_list.proofs.Once.{Apart, key_of, keys_apart, listed_once, one_by_map, order_apart, order_members, row_keys, section_behind, sections_apart}
use Rattle.sect_place.proofs.Positions.{finds, found_atom, keys_listed}

-- ---- the one section of code

abbrev Rise : List AtomKey → Type 0
Rise keys = IsStrictlySortedBy compare_keys keys

rows_rise : (files : List LoadedFile) (kept : List Atom) → Rise (map (λ (atom : Atom). atom.key) kept) → Rise (map key_of (rows files kept))
unfolding rows row_of IsStrictlySortedBy
rows_rise files [] rise = tt
rows_rise files (atom ∷ kept) rise = by (home_of files atom.key.file atom.key.section) refl (rows_rise files kept rise.1)
  where
    by : (home : Option Home) → home_of files atom.key.file atom.key.section ≡ home → Rise (map key_of (rows files kept)) → Rise (map key_of (rows files (atom ∷ kept)))
    by None e rest = rw e rest
    by (Some home) e rest = rw e (all_from_in (λ (y : AtomKey). compare_keys atom.key y ≡ Less) (map key_of (rows files kept)) (λ y h. all_in (λ (z : AtomKey). compare_keys atom.key z ≡ Less) (map (λ (a : Atom). a.key) kept) y rise.0 (row_keys files kept y h)), rest)

filter_rise : (t : Row → Bool) (all : List Row) → Rise (map key_of all) → Rise (map key_of (filter t all))
unfolding IsStrictlySortedBy
filter_rise t [] rise = tt
filter_rise t (row ∷ all) rise = by (cases_Bool (t row)) (filter_rise t all rise.1)
  where
    by : (t row ≡ true) ⊎ (t row ≡ false) → Rise (map key_of (filter t all)) → Rise (map key_of (filter t (row ∷ all)))
    by (inl here) rest =
        rw here (
          all_from_in (λ (y : AtomKey). compare_keys row.atom.key y ≡ Less) (map key_of (filter t all))
              (λ y h.
              let found : (r : Row) × In r (filter t all) × (key_of r ≡ y) = from_map key_of (filter t all) y h in
              all_in (λ (z : AtomKey). compare_keys row.atom.key z ≡ Less) (map key_of all) y rise.0 (subst (λ (k : AtomKey). In k (map key_of all)) found.2 (in_map key_of all found.0 (from_filter t all found.0 found.1).0))),
          rest,
        )
    by (inr away) rest = rw away rest

section_rise : (all : List Row) → Rise (map key_of all) → (section : OutSection) → In section (sections_of all) → Rise section.atoms
unfolding section_with going_to
section_rise all rise section h =
    let found = section_behind all section h in
    subst (λ (s : OutSection). Rise s.atoms) found.1 (filter_rise (λ (row : Row). same_destination row.home.to found.0) all rise)

three : (a b c : Bool) → (a && b && c) ≡ true → (a ≡ true) × (b ≡ true) × (c ≡ true)
three true true true e = (refl, refl, refl)
three true true false e = absurd (false≢true e)
three true false c e = absurd (false≢true e)
three false b c e = absurd (false≢true e)

one_code : (all : List Row) (a b : OutSection) → In a (sections_of all) → In b (sections_of all) → is_code a ≡ true → is_code b ≡ true → a ≡ b
unfolding section_with
one_code all a b p q c d =
    let first = section_behind all a p in
    let second = section_behind all b q in
    let ca = three (is_in (codes "__TEXT") a) (bytes_eq a.name (codes "__text")) (a.kind == 0) c in
    let cb = three (is_in (codes "__TEXT") b) (bytes_eq b.name (codes "__text")) (b.kind == 0) d in
    let segment : a.segment ≡ b.segment = (names_equal a.segment (codes "__TEXT")).0 ca.0 ∙ sym ((names_equal b.segment (codes "__TEXT")).0 cb.0) in
    let name : a.name ≡ b.name = (names_equal a.name (codes "__text")).0 ca.1 ∙ sym ((names_equal b.name (codes "__text")).0 cb.1) in
    let kind : a.kind ≡ b.kind = eqb-true a.kind 0 ca.2 ∙ sym (eqb-true b.kind 0 cb.2) in
    let to : first.0 ≡ second.0 = same first.0 second.0 (ap (λ (s : OutSection). s.segment) first.1 ∙ (segment ∙ sym (ap (λ (s : OutSection). s.segment) second.1))) (ap (λ (s : OutSection). s.name) first.1 ∙ (name ∙ sym (ap (λ (s : OutSection). s.name) second.1))) (ap (λ (s : OutSection). s.kind) first.1 ∙ (kind ∙ sym (ap (λ (s : OutSection). s.kind) second.1))) in
    sym first.1 ∙ (ap (λ (t : Destination). section_with t (going_to all t)) to ∙ second.1)
  where
    same : (x y : Destination) → x.segment ≡ y.segment → x.name ≡ y.name → x.kind ≡ y.kind → x ≡ y
    same x y e f g = ap₂ (λ (p : List ℕ × List ℕ) (k : ℕ). let d : Destination = record { segment = p.0; name = p.1; kind = k } in d) (ap₂ (λ (s n : List ℕ). let p : List ℕ × List ℕ = (s, n) in p) e f) g

none_left : (t : OutSection → Bool) (s : OutSection) (sections : List OutSection) → (In s sections → ⊥) → t s ≡ true → ((a : OutSection) → In a sections → t a ≡ true → s ≡ a) → filter t sections ≡ []
none_left t s [] not is one = refl
none_left t s (a ∷ sections) not is one = by (cases_Bool (t a)) (none_left t s sections (λ h. not (inr h)) is (λ b h. one b (inr h)))
  where
    by : (t a ≡ true) ⊎ (t a ≡ false) → filter t sections ≡ [] → filter t (a ∷ sections) ≡ []
    by (inl here) rest = absurd (not (inl (sym (one a (inl refl) here))))
    by (inr away) rest = rw away rest

one_rises : (t : OutSection → Bool) (sections : List OutSection) → Apart sections → ((a b : OutSection) → In a sections → In b sections → t a ≡ true → t b ≡ true → a ≡ b) → ((a : OutSection) → In a sections → Rise a.atoms) → Rise (keys_of (filter t sections))
unfolding IsStrictlySortedBy
one_rises t [] apart one rise = tt
one_rises t (section ∷ sections) apart one rise = by (cases_Bool (t section)) (one_rises t sections apart.1 (λ a b p q. one a b (inr p) (inr q)) (λ a h. rise a (inr h)))
  where
    by : (t section ≡ true) ⊎ (t section ≡ false) → Rise (keys_of (filter t sections)) → Rise (keys_of (filter t (section ∷ sections)))
    by (inl here) rest =
        let none = none_left t section sections apart.0 here (λ a h is. one section a (inl refl) (inr h) here is) in
        let alone : section.atoms ++ keys_of (filter t sections) ≡ section.atoms = ap (λ (ss : List OutSection). section.atoms ++ keys_of ss) none ∙ append-nil section.atoms in
        rw here (subst Rise (sym alone) (rise section (inl refl)))
    by (inr away) rest = rw away rest

led_code : (align : ℕ) (sections : List OutSection) → keys_of (filter is_code (led_by align sections)) ≡ keys_of (filter is_code sections)
led_code align [] = refl
led_code align (section ∷ sections) = by (cases_Bool (is_thread_local section)) (led_code align sections)
  where
    by : (is_thread_local section ≡ true) ⊎ (is_thread_local section ≡ false) → keys_of (filter is_code (led_by align sections)) ≡ keys_of (filter is_code sections) → keys_of (filter is_code (led_by align (section ∷ sections))) ≡ keys_of (filter is_code (section ∷ sections))
    by (inl local) rest = rw local (each (cases_Bool (is_code section)))
      where
        each : (is_code section ≡ true) ⊎ (is_code section ≡ false) → keys_of (filter is_code (record section { align = align } ∷ sections)) ≡ keys_of (filter is_code (section ∷ sections))
        each (inl code) = rw code refl
        each (inr away) = rw away refl
    by (inr other) rest = rw other (each (cases_Bool (is_code section)))
      where
        each : (is_code section ≡ true) ⊎ (is_code section ≡ false) → keys_of (filter is_code (section ∷ led_by align sections)) ≡ keys_of (filter is_code (section ∷ sections))
        each (inl code) = rw code (ap (λ (ks : List AtomKey). section.atoms ++ ks) rest)
        each (inr away) = rw away rest

pub code_rises : (files : List LoadedFile) (kept : List Atom) → IsStrictlySortedBy (on (λ (atom : Atom). atom.key) compare_keys) kept → Rise (code_keys (out_sections files kept))
unfolding out_sections led code_keys
code_rises files kept rising =
    let all : List Row = rows files kept in
    let ordered : List OutSection = in_order (sections_of all) in
    let rise : Rise (map key_of all) = rows_rise files kept (rising_map (λ (atom : Atom). atom.key) compare_keys kept rising) in
    subst Rise (sym (led_code (greatest_align (thread_local ordered)) ordered))
    (one_rises is_code ordered (order_apart (sections_of all) (sections_apart all))
    (λ a b p q. one_code all a b (order_members (sections_of all) a p) (order_members (sections_of all) b q))
    (λ a h. section_rise all rise a (order_members (sections_of all) a h)))

-- ---- each section

led_rise : (align : ℕ) (sections : List OutSection) → AllByRecursion (λ (section : OutSection). Rise section.atoms) sections → AllByRecursion (λ (section : OutSection). Rise section.atoms) (led_by align sections)
led_rise align [] all = tt
led_rise align (section ∷ sections) all = by (cases_Bool (is_thread_local section)) (led_rise align sections all.1)
  where
    by : (is_thread_local section ≡ true) ⊎ (is_thread_local section ≡ false) → AllByRecursion (λ (s : OutSection). Rise s.atoms) (led_by align sections) → AllByRecursion (λ (s : OutSection). Rise s.atoms) (led_by align (section ∷ sections))
    by (inl local) rest = rw local (all.0, all.1)
    by (inr other) rest = rw other (all.0, rest)

each_rises : (files : List LoadedFile) (kept : List Atom) → IsStrictlySortedBy (on (λ (atom : Atom). atom.key) compare_keys) kept → AllByRecursion (λ (section : OutSection). Rise section.atoms) (out_sections files kept)
unfolding out_sections led
each_rises files kept rising =
    let all : List Row = rows files kept in
    let ordered : List OutSection = in_order (sections_of all) in
    let rise : Rise (map key_of all) = rows_rise files kept (rising_map (λ (atom : Atom). atom.key) compare_keys kept rising) in
    led_rise (greatest_align (thread_local ordered)) ordered
    (all_from_in (λ (section : OutSection). Rise section.atoms) ordered (λ a h. section_rise all rise a (order_members (sections_of all) a h)))

-- ---- alignments

max_above : (n : ℕ) (xs : List ℕ) → n ≤ fold max n xs
max_above n [] = omega arith
max_above n (x ∷ xs) = let rest = max_above (max n x) xs in omega (arith, rest)

max_of : (n : ℕ) (xs : List ℕ) (x : ℕ) → In x xs → x ≤ fold max n xs
max_of n [] x h = absurd h
max_of n (y ∷ xs) x (inl e) = let rest = max_above (max n y) xs in omega (arith, rest, e)
max_of n (y ∷ xs) x (inr h) = max_of (max n y) xs x h

in_kept : (kept : List Atom) (keys : List AtomKey) (atom : Atom) → In atom (atoms_of kept keys) → In atom kept
unfolding atoms_of
in_kept kept [] atom h = absurd h
in_kept kept (key ∷ keys) atom h = by (finds kept key) refl (in_kept kept keys atom)
  where
    by : (o : Option Atom) → finds kept key ≡ o → (In atom (atoms_of kept keys) → In atom kept) → In atom kept
    by None e rest = rest (rw e at h)
    by (Some found) e rest = first (rw e at h)
      where
        first : (found ≡ atom) ⊎ In atom (atoms_of kept keys) → In atom kept
        first (inl p) = subst (λ (a : Atom). In a kept) p (found_atom kept key found e).1
        first (inr q) = rest q

row_kept : (files : List LoadedFile) (kept : List Atom) (row : Row) → In row (rows files kept) → In row.atom kept
unfolding rows row_of
row_kept files [] row h = absurd h
row_kept files (atom ∷ kept) row h = by (home_of files atom.key.file atom.key.section) refl (row_kept files kept row)
  where
    by : (home : Option Home) → home_of files atom.key.file atom.key.section ≡ home → (In row (rows files kept) → In row.atom kept) → In row.atom (atom ∷ kept)
    by None e rest = inr (rest (rw e at h))
    by (Some home) e rest = first (rw e at h)
      where
        first : (record { atom = atom; home = home } ≡ row) ⊎ In row (rows files kept) → In row.atom (atom ∷ kept)
        first (inl p) = inl (ap (λ (r : Row). r.atom) p)
        first (inr q) = inr (rest q)

abbrev HasLow : List Atom → OutSection → Type 0
HasLow kept section = AllByRecursion (λ (atom : Atom). atom.align ≤ section.align) (atoms_of kept section.atoms)

section_aligned : (files : List LoadedFile) (kept : List Atom) → Apart (map (λ (atom : Atom). atom.key) kept) → (section : OutSection) → In section (sections_of (rows files kept)) → HasLow kept section
unfolding section_with going_to
section_aligned files kept apart section h =
    let all = rows files kept in
    let found = section_behind all section h in
    subst (HasLow kept) found.1
    (all_from_in (λ (atom : Atom). atom.align ≤ (section_with found.0 (going_to all found.0)).align) (atoms_of kept (section_with found.0 (going_to all found.0)).atoms)
    (λ atom there.
    let keyed : (row : Row) × In row (going_to all found.0) × (row.atom.key ≡ atom.key) = from_map (λ (row : Row). row.atom.key) (going_to all found.0) atom.key (keys_listed kept (section_with found.0 (going_to all found.0)).atoms atom there) in
    let row_there : In keyed.0 all = (from_filter (λ (row : Row). same_destination row.home.to found.0) all keyed.0 keyed.1).0 in
    let same : keyed.0.atom ≡ atom = one_by_map (λ (a : Atom). a.key) kept apart keyed.0.atom atom (row_kept files kept keyed.0 row_there) (in_kept kept (section_with found.0 (going_to all found.0)).atoms atom there) keyed.2 in
    max_of 0 (map (λ (row : Row). row.atom.align) (going_to all found.0)) atom.align (subst (λ (a : Atom). In a.align (map (λ (row : Row). row.atom.align) (going_to all found.0))) same (in_map (λ (row : Row). row.atom.align) (going_to all found.0) keyed.0 keyed.1))))

higher : (kept : List Atom) (section : OutSection) (align : ℕ) → section.align ≤ align → HasLow kept section → HasLow kept (record section { align = align })
higher kept section align low all = all_from_in (λ (atom : Atom). atom.align ≤ align) (atoms_of kept section.atoms) (λ atom h. let here = all_in (λ (a : Atom). a.align ≤ section.align) (atoms_of kept section.atoms) atom all h in omega (arith, here, low))

greatest_above : (sections : List OutSection) (section : OutSection) → In section sections → section.align ≤ greatest_align sections
unfolding greatest_align
greatest_above [] section h = absurd h
greatest_above (s ∷ sections) section (inl e) = subst (λ (n : ℕ). n ≤ max s.align (greatest_align sections)) (ap (λ (q : OutSection). q.align) e) (omega arith)
greatest_above (s ∷ sections) section (inr h) = let rest = greatest_above sections section h in omega (arith, rest)

led_aligned : (kept : List Atom) (align : ℕ) (sections : List OutSection) → ((s : OutSection) → In s sections → is_thread_local s ≡ true → s.align ≤ align) → AllByRecursion (HasLow kept) sections → AllByRecursion (HasLow kept) (led_by align sections)
led_aligned kept align [] low all = tt
led_aligned kept align (section ∷ sections) low all = by (cases_Bool (is_thread_local section)) (led_aligned kept align sections (λ s h. low s (inr h)) all.1)
  where
    by : (is_thread_local section ≡ true) ⊎ (is_thread_local section ≡ false) → AllByRecursion (HasLow kept) (led_by align sections) → AllByRecursion (HasLow kept) (led_by align (section ∷ sections))
    by (inl local) rest = rw local (higher kept section align (low section (inl refl) local) all.0, all.1)
    by (inr other) rest = rw other (all.0, rest)

all_aligned : (files : List LoadedFile) (kept : List Atom) → Apart (map (λ (atom : Atom). atom.key) kept) → AllByRecursion (HasLow kept) (out_sections files kept)
unfolding out_sections led thread_local
all_aligned files kept apart =
    let ordered : List OutSection = in_order (sections_of (rows files kept)) in
    led_aligned kept (greatest_align (filter is_thread_local ordered)) ordered
    (λ s h local. greatest_above (filter is_thread_local ordered) s (in_filter is_thread_local ordered s h local))
    (all_from_in (HasLow kept) ordered (λ s h. section_aligned files kept apart s (order_members (sections_of (rows files kept)) s h)))

pub in_order_law : (files : List LoadedFile) (kept : List Atom) → IsStrictlySortedBy (on (λ (atom : Atom). atom.key) compare_keys) kept → All (λ (atom : Atom). atom.align ≤ 14) kept → AreInOrder kept (out_sections files kept)
in_order_law files kept rising low =
    let apart : Apart (map (λ (atom : Atom). atom.key) kept) = keys_apart (map (λ (atom : Atom). atom.key) kept) (rising_map (λ (atom : Atom). atom.key) compare_keys kept rising) in
    record {
      once = listed_once files kept rising;
      each = All-from_recursion (λ (section : OutSection). IsStrictlySortedBy compare_keys section.atoms) (out_sections files kept) (each_rises files kept rising);
      code = code_rises files kept rising;
      aligned =
          All-from_recursion (λ (section : OutSection). All (λ (atom : Atom). atom.align ≤ section.align) (atoms_of kept section.atoms)) (out_sections files kept)
          (all_weaker (HasLow kept) (λ (section : OutSection). All (λ (atom : Atom). atom.align ≤ section.align) (atoms_of kept section.atoms)) (λ section all. All-from_recursion (λ (atom : Atom). atom.align ≤ section.align) (atoms_of kept section.atoms) all) (out_sections files kept) (all_aligned files kept apart));
      low = all_low files kept low;
    }
