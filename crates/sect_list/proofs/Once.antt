-- No atom is listed twice.
use Rattle.std.proofs.Common.{◌≡◌, ◌≢◌, ℕ, ◌⊎◌, ◌++◌, Bool, true, false, List, [], ◌∷◌, map, Option, Some, None, refl, sym, ap, subst, ◌∙◌, inl, inr, arith}
use Rattle.std.specs.List.{filter, flat_map, list_any, AllPairs}
use Rattle.std.specs.List.Sorted.{IsStrictlySortedBy}
use Rattle.std.specs.declared.cmp.Ordering.TheVariants.{Less, Equal}
use Rattle.std.specs.Ordering.{on}
use Rattle.std.specs.Str.{bytes_eq}
use Rattle.std.proofs.lemmas.Bool.{eqb-true}
use Rattle.std.proofs.lemmas.Cmp.{tied_itself}
use Rattle.std.proofs.lemmas.List.Elements.{All-from_recursion}
use Rattle.std.proofs.lemmas.List.Kept.{AllPairs-cons}
use Rattle.indexmap.specs.IndexSet.{insert_all, insert_key}
use Rattle.list_lemmas.proofs.Members.{In, all_in, all_from_in, in_map, from_map, from_filter, any_from_in, from_flat, in_either}
use Rattle.list_lemmas.proofs.Rising.{rising_map}
use Rattle.mo_types.proofs.KeyOrder.{compare_keys_total}
use Rattle.mo_types.specs.Destination.{Destination}
use Rattle.mo_types.specs.Keys.{compare_keys}
use Rattle.mo_types.specs.declared.atom.Atom.{Atom}
use Rattle.mo_types.specs.declared.key.AtomKey.{AtomKey}
use Rattle.mo_types.specs.declared.loaded.LoadedFile.{LoadedFile}
use Rattle.mo_types.specs.declared.out_section.OutSection.{OutSection}
use Rattle.tlv_plan.specs.Template.{greatest_align, is_thread_local, keys_of, thread_local}
use Rattle.sect_list.specs.OutSections.{is_in, Home, Row, rows, row_of, home_of, same_destination, destinations, going_to, section_with, sections_of, is_of, is_regular, ranked, leading, segments_of, in_order, led_by, led, out_sections}
use Rattle.sect_list.proofs.Gathering.{equal, one_dest}
use Rattle.sect_list.proofs.Listed.{names_equal}

-- no element stands twice
abbrev pub Apart : {X : Type 0} → List X → Type 0
Apart [] = Unit {0}
Apart (x ∷ xs) = (In x xs → ⊥) × Apart xs

pub apart_append : {X : Type 0} (xs ys : List X) → Apart xs → Apart ys → ((x : X) → In x xs → In x ys → ⊥) → Apart (xs ++ ys)
apart_append [] ys a b none = b
apart_append (x ∷ xs) ys a b none =
    (λ h. either (in_either xs ys x h), apart_append xs ys a.1 b (λ z first second. none z (inr first) second))
  where
    either : In x xs ⊎ In x ys → ⊥
    either (inl first) = a.0 first
    either (inr second) = none x (inl refl) second

pub apart_flat : {X Y : Type 0} (f : X → List Y) (xs : List X) → Apart xs → ((x : X) → In x xs → Apart (f x)) → ((x z : X) (y : Y) → In x xs → In z xs → In y (f x) → In y (f z) → x ≡ z) → Apart (flat_map f xs)
apart_flat f [] a each one = tt
apart_flat {X = X} f (x ∷ xs) a each one =
    apart_append (f x) (flat_map f xs) (each x (inl refl)) (apart_flat f xs a.1 (λ z h. each z (inr h)) (λ z w y p q. one z w y (inr p) (inr q)))
    (λ y here there.
    let later : (z : X) × In z xs × In y (f z) = from_flat f xs y there in
    a.0 (subst (λ (q : X). In q xs) (sym (one x later.0 y (inl refl) (inr later.1) here later.2)) later.1))

apart_filter : {X : Type 0} (t : X → Bool) (xs : List X) → Apart xs → Apart (filter t xs)
apart_filter t [] a = tt
apart_filter t (x ∷ xs) a = by (t x) refl (apart_filter t xs a.1)
  where
    by : (b : Bool) → t x ≡ b → Apart (filter t xs) → Apart (filter t (x ∷ xs))
    by true e rest = rw e ((λ h. a.0 (from_filter t xs x h).0), rest)
    by false e rest = rw e rest

apart_map : {X Y : Type 0} (f : X → Y) (xs : List X) → ((x z : X) → In x xs → In z xs → f x ≡ f z → x ≡ z) → Apart xs → Apart (map f xs)
apart_map f [] one a = tt
apart_map {X = X} f (x ∷ xs) one a = (
  λ h.
      let there : (z : X) × In z xs × (f z ≡ f x) = from_map f xs (f x) h in
      a.0 (subst (λ (q : X). In q xs) (one there.0 x (inr there.1) (inl refl) there.2) there.1),
  apart_map f xs (λ z w p q. one z w (inr p) (inr q)) a.1,
)

-- elements that stand apart by what they are mapped to
apart_from_map : {X Y : Type 0} (f : X → Y) (xs : List X) → Apart (map f xs) → Apart xs
apart_from_map f [] a = tt
apart_from_map f (x ∷ xs) a = ((λ h. a.0 (in_map f xs x h)), apart_from_map f xs a.1)

pub one_by_map : {X Y : Type 0} (f : X → Y) (xs : List X) → Apart (map f xs) → (x z : X) → In x xs → In z xs → f x ≡ f z → x ≡ z
one_by_map f [] a x z h k e = absurd h
one_by_map f (y ∷ ys) a x z (inl p) (inl q) e = sym p ∙ q
one_by_map f (y ∷ ys) a x z (inl p) (inr k) e = absurd (a.0 (subst (λ q. In q (map f ys)) (sym (ap f p ∙ e)) (in_map f ys z k)))
one_by_map f (y ∷ ys) a x z (inr h) (inl q) e = absurd (a.0 (subst (λ w. In w (map f ys)) (e ∙ sym (ap f q)) (in_map f ys x h)))
one_by_map f (y ∷ ys) a x z (inr h) (inr k) e = one_by_map f ys a.1 x z h k e

-- ---- keys that are inserted

module _ {K : Type 0} (same : K → K → Bool) (equal_keys : (a b : K) → (same a b ≡ true → a ≡ b) × (a ≡ b → same a b ≡ true)) where
  inserted : (ks : List K) (k : K) (b : Bool) → list_any (same k) ks ≡ b → Apart ks → Apart (insert_key same ks k)
  inserted ks k true e a = rw e a
  inserted ks k false e a =
      rw e (apart_append ks (k ∷ []) a ((λ h. absurd h), tt) (λ x there last.
      let same_one : k ≡ x = only x last in
      let found : list_any (same k) ks ≡ true = any_from_in (same k) ks x there ((equal_keys k x).1 same_one) in
      no (sym found ∙ e)))
    where
      only : (x : K) → In x (k ∷ []) → k ≡ x
      only x (inl p) = p
      only x (inr h) = absurd h

      no : true ≡ false → ⊥
      no e = cc

  all_inserted : (ks xs : List K) → Apart ks → Apart (insert_all same ks xs)
  all_inserted ks [] a = a
  all_inserted ks (x ∷ xs) a = all_inserted (insert_key same ks x) xs (inserted ks x (list_any (same x) ks) refl a)

-- ---- atoms and rows

pub keys_apart : (keys : List AtomKey) → IsStrictlySortedBy compare_keys keys → Apart keys
unfolding IsStrictlySortedBy
keys_apart [] h = tt
keys_apart (key ∷ keys) h =
    ((λ there. no (sym (all_in (λ y. compare_keys key y ≡ Less) keys key h.0 there) ∙ tied_itself compare_keys_total key)), keys_apart keys h.1)
  where
    no : Less ≡ Equal → ⊥
    no e = cc

abbrev pub key_of : Row → AtomKey
key_of row = row.atom.key

pub row_keys : (files : List LoadedFile) (kept : List Atom) (key : AtomKey) → In key (map key_of (rows files kept)) → In key (map (λ (atom : Atom). atom.key) kept)
unfolding rows row_of
row_keys files [] key h = absurd h
row_keys files (atom ∷ kept) key h = by (home_of files atom.key.file atom.key.section) refl (row_keys files kept key)
  where
    by : (home : Option Home) → home_of files atom.key.file atom.key.section ≡ home → (In key (map key_of (rows files kept)) → In key (map (λ (atom : Atom). atom.key) kept)) → In key (map (λ (atom : Atom). atom.key) (atom ∷ kept))
    by None e rest = inr (rest (rw e at h))
    by (Some home) e rest = first (rw e at h) rest
      where
        first : (atom.key ≡ key) ⊎ In key (map key_of (rows files kept)) → (In key (map key_of (rows files kept)) → In key (map (λ (atom : Atom). atom.key) kept)) → In key (map (λ (atom : Atom). atom.key) (atom ∷ kept))
        first (inl p) rest = inl p
        first (inr q) rest = inr (rest q)

rows_apart : (files : List LoadedFile) (kept : List Atom) → Apart (map (λ (atom : Atom). atom.key) kept) → Apart (map key_of (rows files kept))
unfolding rows row_of
rows_apart files [] a = tt
rows_apart files (atom ∷ kept) a = by (home_of files atom.key.file atom.key.section) refl (rows_apart files kept a.1)
  where
    by : (home : Option Home) → home_of files atom.key.file atom.key.section ≡ home → Apart (map key_of (rows files kept)) → Apart (map key_of (rows files (atom ∷ kept)))
    by None e rest = rw e rest
    by (Some home) e rest = rw e ((λ h. a.0 (row_keys files kept atom.key h)), rest)

-- ---- sections

same_fields : (a b : Destination) (all more : List Row) → section_with a all ≡ section_with b more → a ≡ b
unfolding section_with
same_fields a b all more e = one_dest a b (record { segment = ap (λ (s : OutSection). s.segment) e; name = ap (λ (s : OutSection). s.name) e; kind = ap (λ (s : OutSection). s.kind) e })

pub sections_apart : (all : List Row) → Apart (sections_of all)
unfolding sections_of destinations
sections_apart all =
    apart_map (λ (to : Destination). section_with to (going_to all to)) (destinations all) (λ a b p q e. same_fields a b (going_to all a) (going_to all b) e)
    (all_inserted same_destination equal [] (map (λ (row : Row). row.home.to) all) tt)

-- a listed key is that of a row that goes to the section
row_behind : (all : List Row) (to : Destination) (key : AtomKey) → In key (section_with to (going_to all to)).atoms → (row : Row) × In row all × (row.home.to ≡ to) × (key_of row ≡ key)
unfolding section_with going_to
row_behind all to key h =
    let found : (row : Row) × In row (going_to all to) × (row.atom.key ≡ key) = from_map (λ (row : Row). row.atom.key) (going_to all to) key h in
    let passed = from_filter (λ (row : Row). same_destination row.home.to to) all found.0 found.1 in
    (found.0, passed.0, (equal found.0.home.to to).0 passed.1, found.2)

pub section_behind : (all : List Row) (section : OutSection) → In section (sections_of all) → (to : Destination) × (section_with to (going_to all to) ≡ section)
unfolding sections_of
section_behind all section h =
    let found : (to : Destination) × In to (destinations all) × (section_with to (going_to all to) ≡ section) = from_map (λ (to : Destination). section_with to (going_to all to)) (destinations all) section h in
    (found.0, found.2)

one_section : (all : List Row) → Apart (map key_of all) → (a b : OutSection) (key : AtomKey) → In a (sections_of all) → In b (sections_of all) → In key a.atoms → In key b.atoms → a ≡ b
one_section all apart a b key p q h k =
    let first = section_behind all a p in
    let second = section_behind all b q in
    let one = row_behind all first.0 key (subst (λ (s : OutSection). In key s.atoms) (sym first.1) h) in
    let other = row_behind all second.0 key (subst (λ (s : OutSection). In key s.atoms) (sym second.1) k) in
    let same : one.0 ≡ other.0 = one_by_map key_of all apart one.0 other.0 one.1 other.1 (one.3 ∙ sym other.3) in
    let to : first.0 ≡ second.0 = sym one.2 ∙ ap (λ (row : Row). row.home.to) same ∙ other.2 in
    sym first.1 ∙ ap (λ (t : Destination). section_with t (going_to all t)) to ∙ second.1

atoms_apart : (all : List Row) → Apart (map key_of all) → (section : OutSection) → In section (sections_of all) → Apart section.atoms
unfolding section_with going_to
atoms_apart all apart section h =
    let found = section_behind all section h in
    subst (λ (s : OutSection). Apart s.atoms) found.1
    (apart_map (λ (row : Row). row.atom.key) (going_to all found.0)
    (λ x z p q e. one_by_map key_of all apart x z (from_filter (λ (row : Row). same_destination row.home.to found.0) all x p).0 (from_filter (λ (row : Row). same_destination row.home.to found.0) all z q).0 e)
    (apart_filter (λ (row : Row). same_destination row.home.to found.0) all (apart_from_map key_of all apart)))

-- ---- sections in order

no_bools : true ≡ false → ⊥
no_bools e = cc

ranked_members : (sections : List OutSection) (section : OutSection) → In section (ranked sections) → In section sections
unfolding ranked
ranked_members sections section h = fourth (in_either ((filter is_regular sections ++ filter (is_of 0x11) sections) ++ filter (is_of 0x12) sections) (filter (is_of 1) sections) section h)
  where
    second : In section (filter is_regular sections) ⊎ In section (filter (is_of 0x11) sections) → In section sections
    second (inl a) = (from_filter is_regular sections section a).0
    second (inr b) = (from_filter (is_of 0x11) sections section b).0

    third : In section (filter is_regular sections ++ filter (is_of 0x11) sections) ⊎ In section (filter (is_of 0x12) sections) → In section sections
    third (inl a) = second (in_either (filter is_regular sections) (filter (is_of 0x11) sections) section a)
    third (inr b) = (from_filter (is_of 0x12) sections section b).0

    fourth : In section ((filter is_regular sections ++ filter (is_of 0x11) sections) ++ filter (is_of 0x12) sections) ⊎ In section (filter (is_of 1) sections) → In section sections
    fourth (inl a) = third (in_either (filter is_regular sections ++ filter (is_of 0x11) sections) (filter (is_of 0x12) sections) section a)
    fourth (inr b) = (from_filter (is_of 1) sections section b).0

-- what is regular is of none of the other kinds, and these differ
kinds : (section : OutSection) (kind : ℕ) → is_of kind section ≡ true → section.kind ≡ kind
kinds section kind e = eqb-true section.kind kind e

apart_kinds : (section : OutSection) (a b : ℕ) → (a ≡ b → ⊥) → is_of a section ≡ true → is_of b section ≡ true → ⊥
apart_kinds section a b differ p q = differ (sym (kinds section a p) ∙ kinds section b q)

not_regular : (section : OutSection) (kind : ℕ) → section.kind ≡ kind → is_regular (record section { kind = kind }) ≡ false → is_regular section ≡ false
not_regular section kind e h = subst (λ (n : ℕ). is_regular (record section { kind = n }) ≡ false) (sym e) h

regular_apart : (section : OutSection) (kind : ℕ) → is_regular (record section { kind = kind }) ≡ false → is_regular section ≡ true → is_of kind section ≡ true → ⊥
regular_apart section kind h p q = no_bools (sym p ∙ not_regular section kind (kinds section kind q) h)

ranked_apart : (sections : List OutSection) → Apart sections → Apart (ranked sections)
unfolding ranked
ranked_apart sections a =
    apart_append ((filter is_regular sections ++ filter (is_of 0x11) sections) ++ filter (is_of 0x12) sections) (filter (is_of 1) sections)
    (apart_append (filter is_regular sections ++ filter (is_of 0x11) sections) (filter (is_of 0x12) sections)
    (apart_append (filter is_regular sections) (filter (is_of 0x11) sections) (apart_filter is_regular sections a) (apart_filter (is_of 0x11) sections a)
    (λ s p q. regular_apart s 0x11 refl (passed is_regular s p) (passed (is_of 0x11) s q)))
    (apart_filter (is_of 0x12) sections a)
    (λ s p q. two s (in_either (filter is_regular sections) (filter (is_of 0x11) sections) s p) 0x12 refl (λ e. absurd (omega arith)) (passed (is_of 0x12) s q)))
    (apart_filter (is_of 1) sections a)
    (λ s p q. three s (in_either (filter is_regular sections ++ filter (is_of 0x11) sections) (filter (is_of 0x12) sections) s p) (passed (is_of 1) s q))
  where
    passed : (t : OutSection → Bool) (s : OutSection) → In s (filter t sections) → t s ≡ true
    passed t s h = (from_filter t sections s h).1

    two : (s : OutSection) → In s (filter is_regular sections) ⊎ In s (filter (is_of 0x11) sections) → (kind : ℕ) → is_regular (record s { kind = kind }) ≡ false → (0x11 ≡ kind → ⊥) → is_of kind s ≡ true → ⊥
    two s (inl p) kind other differ q = regular_apart s kind other (passed is_regular s p) q
    two s (inr p) kind other differ q = apart_kinds s 0x11 kind differ (passed (is_of 0x11) s p) q

    three : (s : OutSection) → In s (filter is_regular sections ++ filter (is_of 0x11) sections) ⊎ In s (filter (is_of 0x12) sections) → is_of 1 s ≡ true → ⊥
    three s (inl p) q = two s (in_either (filter is_regular sections) (filter (is_of 0x11) sections) s p) 1 refl (λ e. absurd (omega arith)) q
    three s (inr p) q = apart_kinds s 0x12 1 (λ e. absurd (omega arith)) (passed (is_of 0x12) s p) q

in_segment : (sections : List OutSection) (segment : List ℕ) (section : OutSection) → In section (ranked (filter (is_in segment) sections)) → In section sections × (section.segment ≡ segment)
in_segment sections segment section h =
    let passed = from_filter (is_in segment) sections section (ranked_members (filter (is_in segment) sections) section h) in
    (passed.0, (names_equal section.segment segment).0 passed.1)

segments_apart : (sections : List OutSection) → Apart (segments_of sections)
unfolding segments_of
segments_apart sections =
    let three : Apart (insert_all bytes_eq [] leading) = all_inserted bytes_eq names_equal [] leading tt in
    all_inserted bytes_eq names_equal leading (map (λ (s : OutSection). s.segment) sections) three

pub order_apart : (sections : List OutSection) → Apart sections → Apart (in_order sections)
unfolding in_order
order_apart sections a =
    apart_flat (λ segment. ranked (filter (is_in segment) sections)) (segments_of sections) (segments_apart sections)
    (λ segment h. ranked_apart (filter (is_in segment) sections) (apart_filter (is_in segment) sections a))
    (λ one other section p q h k. sym (in_segment sections one section h).1 ∙ (in_segment sections other section k).1)

pub order_members : (sections : List OutSection) (section : OutSection) → In section (in_order sections) → In section sections
unfolding in_order
order_members sections section h =
    let found : (segment : List ℕ) × In segment (segments_of sections) × In section (ranked (filter (is_in segment) sections)) = from_flat (λ segment. ranked (filter (is_in segment) sections)) (segments_of sections) section h in
    (in_segment sections found.0 section found.2).0

led_keys : (align : ℕ) (sections : List OutSection) → keys_of (led_by align sections) ≡ keys_of sections
led_keys align [] = refl
led_keys align (section ∷ sections) = by (is_thread_local section) refl (led_keys align sections)
  where
    by : (b : Bool) → is_thread_local section ≡ b → keys_of (led_by align sections) ≡ keys_of sections → keys_of (led_by align (section ∷ sections)) ≡ keys_of (section ∷ sections)
    by true e rest = rw e refl
    by false e rest = rw e (ap (λ (keys : List AtomKey). section.atoms ++ keys) rest)

-- ---- all keys

pub pairs : (keys : List AtomKey) → Apart keys → AllPairs (λ (a : AtomKey) (b : AtomKey). a ≢ b) keys
pairs [] a = λ i j d low high. absurd (omega arith)
pairs (key ∷ keys) a =
    AllPairs-cons (λ (a : AtomKey) (b : AtomKey). a ≢ b) key keys
    (All-from_recursion (λ (b : AtomKey). key ≢ b) keys (all_from_in (λ (b : AtomKey). key ≢ b) keys (λ b h e. a.0 (subst (λ (q : AtomKey). In q keys) (sym e) h))))
    (pairs keys a.1)

pub listed_once : (files : List LoadedFile) (kept : List Atom) → IsStrictlySortedBy (on (λ (atom : Atom). atom.key) compare_keys) kept → AllPairs (λ (a : AtomKey) (b : AtomKey). a ≢ b) (keys_of (out_sections files kept))
unfolding out_sections led
listed_once files kept rising =
    let all : List Row = rows files kept in
    let apart : Apart (map key_of all) = rows_apart files kept (keys_apart (map (λ (atom : Atom). atom.key) kept) (rising_map (λ (atom : Atom). atom.key) compare_keys kept rising)) in
    let ordered : List OutSection = in_order (sections_of all) in
    let once : Apart (keys_of ordered) =
    apart_flat (λ (section : OutSection). section.atoms) ordered (order_apart (sections_of all) (sections_apart all))
    (λ section h. atoms_apart all apart section (order_members (sections_of all) section h))
    (λ a b key p q h k. one_section all apart a b key (order_members (sections_of all) a p) (order_members (sections_of all) b q) h k) in
    subst (AllPairs (λ (a : AtomKey) (b : AtomKey). a ≢ b)) (sym (led_keys (greatest_align (thread_local ordered)) ordered)) (pairs (keys_of ordered) once)
