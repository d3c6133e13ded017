-- The first value that is out of range.
use Rattle.std.proofs.Common.{◌≡◌, ◌≢◌, ℕ, ◌+◌, ◌≤◌, ◌⊎◌, ◌++◌, Bool, true, false, List, [], Contains, Option, Some, None, is_some, Result, Ok, Err, ℤ, pos, ◌-ℤ◌, All, refl, sym, ap, ◌∙◌, subst, inl, inr, arith, if◌then◌else◌}
use Rattle.std.specs.List.{enumerate_from, filter_map, flat_map}
use Rattle.std.specs.Option.{option_cmp, option_map_or}
use Rattle.std.specs.Ordering.{is_gt, nat_cmp, on, ordering_reverse, ordering_then, then_cmp}
use Rattle.std.specs.declared.cmp.Ordering.{Ordering}
use Rattle.std.specs.declared.cmp.Ordering.TheVariants.{Less, Equal, Greater}
use Rattle.std.specs.Cmp.{IsTotalOrder, nat_cmp_is}
use Rattle.std.specs.Cmp.Lexicographic.{options_total}
use Rattle.std.proofs.lemmas.Bool.{cases_lt, false≢true}
use Rattle.std.proofs.lemmas.Cmp.{nat_cmp_total, on_total, then_total}
use Rattle.std.proofs.lemmas.List.Elements.{All-contains}
use Rattle.std.proofs.lemmas.List.Sorted.{Contains-permutation, IsPermutation-sym}
use Rattle.list_lemmas.proofs.Members.{Contains_from_in, In, from_filter_map, from_flat, in_either, in_from_Contains}
use Rattle.atom_index.proofs.Keys.{same_key}
use Rattle.fixup_chain.specs.Chained.{AreChains, IsRefused}
use Rattle.fixup_chain.specs.Faults.{base_of, compare_turns, fault_of, is_far, is_misplaced, range_of, target_of}
use Rattle.fixup_chain.specs.declared.chains.ChainFault.TheVariants as chain
use Rattle.fixup_chain.specs.declared.chains.Chains.{Chains}
use Rattle.fixup_chain.specs.declared.chains.Fixup.{Fixup}
use Rattle.mo_types.proofs.KeyOrder.{compare_keys_total}
use Rattle.mo_types.specs.Keys.{compare_keys}
use Rattle.mo_types.specs.Loaded.{IsWholeFile}
use Rattle.mo_types.specs.declared.cause.RangeKind.{RangeKind}
use Rattle.mo_types.specs.declared.cause.RangeKind.TheVariants.{FixupPlace, RebaseTarget}
use Rattle.mo_types.specs.declared.goal.Goal.{Goal}
use Rattle.mo_types.specs.declared.key.AtomKey.{AtomKey}
use Rattle.mo_types.specs.declared.loaded.LoadedFile.{LoadedFile}
use Rattle.mo_types.specs.declared.reference.Ref.{Ref}
use Rattle.patch.specs.Field.{field_of}
use Rattle.mo_bytes.specs.Number.{number}
use Rattle.patch.specs.Patched.{Fits, size_of}
use Rattle.patch.specs.Range.{IsLeastFault, IsPlaced, bytes_of, part_of}
use Rattle.slot_place.specs.Places.{starts_of}
use Rattle.patch.specs.declared.met.Met.{Met}
use Rattle.patch.specs.declared.met.RangeFault.{RangeFault}
use Rattle.patch.specs.declared.range.PlacedWork.{PlacedWork}
use Rattle.ref_meet.specs.Mets.{met_of, mets_of}
use Rattle.ref_meet.specs.Pointers.{AreFixups, all_fixups, row_fixups, slot_fixup, slot_fixups}
use Rattle.ref_meet.specs.Scene.{refs_of}
use Rattle.sect_place.specs.declared.layout.Layout.{Layout}
use Rattle.image_make.specs.Atoms.{AreRising}
use Rattle.image_make.specs.Faults.{IsFieldFault, IsPointerFault, Spot, compare_spots}
use Rattle.image_make.specs.Made.{IsLaid, IsUnfit, ImageInputs, kept_of, rows_of, scene_of, told_mets}
use Rattle.image_make.specs.inner.Unfit.{compare_faults, first_of}
use Rattle.image_make.specs.declared.unfit.AtomFault.{AtomFault}
use Rattle.image_make.proofs.FaultPlaces.{field_place}
use Rattle.image_make.proofs.AloneLemmas.{bytes_bare, mets_bare, same_row}
use Rattle.image_make.proofs.FieldLemmas.{as_met, ref_of_row}
use Rattle.image_make.proofs.RefLemmas.{same_shift}
use Rattle.image_make.proofs.SpreadLemmas.{from_row}

-- ---- the order of values

shift_cmp : (p q a b : ℕ) → p + b ≡ q + a → nat_cmp p q ≡ nat_cmp a b
shift_cmp p q a b e = elim (cases_lt p q) [
  | inl low ↦ sym (nat_cmp_is p q Less low) ∙ nat_cmp_is a b Less (omega (arith, e, low))
  | inr high ↦ elim (cases_lt q p) [
    | inl above ↦ sym (nat_cmp_is p q Greater above) ∙ nat_cmp_is a b Greater (omega (arith, e, above))
    | inr below ↦ sym (nat_cmp_is p q Equal (omega (arith, high, below))) ∙ nat_cmp_is a b Equal (omega (arith, e, high, below))
  ]
]

not_after : (a b : ℕ) → a ≤ b → nat_cmp a b ≢ Greater
not_after a b low = elim (cases_lt a b) [
  | inl less ↦ λ e. let f = nat_cmp_is a b Less less ∙ e in cc
  | inr more ↦ λ e. let f = nat_cmp_is a b Equal (omega (arith, low, more)) ∙ e in cc
]

up_to : {K : Type 0} {R : K → K → Ordering} → IsTotalOrder R → (x y z : K) → R x y ≢ Greater → R y z ≢ Greater → R x z ≢ Greater
up_to {R = R} order x y z first second = by (R x y) (R y z) refl refl
  where
    back : R y z ≡ Equal → R x y ≡ Less → R x z ≡ Less
    back e f =
        let turned : R z y ≡ Equal = order.antisymm z y ∙ ap ordering_reverse e in
        order.antisymm x z ∙ ap ordering_reverse (order.congr z y x turned) ∙ sym (order.antisymm x y) ∙ f

    by : (a b : Ordering) → R x y ≡ a → R y z ≡ b → R x z ≢ Greater
    by Greater b e f = absurd (first e)
    by Equal b e f = λ g. second (sym (order.congr x y z e) ∙ g)
    by Less Greater e f = absurd (second f)
    by Less Less e f = λ g. let h = sym (order.trans x y z e f) ∙ g in cc
    by Less Equal e f = λ g. let h = sym (back f e) ∙ g in cc

spots_total : IsTotalOrder compare_spots
unfolding compare_spots
spots_total = then_total (on_total (λ (s : Spot). s.atom) (options_total compare_keys_total)) (on_total (λ (s : Spot). s.address) nat_cmp_total)

abbrev pub NotAfter : Spot → Spot → Type 0
NotAfter a b = compare_spots a b ≢ Greater

-- of a slot
abbrev pub slot_spot : ℕ → Spot
slot_spot address = record { atom = None; address = address }

-- of an atom
abbrev pub atom_spot : AtomKey → ℕ → Spot
atom_spot key address = record { atom = Some key; address = address }

slot_before : (a b : ℕ) (key : AtomKey) → NotAfter (slot_spot a) (atom_spot key b)
unfolding compare_spots
slot_before a b key = λ e. cc

-- ---- values of atoms

-- a value stands at a place of the object, and at an address
pub record IsValue (m : ImageInputs) (layout : Layout) (key : AtomKey) (address place : ℕ) : Type 0 where
  pub row : PlacedWork
  pub among : In row (rows_of m layout)
  pub named : row.atom.key ≡ key
  pub r : Ref
  pub of : In r (refs_of m.files row)
  pub address_is : row.address + r.place ≡ address
  pub place_is : r.file_place ≡ place

-- two of one atom are as far apart in both
alike : (m : ImageInputs) (layout : Layout) (key : AtomKey) (a b p q : ℕ) → All IsWholeFile m.files → AreRising (kept_of m) → IsLaid m layout → IsValue m layout key a p → IsValue m layout key b q → p + b ≡ q + a
alike m layout key a b p q whole rising laid one two =
    let same = same_row m layout one.row two.row rising laid one.among two.among (one.named ∙ sym two.named) in
    let file : one.row.file ≡ two.row.file = ap (λ (r : PlacedWork). r.file) same in
    let address : one.row.address ≡ two.row.address = ap (λ (r : PlacedWork). r.address) same in
    let first = ref_of_row m layout one.row one.r whole one.among one.of in
    let second = ref_of_row m layout two.row two.r whole two.among two.of in
    let files : first.file ≡ second.file = some_is first.file second.file (sym first.there ∙ ap (Rattle.std.specs.Prelude.slice_get m.files) file ∙ second.there) in
    let among : In two.r first.file.refs = subst (λ (f : LoadedFile). In two.r f.refs) (sym files) second.among in
    let keys : one.row.atom.key ≡ two.row.atom.key = one.named ∙ sym two.named in
    let shift = same_shift first.file one.r two.r first.whole first.among among (first.section ∙ ap (λ (k : AtomKey). k.section) keys ∙ sym second.section) (first.offset ∙ ap (λ (k : AtomKey). k.offset) keys ∙ sym second.offset) in
    let here = one.address_is in
    let there = two.address_is in
    let at = one.place_is in
    let also = two.place_is in
    omega (arith, shift, here, there, at, also, address)
  where
    some_is : {X : Type 0} (x y : X) → Some x ≡ Some y → x ≡ y
    some_is x y e = cc

-- they are in one order by place and by address
places_as_spots : (m : ImageInputs) (layout : Layout) (j k : AtomKey) (a b p q : ℕ) → All IsWholeFile m.files → AreRising (kept_of m) → IsLaid m layout → IsValue m layout j a p → IsValue m layout k b q → ordering_then (compare_keys j k) (nat_cmp p q) ≡ compare_spots (atom_spot j a) (atom_spot k b)
unfolding compare_spots
places_as_spots m layout j k a b p q whole rising laid one two = by (compare_keys j k) refl
  where
    by : (o : Ordering) → compare_keys j k ≡ o → ordering_then o (nat_cmp p q) ≡ ordering_then o (nat_cmp a b)
    by Less e = refl
    by Greater e = refl
    by Equal e = shift_cmp p q a b (alike m layout j a b p q whole rising laid one (subst (λ (x : AtomKey). IsValue m layout x b q) (sym (same_key j k e)) two))

-- ---- pointers

-- a pointer is of a slot, or of an atom
abbrev IsPlacedPointer : ImageInputs → Layout → Fixup → Type 0
IsPlacedPointer m layout fixup = ((fixup.atom ≡ None) × (fixup.place ≡ 0)) ⊎ ((key : AtomKey) × (fixup.atom ≡ Some key) × IsValue m layout key fixup.address fixup.place)

slot_is : (start : Option ℕ) (goals : List Goal) (fixup : Fixup) → In fixup (slot_fixups start goals) → (fixup.atom ≡ None) × (fixup.place ≡ 0)
unfolding slot_fixups
slot_is None goals fixup h = absurd h
slot_is (Some at) goals fixup h =
    let from = Rattle.list_lemmas.proofs.Members.from_map (slot_fixup at) (enumerate_from 0 goals) fixup h in
    (ap (λ (f : Fixup). f.atom) (sym from.2), ap (λ (f : Fixup). f.place) (sym from.2))

pub placed_pointer : (m : ImageInputs) (layout : Layout) (fixups : List Fixup) (fixup : Fixup) → AreFixups (scene_of m layout) (rows_of m layout) fixups → Contains fixups fixup → IsPlacedPointer m layout fixup
unfolding all_fixups
placed_pointer m layout fixups fixup pointers among =
    let there = in_from_Contains (all_fixups (scene_of m layout) (rows_of m layout)) fixup (Contains-permutation fixups (all_fixups (scene_of m layout) (rows_of m layout)) fixup (IsPermutation-sym (all_fixups (scene_of m layout) (rows_of m layout)) fixups pointers.all) among) in
    by there
  where
    atoms : List Fixup
    atoms = flat_map (row_fixups (scene_of m layout)) (rows_of m layout)

    of_atom : In fixup atoms → IsPlacedPointer m layout fixup
    of_atom h =
        let row = from_flat (row_fixups (scene_of m layout)) (rows_of m layout) fixup h in
        let r = from_row (scene_of m layout) row.0 fixup row.2 in
        inr (
          row.0.atom.key,
          ap (λ (f : Fixup). f.atom) (sym r.2.is),
          record {
            row = row.0;
            among = row.1;
            named = refl;
            r = r.0;
            of = r.1;
            address_is = ap (λ (f : Fixup). f.address) r.2.is;
            place_is = ap (λ (f : Fixup). f.place) r.2.is;
          },
        )

    by : In fixup (all_fixups (scene_of m layout) (rows_of m layout)) → IsPlacedPointer m layout fixup
    by h = elim (in_either (slot_fixups (starts_of layout.sections).got m.slots.got) (slot_fixups (starts_of layout.sections).tlv m.slots.tlv ++ atoms) fixup h) [
      | inl got ↦ inl (slot_is (starts_of layout.sections).got m.slots.got fixup got)
      | inr rest ↦ elim (in_either (slot_fixups (starts_of layout.sections).tlv m.slots.tlv) atoms fixup rest) [
        | inl tlv ↦ inl (slot_is (starts_of layout.sections).tlv m.slots.tlv fixup tlv)
        | inr atom ↦ of_atom atom
      ]
    ]

abbrev pub spot_of : Fixup → Spot
spot_of fixup = record { atom = fixup.atom; address = fixup.address }

turns : (a b : Fixup) (x y : Option AtomKey) (p q : ℕ) → a.atom ≡ x → b.atom ≡ y → a.place ≡ p → b.place ≡ q → compare_turns a b ≡ ordering_then (option_cmp compare_keys x y) (ordering_then (nat_cmp p q) (nat_cmp a.address b.address))
unfolding compare_turns
turns a b x y p q first second third fourth = rw (first, second, third, fourth) refl

spots : (a b : Fixup) (x y : Option AtomKey) → a.atom ≡ x → b.atom ≡ y → compare_spots (spot_of a) (spot_of b) ≡ ordering_then (option_cmp compare_keys x y) (nat_cmp a.address b.address)
unfolding compare_spots
spots a b x y first second = rw (first, second) refl

then_greater : (o p q : Ordering) → ordering_then o q ≡ Greater → p ≡ q → ordering_then o (ordering_then p q) ≡ Greater
then_greater Less p q e same = e
then_greater Greater p q e same = e
then_greater Equal Less q e same = absurd (let f = same ∙ e in cc)
then_greater Equal Equal q e same = absurd (let f = same ∙ e in cc)
then_greater Equal Greater q e same = refl

pub turns_as_spots : (m : ImageInputs) (layout : Layout) (fixups : List Fixup) (a b : Fixup) → All IsWholeFile m.files → AreRising (kept_of m) → IsLaid m layout → AreFixups (scene_of m layout) (rows_of m layout) fixups → Contains fixups a → Contains fixups b → compare_turns a b ≢ Greater → NotAfter (spot_of a) (spot_of b)
turns_as_spots m layout fixups a b whole rising laid pointers h k first = by (placed_pointer m layout fixups a pointers h) (placed_pointer m layout fixups b pointers k)
  where
    by : IsPlacedPointer m layout a → IsPlacedPointer m layout b → NotAfter (spot_of a) (spot_of b)
    by (inl (none, zero_a)) (inl (also, zero_b)) after = first (turns a b None None 0 0 none also zero_a zero_b ∙ sym (spots a b None None none also) ∙ after)
    by (inl (none, zero_a)) (inr (key, some, value)) after = let e = sym (spots a b None (Some key) none some) ∙ after in cc
    by (inr (key, some, value)) (inl (none, zero_b)) after = first (turns a b (Some key) None a.place b.place some none refl refl)
    by (inr (j, some, one)) (inr (k2, also, two)) after =
        let same = places_as_spots m layout j k2 a.address b.address a.place b.place whole rising laid one two in
        first (turns a b (Some j) (Some k2) a.place b.place some also refl refl ∙ joined (compare_keys j k2) refl (sym (spots a b (Some j) (Some k2) some also) ∙ after) one two)
      where
        joined : (o : Ordering) → compare_keys j k2 ≡ o → ordering_then (compare_keys j k2) (nat_cmp a.address b.address) ≡ Greater → IsValue m layout j a.address a.place → IsValue m layout k2 b.address b.place → ordering_then (compare_keys j k2) (ordering_then (nat_cmp a.place b.place) (nat_cmp a.address b.address)) ≡ Greater
        joined Less e f x y = absurd (let g = rw e at f in cc)
        joined Greater e f x y = rw e refl
        joined Equal e f x y =
            let shift = shift_cmp a.place b.place a.address b.address (alike m layout j a.address b.address a.place b.place whole rising laid x (subst (λ (z : AtomKey). IsValue m layout z b.address b.place) (sym (same_key j k2 e)) y)) in
            then_greater (compare_keys j k2) (nat_cmp a.place b.place) (nat_cmp a.address b.address) f shift

-- a pointer's fault tells its atom and place
fault_at : (layout : Layout) (fixup : Fixup) (atom : Option AtomKey) (place : ℕ) (kind : RangeKind) (value : ℤ) → fault_of layout fixup ≡ Some (chain.Range atom place kind value) → (fixup.atom ≡ atom) × (fixup.place ≡ place)
unfolding fault_of
fault_at layout fixup atom place kind value e = by (is_far layout fixup) (is_misplaced layout.segments fixup.address) RebaseTarget FixupPlace (target_of layout fixup) (pos fixup.address -ℤ pos (base_of layout.segments)) e
  where
    same : (k : RangeKind) (v : ℤ) → Some (range_of fixup k v) ≡ Some (chain.Range atom place kind value) → (fixup.atom ≡ atom) × (fixup.place ≡ place)
    same k v f = (cc, cc)

    by : (far misplaced : Bool) (j k : RangeKind) (u v : ℤ) → (if far then Some (range_of fixup j u) else if misplaced then Some (range_of fixup k v) else None) ≡ Some (chain.Range atom place kind value) → (fixup.atom ≡ atom) × (fixup.place ≡ place)
    by true misplaced j k u v f = same j u f
    by false true j k u v f = same k v f
    by false false j k u v f = absurd cc

-- ---- fields

field_value : (m : ImageInputs) (layout : Layout) (item : PlacedWork) (met : Met) → In item (rows_of m layout) → In met (told_mets m layout item) → IsValue m layout item.atom.key (item.address + met.place) met.file_place
unfolding mets_of
field_value m layout item met h k =
    let from = from_filter_map (met_of (scene_of m layout) [] item) (refs_of m.files item) met k in
    let one = as_met (scene_of m layout) [] item from.0 met from.2 in
    record {
      row = item;
      among = h;
      named = refl;
      r = from.0;
      of = from.1;
      address_is = ap (λ (x : Met). item.address + x.place) one.is;
      place_is = ap (λ (x : Met). x.file_place) one.is;
    }

ok_not_err : {A : Type 0} (x : A) (fault : RangeFault) (r : Result A RangeFault) → r ≡ Ok x → r ≡ Err fault → ⊥
ok_not_err x fault r e f = cc

-- a fault of a field, at its place
pub record IsFirstField (m : ImageInputs) (layout : Layout) (key : AtomKey) (fault : RangeFault) : Type 0 where
  pub address : ℕ
  pub value : IsValue m layout key address fault.file_place
  pub fails : IsFieldFault m.files (told_mets m layout) (rows_of m layout) (atom_spot key address) fault
  pub first : (other : Spot) (why : RangeFault) → IsFieldFault m.files (told_mets m layout) (rows_of m layout) other why → NotAfter (atom_spot key address) other

same_key_spot : (a b : ℕ) (j k : AtomKey) → compare_keys j k ≡ Equal → a ≤ b → NotAfter (atom_spot j a) (atom_spot k b)
unfolding compare_spots
same_key_spot a b j k e low = λ f. not_after a b low (let g = rw e at f in g)

less_key_spot : (a b : ℕ) (j k : AtomKey) → compare_keys j k ≡ Less → NotAfter (atom_spot j a) (atom_spot k b)
unfolding compare_spots
less_key_spot a b j k e = λ f. let g = rw e at f in cc

pub field_first : (m : ImageInputs) (layout : Layout) (key : AtomKey) (fault : RangeFault) → AreRising (kept_of m) → IsLaid m layout → IsLeastFault m.files (told_mets m layout) (rows_of m layout) key fault → IsFirstField m layout key fault
field_first m layout key fault rising laid (item, least) = by least.fails
  where
    there : In item (rows_of m layout)
    there = in_from_Contains (rows_of m layout) item least.among

    by : Rattle.patch.specs.Patched.IsFirstFault item.address (bytes_of m.files item) (told_mets m layout item) fault → IsFirstField m layout key fault
    by (met, is) =
        let among = in_from_Contains (told_mets m layout item) met is.among in
        let value = field_value m layout item met there among in
        let place : fault.file_place ≡ met.file_place = field_place item.address (bytes_of m.files item) met fault is.fails in
        record {
          address = item.address + met.place;
          value = subst (λ (k : AtomKey). IsValue m layout k (item.address + met.place) fault.file_place) (sym least.of_item) (subst (λ (p : ℕ). IsValue m layout item.atom.key (item.address + met.place) p) (sym place) value);
          fails = record { item = item; of_items = least.among; met = met; among = is.among; stands = ap (λ (k : AtomKey). atom_spot k (item.address + met.place)) least.of_item; fails = is.fails };
          first = λ other why failing. subst (NotAfter (atom_spot key (item.address + met.place))) (sym failing.stands) (later failing.item failing.met why failing.of_items failing.among failing.fails (All-contains (λ (one : PlacedWork). Rattle.patch.specs.Range.AllFit m.files (told_mets m layout) one ⊎ Rattle.patch.specs.Range.IsUpTo key one.atom.key) (rows_of m layout) failing.item least.least failing.of_items));
        }
      where
        -- another field that fails
        later : (one : PlacedWork) (other : Met) (why : RangeFault) → Contains (rows_of m layout) one → Contains (told_mets m layout one) other → field_of one.address (bytes_of m.files one) other ≡ Err why
            → Rattle.patch.specs.Range.AllFit m.files (told_mets m layout) one ⊎ Rattle.patch.specs.Range.IsUpTo key one.atom.key → NotAfter (atom_spot key (item.address + met.place)) (atom_spot one.atom.key (one.address + other.place))
        later one other why h k fails (inl fit) = absurd (let ok = All-contains (Fits one.address (bytes_of m.files one)) (told_mets m layout one) other fit k in ok_not_err ok.0 why (field_of one.address (bytes_of m.files one) other) ok.1 fails)
        later one other why h k fails (inr upto) = order (compare_keys key one.atom.key) refl upto
          where
            order : (o : Ordering) → compare_keys key one.atom.key ≡ o → is_gt o ≡ false → NotAfter (atom_spot key (item.address + met.place)) (atom_spot one.atom.key (one.address + other.place))
            order Less e f = less_key_spot (item.address + met.place) (one.address + other.place) key one.atom.key e
            order Greater e f = absurd (false≢true (sym f))
            order Equal e f =
                let keys : key ≡ one.atom.key = same_key key one.atom.key e in
                let same = same_row m layout one item rising laid (in_from_Contains (rows_of m layout) one h) there (sym keys ∙ least.of_item) in
                let address : one.address ≡ item.address = ap (λ (r : PlacedWork). r.address) same in
                let bytes : bytes_of m.files one ≡ bytes_of m.files item = bytes_bare m.files one ∙ ap (bytes_of m.files) same ∙ sym (bytes_bare m.files item) in
                let mets : told_mets m layout one ≡ told_mets m layout item = mets_bare (scene_of m layout) [] one ∙ ap (mets_of (scene_of m layout) []) same ∙ sym (mets_bare (scene_of m layout) [] item) in
                let here : Contains (told_mets m layout item) other = subst (λ (ms : List Met). Contains ms other) mets k in
                let failing : field_of item.address (bytes_of m.files item) other ≡ Err why = ap (λ (n : ℕ). field_of n (bytes_of m.files item) other) (sym address) ∙ ap (λ (bs : List ℕ). field_of one.address bs other) (sym bytes) ∙ fails in
                elim (All-contains (λ (x : Met). Fits item.address (bytes_of m.files item) x ⊎ (met.place ≤ x.place)) (told_mets m layout item) other is.least here) [
                  | inl ok ↦ absurd (ok_not_err ok.0 why (field_of item.address (bytes_of m.files item) other) ok.1 failing)
                  | inr low ↦ same_key_spot (item.address + met.place) (one.address + other.place) key one.atom.key e (omega (arith, low, address))
                ]

-- where all are placed no field fails
pub none_fails : (m : ImageInputs) (layout : Layout) (image : List ℕ) (spot : Spot) (fault : RangeFault) → All (IsPlaced m.files (told_mets m layout) 0 image) (rows_of m layout) → IsFieldFault m.files (told_mets m layout) (rows_of m layout) spot fault → ⊥
none_fails m layout image spot fault placed failing =
    let one = All-contains (IsPlaced m.files (told_mets m layout) 0 image) (rows_of m layout) failing.item placed failing.of_items in
    let new = part_of m.files 0 failing.item image in
    ok_not_err (number (size_of failing.met) new failing.met.place) fault (field_of failing.item.address (bytes_of m.files failing.item) failing.met)
    (All-contains (λ (x : Met). field_of failing.item.address (bytes_of m.files failing.item) x ≡ Ok (number (size_of x) new x.place)) (told_mets m layout failing.item) failing.met one.fields failing.among) failing.fails

-- ---- the first of all

-- where pointers have chains, the first field that fails is the first value
pub field_unfit : (m : ImageInputs) (layout : Layout) (fixups : List Fixup) (chains : Chains) (key : AtomKey) (fault : RangeFault) → AreRising (kept_of m) → IsLaid m layout → AreFixups (scene_of m layout) (rows_of m layout) fixups → AreChains layout fixups chains → IsLeastFault m.files (told_mets m layout) (rows_of m layout) key fault → IsUnfit m layout (Some key) fault
field_unfit m layout fixups chains key fault rising laid pointers chained least =
    let one = field_first m layout key fault rising laid least in
    record {
      laid = laid;
      fixups = fixups;
      pointers = pointers;
      first = record {
        spot = atom_spot key one.address;
        of_atom = refl;
        fails = inr one.fails;
        first = λ other why failing. elim failing [
          | inl pointer ↦ absurd (let e = sym (chained.sound pointer.fixup pointer.among) ∙ pointer.fails in cc)
          | inr field ↦ one.first other why field
        ];
      };
    }

-- the first pointer that has a fault
pub record IsFirstPointer (m : ImageInputs) (layout : Layout) (fixups : List Fixup) (atom : Option AtomKey) (fault : RangeFault) : Type 0 where
  pub fixup : Fixup
  pub among : Contains fixups fixup
  pub of_atom : fixup.atom ≡ atom
  pub at_place : fixup.place ≡ fault.file_place
  pub fails : IsPointerFault layout fixups (spot_of fixup) fault
  pub first : (other : Spot) (why : RangeFault) → IsPointerFault layout fixups other why → NotAfter (spot_of fixup) other

some_there : {X : Type 0} (o : Option X) (x : X) → o ≡ Some x → is_some o ≡ true
some_there o x e = ap is_some e

pub pointer_first : (m : ImageInputs) (layout : Layout) (fixups : List Fixup) (atom : Option AtomKey) (fault : RangeFault) → All IsWholeFile m.files → AreRising (kept_of m) → IsLaid m layout → AreFixups (scene_of m layout) (rows_of m layout) fixups → IsRefused layout fixups (chain.Range atom fault.file_place fault.kind fault.value) → IsFirstPointer m layout fixups atom fault
pointer_first m layout fixups atom fault whole rising laid pointers refused =
    let fixup = refused.first.fixup in
    let at = fault_at layout fixup atom fault.file_place fault.kind fault.value refused.first.is in
    record {
      fixup = fixup;
      among = refused.first.there;
      of_atom = at.0;
      at_place = at.1;
      fails = record { fixup = fixup; among = refused.first.there; stands = refl; fails = refused.first.is ∙ ap (λ (o : Option AtomKey). Some (chain.Range o fault.file_place fault.kind fault.value)) (sym at.0) };
      first = λ other why failing.
          subst (NotAfter (spot_of fixup)) (sym failing.stands)
          (turns_as_spots m layout fixups fixup failing.fixup whole rising laid pointers refused.first.there failing.among (refused.first.first failing.fixup failing.among (some_there (fault_of layout failing.fixup) _ failing.fails)));
    }

-- that of a slot is the first value
pub slot_unfit : (m : ImageInputs) (layout : Layout) (fixups : List Fixup) (fault : RangeFault) → All IsWholeFile m.files → AreRising (kept_of m) → IsLaid m layout → AreFixups (scene_of m layout) (rows_of m layout) fixups → IsRefused layout fixups (chain.Range None fault.file_place fault.kind fault.value) → IsUnfit m layout None fault
slot_unfit m layout fixups fault whole rising laid pointers refused =
    let one = pointer_first m layout fixups None fault whole rising laid pointers refused in
    record {
      laid = laid;
      fixups = fixups;
      pointers = pointers;
      first = record {
        spot = spot_of one.fixup;
        of_atom = one.of_atom;
        fails = inl one.fails;
        first = λ other why failing. elim failing [
          | inl pointer ↦ one.first other why pointer
          | inr field ↦ subst (NotAfter (spot_of one.fixup)) (sym field.stands) (subst (λ (o : Option AtomKey). NotAfter (record { atom = o; address = one.fixup.address }) (atom_spot field.item.atom.key (field.item.address + field.met.place))) (sym one.of_atom) (slot_before one.fixup.address (field.item.address + field.met.place) field.item.atom.key))
        ];
      };
    }

-- that of an atom is the first one where no field fails
pub pointer_unfit : (m : ImageInputs) (layout : Layout) (fixups : List Fixup) (atom : Option AtomKey) (fault : RangeFault) (image : List ℕ) → All IsWholeFile m.files → AreRising (kept_of m) → IsLaid m layout → AreFixups (scene_of m layout) (rows_of m layout) fixups → IsRefused layout fixups (chain.Range atom fault.file_place fault.kind fault.value) → All (IsPlaced m.files (told_mets m layout) 0 image) (rows_of m layout) → IsUnfit m layout atom fault
pointer_unfit m layout fixups atom fault image whole rising laid pointers refused placed =
    let one = pointer_first m layout fixups atom fault whole rising laid pointers refused in
    record {
      laid = laid;
      fixups = fixups;
      pointers = pointers;
      first = record {
        spot = spot_of one.fixup;
        of_atom = one.of_atom;
        fails = inl one.fails;
        first = λ other why failing. elim failing [
          | inl pointer ↦ one.first other why pointer
          | inr field ↦ absurd (none_fails m layout image other why placed field)
        ];
      };
    }

-- a pointer's place is a value of its atom
pointer_value : (m : ImageInputs) (layout : Layout) (fixups : List Fixup) (key : AtomKey) (fault : RangeFault) (one : IsFirstPointer m layout fixups (Some key) fault) → AreFixups (scene_of m layout) (rows_of m layout) fixups → IsValue m layout key one.fixup.address fault.file_place
pointer_value m layout fixups key fault one pointers = by (placed_pointer m layout fixups one.fixup pointers one.among)
  where
    by : IsPlacedPointer m layout one.fixup → IsValue m layout key one.fixup.address fault.file_place
    by (inl (none, zero)) = absurd (let e = sym none ∙ one.of_atom in cc)
    by (inr (k, some, value)) =
        let e : k ≡ key = cc (sym some ∙ one.of_atom) in
        subst (λ (p : ℕ). IsValue m layout key one.fixup.address p) one.at_place (subst (λ (x : AtomKey). IsValue m layout x one.fixup.address one.fixup.place) e value)

-- the lesser one of both is the first
pub both_unfit : (m : ImageInputs) (layout : Layout) (fixups : List Fixup) (pointer field : AtomFault) → All IsWholeFile m.files → AreRising (kept_of m) → IsLaid m layout → AreFixups (scene_of m layout) (rows_of m layout) fixups → IsRefused layout fixups (chain.Range (Some pointer.key) pointer.fault.file_place pointer.fault.kind pointer.fault.value) → IsLeastFault m.files (told_mets m layout) (rows_of m layout) field.key field.fault → IsUnfit m layout (Some (first_of pointer field).key) (first_of pointer field).fault
both_unfit m layout fixups pointer field whole rising laid pointers refused least = by (is_gt (compare_faults pointer field)) refl
  where
    one : IsFirstPointer m layout fixups (Some pointer.key) pointer.fault
    one = pointer_first m layout fixups (Some pointer.key) pointer.fault whole rising laid pointers refused

    two : IsFirstField m layout field.key field.fault
    two = field_first m layout field.key field.fault rising laid least

    value : IsValue m layout pointer.key one.fixup.address pointer.fault.file_place
    value = pointer_value m layout fixups pointer.key pointer.fault one pointers

    same : compare_faults pointer field ≡ compare_spots (atom_spot pointer.key one.fixup.address) (atom_spot field.key two.address)
    same = places_as_spots m layout pointer.key field.key one.fixup.address two.address pointer.fault.file_place field.fault.file_place whole rising laid value two.value

    here : spot_of one.fixup ≡ atom_spot pointer.key one.fixup.address
    here = ap (λ (o : Option AtomKey). record { atom = o; address = one.fixup.address }) one.of_atom

    not_greater : (o : Ordering) → is_gt o ≡ false → o ≢ Greater
    not_greater o e f = false≢true (sym e ∙ ap is_gt f)

    turned : (o : Ordering) → is_gt o ≡ true → ordering_reverse o ≢ Greater
    turned Less e f = cc
    turned Equal e f = cc
    turned Greater e f = cc

    by : (b : Bool) → is_gt (compare_faults pointer field) ≡ b → IsUnfit m layout (Some (if b then field else pointer).key) (if b then field else pointer).fault
    by true gt =
        let before : NotAfter (atom_spot field.key two.address) (spot_of one.fixup) =
        (λ e. turned (compare_faults pointer field) gt (ap ordering_reverse same ∙ sym (spots_total.antisymm (atom_spot field.key two.address) (atom_spot pointer.key one.fixup.address)) ∙ ap (compare_spots (atom_spot field.key two.address)) (sym here) ∙ e)) in
        record {
          laid = laid;
          fixups = fixups;
          pointers = pointers;
          first = record {
            spot = atom_spot field.key two.address;
            of_atom = refl;
            fails = inr two.fails;
            first = λ other why failing. elim failing [
              | inl p ↦ up_to spots_total (atom_spot field.key two.address) (spot_of one.fixup) other before (one.first other why p)
              | inr f ↦ two.first other why f
            ];
          };
        }
    by false le =
        let before : NotAfter (spot_of one.fixup) (atom_spot field.key two.address) =
        (λ e. not_greater (compare_faults pointer field) le (same ∙ ap (λ (s : Spot). compare_spots s (atom_spot field.key two.address)) (sym here) ∙ e)) in
        record {
          laid = laid;
          fixups = fixups;
          pointers = pointers;
          first = record {
            spot = spot_of one.fixup;
            of_atom = one.of_atom;
            fails = inl one.fails;
            first = λ other why failing. elim failing [
              | inl p ↦ one.first other why p
              | inr f ↦ up_to spots_total (spot_of one.fixup) (atom_spot field.key two.address) other before (two.first other why f)
            ];
          };
        }
