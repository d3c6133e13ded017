-- At each place of an image stands one value, so that one fault at most is the first.
use Rattle.std.proofs.Common.{◌≡◌, ◌≢◌, ℕ, ◌+◌, ◌≤◌, ◌⊎◌, ◌++◌, ℤ, List, [], Contains, Option, Some, None, All, Err, refl, sym, ap, ◌∙◌, subst, inl, inr, arith}
use Rattle.std.specs.List.{AllPairs, enumerate_from, flat_map}
use Rattle.std.specs.Option.{option_cmp}
use Rattle.std.specs.Ordering.{nat_cmp}
use Rattle.std.specs.declared.cmp.Ordering.TheVariants.{Equal, Greater}
use Rattle.std.specs.Cmp.{IsTotalOrder}
use Rattle.std.specs.Cmp.Lexicographic.{options_total}
use Rattle.std.proofs.lemmas.Cmp.{nat_cmp_total, on_total, then_total}
use Rattle.std.proofs.lemmas.List.Sorted.{Contains-permutation, IsPermutation-sym}
use Rattle.list_lemmas.proofs.Members.{In, from_filter_map, from_flat, from_map, in_either, in_from_Contains}
use Rattle.list_lemmas.proofs.Ties.{same_number, tied_first, tied_second}
use Rattle.atom_index.proofs.Keys.{same_key}
use Rattle.fixup_chain.specs.Encoded.{AreApart}
use Rattle.fixup_chain.specs.Faults.{fault_of}
use Rattle.fixup_chain.specs.declared.chains.ChainFault.TheVariants as chain
use Rattle.fixup_chain.specs.declared.chains.Fixup.{Fixup}
use Rattle.image_make.specs.Atoms.{AreRising}
use Rattle.image_make.specs.Faults.{IsFault, IsFieldFault, IsFirstFault, IsPointerFault, Spot, compare_spots}
use Rattle.image_make.specs.Made.{IsLaid, ImageInputs, kept_of, rows_of, scene_of, told_mets}
use Rattle.image_make.proofs.AloneLemmas.{bare, bytes_bare, mets_bare, refs_bare, same_row}
use Rattle.image_make.proofs.FieldLemmas.{Beside, HasRefs, as_met, mets_apart, refs_beside}
use Rattle.image_make.proofs.PairLemmas.{of_pairs, pairs_all}
use Rattle.mo_types.proofs.KeyOrder.{compare_keys_total}
use Rattle.mo_types.specs.Keys.{compare_keys}
use Rattle.mo_types.specs.declared.goal.Goal.{Goal}
use Rattle.mo_types.specs.declared.key.AtomKey.{AtomKey}
use Rattle.mo_types.specs.declared.reference.Ref.{Ref}
use Rattle.mo_types.specs.declared.reference.RefKind.{RefKind}
use Rattle.mo_types.specs.declared.reference.RefKind.TheVariants.{Pointer, Diff32, Diff64, Branch, Page, PageOff, GotPage, GotPageOff, GotDelta, GotPointer, TlvPage, TlvPageOff}
use Rattle.patch.specs.Field.{field_by, field_of}
use Rattle.patch.specs.Patched as fields
use Rattle.patch.specs.Range.{bytes_of}
use Rattle.patch.specs.declared.met.Met.{Met}
use Rattle.patch.specs.declared.met.RangeFault.{RangeFault}
use Rattle.patch.specs.declared.range.PlacedWork.{PlacedWork}
use Rattle.patch.proofs.ChosenLemmas.{Pairs, from_mapped}
use Rattle.patch.proofs.WriteLemmas.{four_at_least}
use Rattle.ref_meet.specs.Mets.{met_of, mets_of}
use Rattle.ref_meet.specs.Pointers.{AreFixups, all_fixups, fixup_of, fixup_to, pointee, pointee_by, row_fixups, slot_fixup, slot_fixups}
use Rattle.ref_meet.specs.Scene.{Scene, goal_of, refs_of}
use Rattle.ref_meet.specs.declared.pointers.Pointee.{Pointee}
use Rattle.sect_place.specs.declared.layout.Layout.{Layout}
use Rattle.slot_place.specs.Places.{starts_of}
use Rattle.link_files.proofs.Lists.{neither_after, no_some, some_is}

-- ---- spots of which neither is after the other

spots_total : IsTotalOrder compare_spots
unfolding compare_spots
spots_total = then_total (on_total (λ (s : Spot). s.atom) (options_total compare_keys_total)) (on_total (λ (s : Spot). s.address) nat_cmp_total)

same_atom : (a b : Option AtomKey) → option_cmp compare_keys a b ≡ Equal → a ≡ b
same_atom None None e = refl
same_atom None (Some key) e = absurd cc
same_atom (Some key) None e = absurd cc
same_atom (Some j) (Some k) e = ap Some (same_key j k e)

abbrev spot_at : Option AtomKey → ℕ → Spot
spot_at atom address = record { atom = atom; address = address }

same_parts : (a b : Spot) → a.atom ≡ b.atom → a.address ≡ b.address → a ≡ b
same_parts a b e f = rw (e, f) refl

one_spot : (a b : Spot) → compare_spots a b ≢ Greater → compare_spots b a ≢ Greater → a ≡ b
unfolding compare_spots
one_spot a b first second =
    let tied : compare_spots a b ≡ Equal = neither_after spots_total a b first second in
    same_parts a b (same_atom a.atom b.atom (tied_first (option_cmp compare_keys a.atom b.atom) (nat_cmp a.address b.address) tied))
    (same_number a.address b.address (tied_second (option_cmp compare_keys a.atom b.atom) (nat_cmp a.address b.address) tied))

-- ---- two pointers

abbrev Before : Fixup → Fixup → Type 0
Before a b = a.address + 8 ≤ b.address

one_pointer : (fixups : List Fixup) (a b : Fixup) → AreApart fixups → Contains fixups a → Contains fixups b → a.address ≡ b.address → a ≡ b
one_pointer fixups a b apart h k same = elim (of_pairs Before fixups a b (pairs_all Before fixups apart) (in_from_Contains fixups a h) (in_from_Contains fixups b k)) [
  | inl e ↦ e
  | inr beside ↦ elim beside [
    | inl before ↦ absurd (omega (arith, before, same))
    | inr after ↦ absurd (omega (arith, after, same))
  ]
]

same_range : (a b : Option AtomKey) (f g : RangeFault) → Some (chain.Range a f.file_place f.kind f.value) ≡ Some (chain.Range b g.file_place g.kind g.value) → f ≡ g
same_range a b f g e =
    let place : f.file_place ≡ g.file_place = cc in
    let kind : f.kind ≡ g.kind = cc in
    let value : f.value ≡ g.value = cc in
    parts place kind value
  where
    parts : f.file_place ≡ g.file_place → f.kind ≡ g.kind → f.value ≡ g.value → f ≡ g
    parts p q r = rw (p, q, r) refl

two_pointers : (layout : Layout) (fixups : List Fixup) (spot : Spot) (f g : RangeFault) → AreApart fixups → IsPointerFault layout fixups spot f → IsPointerFault layout fixups spot g → f ≡ g
two_pointers layout fixups spot f g apart p q =
    let address : p.fixup.address ≡ q.fixup.address = ap (λ (s : Spot). s.address) (sym p.stands ∙ q.stands) in
    let one : p.fixup ≡ q.fixup = one_pointer fixups p.fixup q.fixup apart p.among q.among address in
    same_range p.fixup.atom q.fixup.atom f g (sym p.fails ∙ ap (fault_of layout) one ∙ q.fails)

-- ---- two fields

never_apart : (a b : Met) → a.place ≡ b.place → fields.AreApart a b → ⊥
never_apart a b same (inl before) = let some = four_at_least a.kind in omega (arith, before, some, same)
never_apart a b same (inr after) = let some = four_at_least b.kind in omega (arith, after, some, same)

one_met : (mets : List Met) (a b : Met) → AllPairs fields.AreApart mets → In a mets → In b mets → a.place ≡ b.place → a ≡ b
one_met mets a b apart h k same = elim (of_pairs fields.AreApart mets a b (pairs_all fields.AreApart mets apart) h k) [
  | inl e ↦ e
  | inr beside ↦ elim beside [
    | inl first ↦ absurd (never_apart a b same first)
    | inr second ↦ absurd (never_apart b a (sym same) second)
  ]
]

same_fault : (address : ℕ) (bytes : List ℕ) (a b : Met) (f g : RangeFault) → a ≡ b → field_of address bytes a ≡ Err f → field_of address bytes b ≡ Err g → f ≡ g
same_fault address bytes a b f g same first second =
    let there : field_of address bytes b ≡ Err f = ap (field_of address bytes) (sym same) ∙ first in
    cc

two_fields : (m : ImageInputs) (layout : Layout) (spot : Spot) (f g : RangeFault) → AreRising (kept_of m) → IsLaid m layout → All HasRefs m.files
    → IsFieldFault m.files (told_mets m layout) (rows_of m layout) spot f → IsFieldFault m.files (told_mets m layout) (rows_of m layout) spot g → f ≡ g
two_fields m layout spot f g rising laid refs p q =
    let stands = sym p.stands ∙ q.stands in
    let key : p.item.atom.key ≡ q.item.atom.key = some_is p.item.atom.key q.item.atom.key (ap (λ (s : Spot). s.atom) stands) in
    let row : bare p.item ≡ bare q.item = same_row m layout p.item q.item rising laid (in_from_Contains (rows_of m layout) p.item p.of_items) (in_from_Contains (rows_of m layout) q.item q.of_items) key in
    let address : p.item.address ≡ q.item.address = ap (λ (r : PlacedWork). r.address) row in
    let bytes : bytes_of m.files p.item ≡ bytes_of m.files q.item = bytes_bare m.files p.item ∙ ap (bytes_of m.files) row ∙ sym (bytes_bare m.files q.item) in
    let mets : told_mets m layout p.item ≡ told_mets m layout q.item = mets_bare (scene_of m layout) [] p.item ∙ ap (mets_of (scene_of m layout) []) row ∙ sym (mets_bare (scene_of m layout) [] q.item) in
    let sum : p.item.address + p.met.place ≡ q.item.address + q.met.place = ap (λ (s : Spot). s.address) stands in
    let there : In p.met (told_mets m layout q.item) = subst (λ (ms : List Met). In p.met ms) mets (in_from_Contains (told_mets m layout p.item) p.met p.among) in
    let one : p.met ≡ q.met =
    one_met (told_mets m layout q.item) p.met q.met (mets_apart (scene_of m layout) [] q.item refs) there (in_from_Contains (told_mets m layout q.item) q.met q.among) (omega (arith, sum, address)) in
    let fails : field_of q.item.address (bytes_of m.files q.item) p.met ≡ Err f =
    ap (λ (n : ℕ). field_of n (bytes_of m.files q.item) p.met) (sym address) ∙ ap (λ (bs : List ℕ). field_of p.item.address bs p.met) (sym bytes) ∙ p.fails in
    same_fault q.item.address (bytes_of m.files q.item) p.met q.met f g one fails q.fails

-- ---- a pointer, and a field

abbrev HoldsWord : RefKind → Type 0
HoldsWord kind = (kind ≡ Pointer) ⊎ (kind ≡ GotPointer)

is_pointer : (kind : RefKind) (scene : Scene) (item : PlacedWork) (goal : Goal) (addend : ℤ) (p : Pointee) → pointee_by kind scene item goal addend ≡ Some p → HoldsWord kind
is_pointer Pointer scene item goal addend p e = inl refl
is_pointer GotPointer scene item goal addend p e = inr refl
is_pointer Diff32 scene item goal addend p e = absurd cc
is_pointer Diff64 scene item goal addend p e = absurd cc
is_pointer Branch scene item goal addend p e = absurd cc
is_pointer Page scene item goal addend p e = absurd cc
is_pointer PageOff scene item goal addend p e = absurd cc
is_pointer GotPage scene item goal addend p e = absurd cc
is_pointer GotPageOff scene item goal addend p e = absurd cc
is_pointer GotDelta scene item goal addend p e = absurd cc
is_pointer TlvPage scene item goal addend p e = absurd cc
is_pointer TlvPageOff scene item goal addend p e = absurd cc

-- the field of a pointer holds each value
never_fails : (address : ℕ) (bytes : List ℕ) (met : Met) (fault : RangeFault) → HoldsWord met.kind → field_of address bytes met ≡ Err fault → ⊥
unfolding field_of field_by
never_fails address bytes met fault (inl kind) e = let f = rw kind at e in cc
never_fails address bytes met fault (inr kind) e = let f = rw kind at e in cc

-- a pointer of an atom is that of a reference, at its place
record IsOfRow (m : ImageInputs) (layout : Layout) (fixup : Fixup) : Type 0 where
  row : PlacedWork
  among : In row (rows_of m layout)
  named : Some row.atom.key ≡ fixup.atom
  r : Ref
  of : In r (refs_of m.files row)
  stands : row.address + r.place ≡ fixup.address
  word : HoldsWord r.kind

of_ref : (m : ImageInputs) (layout : Layout) (row : PlacedWork) (r : Ref) (fixup : Fixup) → In row (rows_of m layout) → In r (refs_of m.files row) → fixup_of (scene_of m layout) row r ≡ Some fixup → IsOfRow m layout fixup
unfolding fixup_of pointee
of_ref m layout row r fixup h k e =
    let found = from_mapped (fixup_to row r) (pointee (scene_of m layout) row r) fixup e in
    record {
      row = row;
      among = h;
      named = ap (λ (f : Fixup). f.atom) found.2;
      r = r;
      of = k;
      stands = ap (λ (f : Fixup). f.address) found.2;
      word = is_pointer r.kind (scene_of m layout) row (goal_of (scene_of m layout) row.file r.target) r.addend found.0 found.1;
    }

of_slot : (start : Option ℕ) (goals : List Goal) (fixup : Fixup) → In fixup (slot_fixups start goals) → fixup.atom ≡ None
unfolding slot_fixups
of_slot None goals fixup h = absurd h
of_slot (Some at) goals fixup h = let from = from_map (slot_fixup at) (enumerate_from 0 goals) fixup h in ap (λ (f : Fixup). f.atom) (sym from.2)

of_image : (m : ImageInputs) (layout : Layout) (fixups : List Fixup) (fixup : Fixup) → AreFixups (scene_of m layout) (rows_of m layout) fixups → Contains fixups fixup → (fixup.atom ≡ None) ⊎ IsOfRow m layout fixup
unfolding all_fixups row_fixups
of_image m layout fixups fixup pointers among =
    by (in_from_Contains (all_fixups (scene_of m layout) (rows_of m layout)) fixup (Contains-permutation fixups (all_fixups (scene_of m layout) (rows_of m layout)) fixup (IsPermutation-sym (all_fixups (scene_of m layout) (rows_of m layout)) fixups pointers.all) among))
  where
    got : List Fixup
    got = slot_fixups (starts_of layout.sections).got m.slots.got

    tlv : List Fixup
    tlv = slot_fixups (starts_of layout.sections).tlv m.slots.tlv

    atoms : List Fixup
    atoms = flat_map (row_fixups (scene_of m layout)) (rows_of m layout)

    of_atom : In fixup atoms → IsOfRow m layout fixup
    of_atom h =
        let row = from_flat (row_fixups (scene_of m layout)) (rows_of m layout) fixup h in
        let r = from_filter_map (fixup_of (scene_of m layout) row.0) (refs_of m.files row.0) fixup row.2 in
        of_ref m layout row.0 r.0 fixup row.1 r.1 r.2

    by : In fixup (got ++ (tlv ++ atoms)) → (fixup.atom ≡ None) ⊎ IsOfRow m layout fixup
    by h = elim (in_either got (tlv ++ atoms) fixup h) [
      | inl first ↦ inl (of_slot (starts_of layout.sections).got m.slots.got fixup first)
      | inr rest ↦ elim (in_either tlv atoms fixup rest) [
        | inl second ↦ inl (of_slot (starts_of layout.sections).tlv m.slots.tlv fixup second)
        | inr atom ↦ inr (of_atom atom)
      ]
    ]

beside_not : (a b : Ref) → a.place ≡ b.place → Beside a b → ⊥
beside_not a b same (inl before) = let some = four_at_least a.kind in omega (arith, before, some, same)
beside_not a b same (inr after) = let some = four_at_least b.kind in omega (arith, after, some, same)

one_ref : (refs : List Ref) (a b : Ref) → Pairs Beside refs → In a refs → In b refs → a.place ≡ b.place → a ≡ b
one_ref refs a b apart h k same = elim (of_pairs Beside refs a b apart h k) [
  | inl e ↦ e
  | inr beside ↦ elim beside [
    | inl first ↦ absurd (beside_not a b same first)
    | inr second ↦ absurd (beside_not b a (sym same) second)
  ]
]

pointer_not_field : (m : ImageInputs) (layout : Layout) (fixups : List Fixup) (spot : Spot) (f g : RangeFault) → AreRising (kept_of m) → IsLaid m layout → All HasRefs m.files → AreFixups (scene_of m layout) (rows_of m layout) fixups
    → IsPointerFault layout fixups spot f → IsFieldFault m.files (told_mets m layout) (rows_of m layout) spot g → ⊥
unfolding mets_of
pointer_not_field m layout fixups spot f g rising laid refs pointers p q = by (of_image m layout fixups p.fixup pointers p.among)
  where
    stands : spot_at p.fixup.atom p.fixup.address ≡ spot_at (Some q.item.atom.key) (q.item.address + q.met.place)
    stands = sym p.stands ∙ q.stands

    atoms : p.fixup.atom ≡ Some q.item.atom.key
    atoms = ap (λ (s : Spot). s.atom) stands

    addresses : p.fixup.address ≡ q.item.address + q.met.place
    addresses = ap (λ (s : Spot). s.address) stands

    by : (p.fixup.atom ≡ None) ⊎ IsOfRow m layout p.fixup → ⊥
    by (inl none) = no_some q.item.atom.key (sym none ∙ atoms)
    by (inr one) =
        let key : one.row.atom.key ≡ q.item.atom.key = some_is one.row.atom.key q.item.atom.key (one.named ∙ atoms) in
        let row : bare one.row ≡ bare q.item = same_row m layout one.row q.item rising laid one.among (in_from_Contains (rows_of m layout) q.item q.of_items) key in
        let address : one.row.address ≡ q.item.address = ap (λ (r : PlacedWork). r.address) row in
        let same : refs_of m.files one.row ≡ refs_of m.files q.item = refs_bare m.files one.row ∙ ap (refs_of m.files) row ∙ sym (refs_bare m.files q.item) in
        let there : In one.r (refs_of m.files q.item) = subst (λ (rs : List Ref). In one.r rs) same one.of in
        let from = from_filter_map (met_of (scene_of m layout) [] q.item) (refs_of m.files q.item) q.met (in_from_Contains (told_mets m layout q.item) q.met q.among) in
        let met = as_met (scene_of m layout) [] q.item from.0 q.met from.2 in
        let place : from.0.place ≡ q.met.place = ap (λ (x : Met). x.place) met.is in
        let kind : from.0.kind ≡ q.met.kind = ap (λ (x : Met). x.kind) met.is in
        let stood = one.stands in
        let ref : one.r ≡ from.0 = one_ref (refs_of m.files q.item) one.r from.0 (refs_beside m.files q.item refs) there from.1 (omega (arith, stood, addresses, place, address)) in
        never_fails q.item.address (bytes_of m.files q.item) q.met g (subst HoldsWord (ap (λ (r : Ref). r.kind) ref ∙ kind) one.word) q.fails

-- ---- the first one

at_one_spot : (m : ImageInputs) (layout : Layout) (fixups : List Fixup) (spot : Spot) (f g : RangeFault) → AreRising (kept_of m) → IsLaid m layout → All HasRefs m.files → AreFixups (scene_of m layout) (rows_of m layout) fixups
    → IsFault layout fixups m.files (told_mets m layout) (rows_of m layout) spot f → IsFault layout fixups m.files (told_mets m layout) (rows_of m layout) spot g → f ≡ g
at_one_spot m layout fixups spot f g rising laid refs pointers (inl p) (inl q) = two_pointers layout fixups spot f g pointers.apart p q
at_one_spot m layout fixups spot f g rising laid refs pointers (inl p) (inr q) = absurd (pointer_not_field m layout fixups spot f g rising laid refs pointers p q)
at_one_spot m layout fixups spot f g rising laid refs pointers (inr p) (inl q) = absurd (pointer_not_field m layout fixups spot g f rising laid refs pointers q p)
at_one_spot m layout fixups spot f g rising laid refs pointers (inr p) (inr q) = two_fields m layout spot f g rising laid refs p q

pub one_first : (m : ImageInputs) (layout : Layout) (fixups : List Fixup) (a b : Option AtomKey) (f g : RangeFault) → AreRising (kept_of m) → IsLaid m layout → All HasRefs m.files → AreFixups (scene_of m layout) (rows_of m layout) fixups
    → IsFirstFault layout fixups m.files (told_mets m layout) (rows_of m layout) a f → IsFirstFault layout fixups m.files (told_mets m layout) (rows_of m layout) b g → (a ≡ b) × (f ≡ g)
one_first m layout fixups a b f g rising laid refs pointers p q =
    let spot : q.spot ≡ p.spot = one_spot q.spot p.spot (q.first p.spot f p.fails) (p.first q.spot g q.fails) in (
      sym p.of_atom ∙ ap (λ (s : Spot). s.atom) (sym spot) ∙ q.of_atom,
      at_one_spot m layout fixups p.spot f g rising laid refs pointers p.fails (subst (λ (s : Spot). IsFault layout fixups m.files (told_mets m layout) (rows_of m layout) s g) spot q.fails),
    )
