-- No two pointers of an image have a byte in common.
use Rattle.std.proofs.Common.{◌≡◌, ◌≢◌, ℕ, ◌+◌, ◌*◌, ◌<◌, ◌≤◌, ◌^◌, ◌⊎◌, ◌++◌, List, [], ◌∷◌, length, map, Option, Some, None, ℤ, All, refl, sym, ap, ◌∙◌, subst, inl, inr, arith}
use Rattle.std.specs.List.{enumerate_from, filter, flat_map}
use Rattle.std.specs.Option.{option_map, option_map_or}
use Rattle.list_lemmas.proofs.Members.{In, all_from_in, all_in, from_filter, from_filter_map, from_flat, from_map}
use Rattle.std.proofs.lemmas.List.Elements.{All-from_recursion}
use Rattle.fixup_chain.specs.declared.chains.Fixup.{Fixup}
use Rattle.mo_types.specs.Loaded.{IsWholeFile}
use Rattle.mo_types.specs.Rows.{field_size}
use Rattle.mo_types.specs.declared.goal.Goal.{Goal}
use Rattle.mo_types.specs.declared.out_section.OutSection.{OutSection}
use Rattle.mo_types.specs.declared.reference.Ref.{Ref}
use Rattle.mo_types.specs.declared.reference.RefKind.{RefKind}
use Rattle.mo_types.specs.declared.reference.RefKind.TheVariants.{Pointer, Diff32, Diff64, Branch, Page, PageOff, GotPage, GotPageOff, GotDelta, GotPointer, TlvPage, TlvPageOff}
use Rattle.patch.specs.declared.range.PlacedWork.{PlacedWork}
use Rattle.patch.proofs.ChosenLemmas.{Pairs, all_pairs, from_mapped, pairs_filter, pairs_join}
use Rattle.ref_meet.specs.Pointers.{AreBeside, AreSpread, EndLow, all_fixups, fixup_of, fixup_to, pointee, pointee_by, row_fixups, slot_fixup, slot_fixups}
use Rattle.ref_meet.specs.declared.pointers.Pointee.{Pointee}
use Rattle.ref_meet.specs.Scene.{Scene, goal_of, refs_of}
use Rattle.sect_place.specs.Arrangement.{section_of}
use Rattle.sect_place.specs.Layout.{image_sections}
use Rattle.sect_place.specs.declared.layout.Layout.{Layout}
use Rattle.sect_place.specs.declared.layout.PlacedSection.{PlacedSection}
use Rattle.sect_place.specs.declared.part.Made.TheVariants as made
use Rattle.sect_place.proofs.Meaning.{sections_apart}
use Rattle.slot_plan.specs.declared.need.Way.{Way}
use Rattle.slot_plan.specs.declared.need.Way.TheVariants.{Got, Stub, Tlv}
use Rattle.slot_place.specs.Places.{goals_for, made_for, own_section, start_in, starts_of, unit_of}
use Rattle.image_make.specs.Atoms.{AreRising}
use Rattle.image_make.specs.Made.{IsLaid, ImageInputs, kept_of, plan_for, rows_of, scene_of}
use Rattle.image_make.specs.Rows.{has_bytes, row_of, rows, section_rows}
use Rattle.image_make.proofs.FieldLemmas.{Beside, pairs_found, ref_of_row, refs_beside, row_low}
use Rattle.image_make.proofs.OwnLemmas.{laid_is}
pub use Rattle.image_make.proofs.PairLemmas.{flat_pairs, of_pairs, pairs_all}
use Rattle.image_make.proofs.RoomLemmas.{base_small}
use Rattle.image_make.proofs.Rowed.{atom_within, is_row}
use Rattle.image_make.proofs.WorkLemmas.{InTurn, few_bytes, section_turn}

-- ---- sections

abbrev Apart : PlacedSection → PlacedSection → Type 0
Apart p q = p.address + p.size ≤ q.address

sections_pairs : (m : ImageInputs) (layout : Layout) → IsLaid m layout → Pairs Apart layout.sections
sections_pairs m layout laid = subst (Pairs Apart) (sym laid.layout_of.sections) (pairs_all Apart (image_sections (plan_for m)) (sections_apart (plan_for m)))

-- a pointer stands in a section
abbrev StandsIn : PlacedSection → Fixup → Type 0
StandsIn p fixup = (p.address ≤ fixup.address) × (fixup.address + 8 ≤ p.address + p.size)

beside_in : (p q : PlacedSection) (a b : Fixup) → Apart p q ⊎ Apart q p → StandsIn p a → StandsIn q b → AreBeside a b
beside_in p q a b (inl before) one two = inl (omega (arith, before, one.1, two.0))
beside_in p q a b (inr after) one two = inr (omega (arith, after, two.1, one.0))

-- ---- slots

abbrev SlotFrom : ℕ → ℕ → Fixup → Type 0
SlotFrom at n fixup = at + 8 * n ≤ fixup.address

slots_above : (at n : ℕ) (goals : List Goal) (fixup : Fixup) → In fixup (map (slot_fixup at) (enumerate_from n goals)) → (at + 8 * n ≤ fixup.address) × (fixup.address + 8 ≤ at + 8 * (n + length goals))
slots_above at n [] fixup h = absurd h
slots_above at n (goal ∷ goals) fixup (inl e) =
    let is : at + 8 * n ≡ fixup.address = ap (λ (f : Fixup). f.address) e in
    (omega (arith, is), omega (arith, is))
slots_above at n (goal ∷ goals) fixup (inr h) = let rest = slots_above at (n + 1) goals fixup h in (omega (arith, rest.0), omega (arith, rest.1))

slots_pairs : (at n : ℕ) (goals : List Goal) → Pairs AreBeside (map (slot_fixup at) (enumerate_from n goals))
slots_pairs at n [] = tt
slots_pairs at n (goal ∷ goals) = ((λ b h. let above = slots_above at (n + 1) goals b h in inl (omega (arith, above.0))), slots_pairs at (n + 1) goals)

-- those of a way
abbrev slots_for : Layout → ImageInputs → Way → List Fixup
slots_for layout m way = slot_fixups (start_in layout.sections way) (goals_for m.slots way)

way_pairs : (layout : Layout) (m : ImageInputs) (way : Way) → Pairs AreBeside (slots_for layout m way)
unfolding slot_fixups
way_pairs layout m way = by (start_in layout.sections way)
  where
    by : (o : Option ℕ) → Pairs AreBeside (option_map_or (λ (at : ℕ). map (slot_fixup at) (enumerate_from 0 (goals_for m.slots way))) o [])
    by None = tt
    by (Some at) = slots_pairs at 0 (goals_for m.slots way)

way_in : (m : ImageInputs) (layout : Layout) (way : Way) (fixup : Fixup) → (unit_of way ≡ 8) → IsLaid m layout → In fixup (slots_for layout m way) → (p : PlacedSection) × (own_section layout.sections way ≡ Some p) × StandsIn p fixup
unfolding slot_fixups
way_in m layout way fixup eight laid h = by (own_section layout.sections way) refl h
  where
    by : (o : Option PlacedSection) → own_section layout.sections way ≡ o → In fixup (option_map_or (λ (at : ℕ). map (slot_fixup at) (enumerate_from 0 (goals_for m.slots way))) (option_map (λ (p : PlacedSection). p.address) o) []) → (p : PlacedSection) × (own_section layout.sections way ≡ Some p) × StandsIn p fixup
    by None e there = absurd there
    by (Some p) e there =
        let is = laid_is m layout way p laid e in
        let above = slots_above p.address 0 (goals_for m.slots way) fixup there in
        let size : p.size ≡ 8 * length (goals_for m.slots way) = is.1 ∙ ap (λ (n : ℕ). n * length (goals_for m.slots way)) eight in
        (p, e, (omega (arith, above.0), omega (arith, above.1, size)))

-- ---- pointers of atoms

kind_eight : (kind : RefKind) (scene : Scene) (item : PlacedWork) (goal : Goal) (addend : ℤ) (p : Pointee) → pointee_by kind scene item goal addend ≡ Some p → field_size kind ≡ 8
kind_eight Pointer scene item goal addend p e = refl
kind_eight GotPointer scene item goal addend p e = refl
kind_eight Diff32 scene item goal addend p e = cc
kind_eight Diff64 scene item goal addend p e = refl
kind_eight Branch scene item goal addend p e = cc
kind_eight Page scene item goal addend p e = cc
kind_eight PageOff scene item goal addend p e = cc
kind_eight GotPage scene item goal addend p e = cc
kind_eight GotPageOff scene item goal addend p e = cc
kind_eight GotDelta scene item goal addend p e = cc
kind_eight TlvPage scene item goal addend p e = cc
kind_eight TlvPageOff scene item goal addend p e = cc

-- a pointer of a reference
pub record IsPointerOf (item : PlacedWork) (r : Ref) (fixup : Fixup) : Type 0 where
  pub to : Pointee
  pub is : fixup_to item r to ≡ fixup
  pub eight : field_size r.kind ≡ 8

pub pointer_of : (scene : Scene) (item : PlacedWork) (r : Ref) (fixup : Fixup) → fixup_of scene item r ≡ Some fixup → IsPointerOf item r fixup
unfolding fixup_of pointee
pointer_of scene item r fixup e =
    let found = from_mapped (fixup_to item r) (pointee scene item r) fixup e in
    record { to = found.0; is = found.2; eight = kind_eight r.kind scene item (goal_of scene item.file r.target) r.addend found.0 found.1 }

pub from_row : (scene : Scene) (item : PlacedWork) (fixup : Fixup) → In fixup (row_fixups scene item) → (r : Ref) × In r (refs_of scene.files item) × IsPointerOf item r fixup
unfolding row_fixups
from_row scene item fixup h =
    let found = from_filter_map (fixup_of scene item) (refs_of scene.files item) fixup h in
    (found.0, found.1, pointer_of scene item found.0 fixup found.2)

-- it stands in its atom
in_atom : (m : ImageInputs) (layout : Layout) (row : PlacedWork) (fixup : Fixup) → All IsWholeFile m.files → In row (rows_of m layout) → In fixup (row_fixups (scene_of m layout) row) → (row.address ≤ fixup.address) × (fixup.address + 8 ≤ row.address + row.atom.size)
in_atom m layout row fixup whole h k =
    let found = from_row (scene_of m layout) row fixup k in
    let of = ref_of_row m layout row found.0 whole h found.1 in
    let address : row.address + found.0.place ≡ fixup.address = ap (λ (f : Fixup). f.address) found.2.is in
    let few = few_bytes m.files row in
    let within = of.within in
    let eight = found.2.eight in
    (omega (arith, address), omega (arith, address, few, within, eight))

row_pairs : (m : ImageInputs) (layout : Layout) (row : PlacedWork) → All IsWholeFile m.files → In row (rows_of m layout) → Pairs AreBeside (row_fixups (scene_of m layout) row)
unfolding row_fixups
row_pairs m layout row whole h =
    pairs_found (fixup_of (scene_of m layout) row) Beside AreBeside (refs_of m.files row) each (refs_beside m.files row (λ k d low. inl (whole k d low).refs))
  where
    each : (a b : Ref) (x y : Fixup) → In a (refs_of m.files row) → In b (refs_of m.files row) → fixup_of (scene_of m layout) row a ≡ Some x → fixup_of (scene_of m layout) row b ≡ Some y → Beside a b → AreBeside x y
    each a b x y i j as_x as_y beside =
        let one = pointer_of (scene_of m layout) row a x as_x in
        let two = pointer_of (scene_of m layout) row b y as_y in
        let first : row.address + a.place ≡ x.address = ap (λ (f : Fixup). f.address) one.is in
        let second : row.address + b.place ≡ y.address = ap (λ (f : Fixup). f.address) two.is in
        let size_a = one.eight in
        let size_b = two.eight in
        elim beside [
          | inl before ↦ inl (omega (arith, before, first, second, size_a))
          | inr after ↦ inr (omega (arith, after, first, second, size_b))
        ]

-- ---- rows one behind the other in memory

-- a row stands in a section that lists its atom
record IsSeated (layout : Layout) (section : PlacedSection) (row : PlacedWork) : Type 0 where
  pub low : section.address ≤ row.address
  pub high : row.address + row.atom.size ≤ section.address + section.size
  pub listed : section.section.atoms ≢ []

in_list : {X : Type 0} (x : X) (xs : List X) → In x xs → xs ≢ []
in_list x xs h none = subst (In x) none h

seated : (m : ImageInputs) (layout : Layout) (section : PlacedSection) (row : PlacedWork) → AreRising (kept_of m) → IsLaid m layout → In section layout.sections → In row (section_rows layout.placed (kept_of m) section) → IsSeated layout section row
unfolding section_rows
seated m layout section row rising laid among h =
    let of_key = from_filter_map (row_of layout.placed (kept_of m) section) section.section.atoms row h in
    let one = is_row layout.placed (kept_of m) section of_key.0 row of_key.2 in
    let within = atom_within m layout section of_key.0 one.kept one.address rising laid among of_key.1 one.known one.stood in
    let address : one.address ≡ row.address = ap (λ (r : PlacedWork). r.address) one.is in
    let size : one.kept.atom.size ≡ row.atom.size = ap (λ (r : PlacedWork). r.atom.size) one.is in
    let low = within.low in
    let high = within.high in
    record { low = omega (arith, low, address); high = omega (arith, high, address, size); listed = in_list of_key.0 section.section.atoms of_key.1 }

rows_pairs : (m : ImageInputs) (layout : Layout) → AreRising (kept_of m) → IsLaid m layout → Pairs InTurn (rows_of m layout)
unfolding rows
rows_pairs m layout rising laid =
    flat_pairs (section_rows layout.placed (kept_of m)) Apart InTurn (filter has_bytes layout.sections) (pairs_filter Apart has_bytes layout.sections (sections_pairs m layout laid))
    (λ section h. section_turn m layout section rising laid (from_filter has_bytes layout.sections section h).0)
    (λ p q a b h k apart i j.
    let one = seated m layout p a rising laid (from_filter has_bytes layout.sections p h).0 i in
    let two = seated m layout q b rising laid (from_filter has_bytes layout.sections q k).0 j in
    let high = one.high in
    let low = two.low in
    omega (arith, apart, high, low))

atoms_pairs : (m : ImageInputs) (layout : Layout) → All IsWholeFile m.files → AreRising (kept_of m) → IsLaid m layout → Pairs AreBeside (flat_map (row_fixups (scene_of m layout)) (rows_of m layout))
atoms_pairs m layout whole rising laid =
    flat_pairs (row_fixups (scene_of m layout)) InTurn AreBeside (rows_of m layout) (rows_pairs m layout rising laid)
    (λ row h. row_pairs m layout row whole h)
    (λ x y a b h k turn i j.
    let one = in_atom m layout x a whole h i in
    let two = in_atom m layout y b whole k j in
    inl (omega (arith, turn, one.1, two.0)))

atom_seat : (m : ImageInputs) (layout : Layout) (fixup : Fixup) → All IsWholeFile m.files → AreRising (kept_of m) → IsLaid m layout → In fixup (flat_map (row_fixups (scene_of m layout)) (rows_of m layout)) → (p : PlacedSection) × In p layout.sections × (p.section.atoms ≢ []) × StandsIn p fixup
unfolding rows
atom_seat m layout fixup whole rising laid h =
    let of_row = from_flat (row_fixups (scene_of m layout)) (rows_of m layout) fixup h in
    let of_section = from_flat (section_rows layout.placed (kept_of m)) (filter has_bytes layout.sections) of_row.0 of_row.1 in
    let among = (from_filter has_bytes layout.sections of_section.0 of_section.1).0 in
    let seat = seated m layout of_section.0 of_row.0 rising laid among of_section.2 in
    let stands = in_atom m layout of_row.0 fixup whole of_row.1 of_row.2 in
    let low = seat.low in
    let high = seat.high in
    (of_section.0, among, seat.listed, (omega (arith, low, stands.0), omega (arith, high, stands.1)))

-- ---- all

other_kinds : (section_of made.Got).kind ≡ (section_of made.ThreadPtrs).kind → ⊥
other_kinds e = omega (arith, e)

slots_beside : (m : ImageInputs) (layout : Layout) (a b : Fixup) → IsLaid m layout → In a (slots_for layout m Got) → In b (slots_for layout m Tlv) → AreBeside a b
slots_beside m layout a b laid h k =
    let one = way_in m layout Got a refl laid h in
    let two = way_in m layout Tlv b refl laid k in
    let is_got = laid_is m layout Got one.0 laid one.1 in
    let is_tlv = laid_is m layout Tlv two.0 laid two.1 in
    elim (of_pairs Apart layout.sections one.0 two.0 (sections_pairs m layout laid) is_got.2 is_tlv.2) [
      | inl same ↦ absurd (other_kinds (ap (λ (s : OutSection). s.kind) (sym is_got.0) ∙ ap (λ (p : PlacedSection). p.section.kind) same ∙ ap (λ (s : OutSection). s.kind) is_tlv.0))
      | inr apart ↦ beside_in one.0 two.0 a b apart one.2 two.2
    ]

empty_of : (way : Way) → (section_of (made_for way)).atoms ≡ []
empty_of Got = refl
empty_of Stub = refl
empty_of Tlv = refl

atoms_beside : (m : ImageInputs) (layout : Layout) (way : Way) (a b : Fixup) → (unit_of way ≡ 8) → All IsWholeFile m.files → AreRising (kept_of m) → IsLaid m layout → In a (slots_for layout m way) → In b (flat_map (row_fixups (scene_of m layout)) (rows_of m layout)) → AreBeside a b
atoms_beside m layout way a b eight whole rising laid h k =
    let one = way_in m layout way a eight laid h in
    let two = atom_seat m layout b whole rising laid k in
    let is = laid_is m layout way one.0 laid one.1 in
    elim (of_pairs Apart layout.sections one.0 two.0 (sections_pairs m layout laid) is.2 two.1) [
      | inl same ↦ absurd (two.2 (ap (λ (p : PlacedSection). p.section.atoms) (sym same) ∙ ap (λ (s : OutSection). s.atoms) is.0 ∙ empty_of way))
      | inr apart ↦ beside_in one.0 two.0 a b apart one.2 two.3
    ]

pub are_spread : (m : ImageInputs) (layout : Layout) → All IsWholeFile m.files → AreRising (kept_of m) → IsLaid m layout → AreSpread (scene_of m layout) (rows_of m layout)
unfolding all_fixups starts_of
are_spread m layout whole rising laid =
    all_pairs AreBeside (slots_for layout m Got ++ (slots_for layout m Tlv ++ atoms))
    (pairs_join AreBeside (slots_for layout m Got) (slots_for layout m Tlv ++ atoms) (way_pairs layout m Got)
    (pairs_join AreBeside (slots_for layout m Tlv) atoms (way_pairs layout m Tlv) (atoms_pairs m layout whole rising laid) (λ a b h k. atoms_beside m layout Tlv a b refl whole rising laid h k))
    (λ a b h k. elim (Rattle.list_lemmas.proofs.Members.in_either (slots_for layout m Tlv) atoms b k) [
      | inl slot ↦ slots_beside m layout a b laid h slot
      | inr atom ↦ atoms_beside m layout Got a b refl whole rising laid h atom
    ]))
  where
    atoms : List Fixup
    atoms = flat_map (row_fixups (scene_of m layout)) (rows_of m layout)

-- ---- addresses of 64 bits

pub end_low : (m : ImageInputs) (layout : Layout) → All IsWholeFile m.files → AreRising (kept_of m) → IsLaid m layout → EndLow (scene_of m layout) (rows_of m layout)
end_low m layout whole rising laid = record {
  base = let small = base_small m.command.dylib in omega (arith, small);
  fields = All-from_recursion Low (rows_of m layout) (all_from_in Low (rows_of m layout)
      (λ row h. All-from_recursion (Field row) (refs_of m.files row) (all_from_in (Field row) (refs_of m.files row)
      (λ r k.
      let of = ref_of_row m layout row r whole h k in
      let within = of.within in
      let low = row_low m layout row rising laid h in
      let few = few_bytes m.files row in
      omega (arith, within, low, few)))));
}
  where
    Field : PlacedWork → Ref → Type 0
    Field row r = row.address + r.place < 2 ^ 64

    Low : PlacedWork → Type 0
    Low row = All (λ (r : Ref). row.address + r.place < 2 ^ 64) (refs_of m.files row)
