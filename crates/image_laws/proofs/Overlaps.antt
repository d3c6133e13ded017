-- No two pointers of an image overlap a field, and no two atoms a byte.
use Rattle.std.proofs.Common.{◌≡◌, ◌≢◌, ℕ, ◌+◌, ◌*◌, ◌<◌, ◌≤◌, ◌⊎◌, inl, inr, Bool, pos, List, [], ◌∷◌, map, length, Option, Some, None, Contains, refl, sym, ap, ◌∙◌, arith, subst}
use Rattle.std.specs.Prelude.{All}
use Rattle.std.specs.List.{find}
use Rattle.std.specs.Option.{option_map}
use Rattle.std.specs.Ordering.{is_eq}
use Rattle.std.proofs.lemmas.List.Sorted.{Contains-permutation, IsPermutation-sym}
use Rattle.list_lemmas.proofs.Members.{Contains_from_in, In, find_some, from_filter_map, from_map, in_either, in_from_Contains}
use Rattle.atom_index.proofs.Keys.{is_equal, same_key}
use Rattle.mo_types.specs.Keys.{compare_keys}
use Rattle.mo_types.specs.Loaded.{IsWholeFile}
use Rattle.mo_types.specs.Rows.{field_size}
use Rattle.mo_types.specs.declared.atom.Atom.{Atom}
use Rattle.mo_types.specs.declared.key.AtomKey.{AtomKey}
use Rattle.mo_types.specs.declared.reference.Ref.{Ref}
use Rattle.patch.proofs.ChosenLemmas.{some_is}
use Rattle.patch.specs.Range.{bytes_of}
use Rattle.patch.specs.declared.range.PlacedWork.{PlacedWork}
use Rattle.fixup_chain.specs.declared.chains.Fixup.{Fixup}
use Rattle.tlv_plan.specs.Template.{atoms_of, stand}
use Rattle.sect_list.specs.OutSections.{out_sections}
use Rattle.sect_place.specs.Addresses.{address_in}
use Rattle.sect_place.specs.Layout.{image_places, image_stand, plan_of}
use Rattle.sect_place.specs.Places.{area_unit, group_end, groups_stand, page_up, part_end, part_from, parts_stand, places, spaced, with_area}
use Rattle.sect_place.specs.declared.island.IslandArea.{IslandArea}
use Rattle.sect_place.specs.declared.layout.Layout.{Layout}
use Rattle.sect_place.specs.declared.layout.Placed.{Placed}
use Rattle.sect_place.specs.declared.layout.PlacedSection.{PlacedSection}
use Rattle.sect_place.specs.declared.part.Group.{Group}
use Rattle.sect_place.specs.declared.part.Part.{Part}
use Rattle.sect_place.proofs.Meaning.{image_apart, image_same}
use Rattle.sect_place.proofs.Positions.{finds, found_atom}
use Rattle.slot_place.specs.Places.{goals_for}
use Rattle.ref_meet.specs.Mets.{met_with}
use Rattle.ref_meet.specs.Pointers.{fixup_of}
use Rattle.ref_meet.specs.Scene.{refs_of}
use Rattle.image_make.specs.Atoms.{atom_of, kept_at}
use Rattle.image_make.specs.Made.{IsLaid, ImageInputs, kept_of, plan_for, plan_with, rows_of, scene_of}
use Rattle.image_make.specs.Rows.{row_at}
use Rattle.image_make.specs.declared.kept.KeptAtom.{KeptAtom}
use Rattle.image_make.proofs.FieldLemmas.{Beside, refs_beside}
use Rattle.image_make.proofs.WorkLemmas.{few_bytes}
use Rattle.image_laws.specs.Means.{AreRising, Imaged}
use Rattle.image_laws.proofs.Alone.{alone, either}
use Rattle.image_laws.proofs.Complete.{stand_from}
use Rattle.image_laws.proofs.Layouts.{layout_apart, one_section, own_bare, own_in, own_is}
use Rattle.image_laws.proofs.Loading.{field_within}
use Rattle.image_laws.proofs.Pointing.{IsOfImage, IsPointerOf, eight, pointer_behind, pointer_known, pointer_met, pointer_of, slot_behind, some_size}
use Rattle.image_laws.proofs.Pointing.IsOfImage.{of_slot, of_atom}
use Rattle.image_laws.proofs.Rowed.{IsRowIn, find_mapped, row_in}

-- ---- what stands for an atom

record IsSpaced (atoms : List AtomKey → List Atom) (atom : Atom) : Type 0 where
  pub keys : List AtomKey
  pub among : In atom (atoms keys)

parts_spaced : (atoms : List AtomKey → List Atom) (at : ℕ) (parts : List Part) (p : Atom × ℕ) → In p (parts_stand atoms at parts) → IsSpaced atoms p.0
unfolding parts_stand
parts_spaced atoms at [] p h = absurd h
parts_spaced atoms at (part ∷ parts) p h = elim (in_either (stand (part_from at part) (atoms part.section.atoms)) (parts_stand atoms (part_end atoms at part) parts) p h) [
  | inl here ↦ record { keys = part.section.atoms; among = stand_from (part_from at part) (atoms part.section.atoms) p here }
  | inr there ↦ parts_spaced atoms (part_end atoms at part) parts p there
]

groups_spaced : (atoms : List AtomKey → List Atom) (at lead : ℕ) (groups : List Group) (p : Atom × ℕ) → In p (groups_stand atoms at lead groups) → IsSpaced atoms p.0
unfolding groups_stand
groups_spaced atoms at lead [] p h = absurd h
groups_spaced atoms at lead (group ∷ groups) p h = elim (in_either (parts_stand atoms (at + lead) group.parts) (groups_stand atoms (page_up (group_end atoms at lead group)) 0 groups) p h) [
  | inl here ↦ parts_spaced atoms (at + lead) group.parts p here
  | inr there ↦ groups_spaced atoms (page_up (group_end atoms at lead group)) 0 groups p there
]

-- it has the kept atom's key, and as many bytes or more
record IsSpacedOf (kept : List Atom) (atom : Atom) : Type 0 where
  pub own : Atom
  pub known : finds kept atom.key ≡ Some own
  pub size : own.size ≤ atom.size

spaced_of : (kept : List Atom) (areas : List IslandArea) (unit : ℕ) (keys : List AtomKey) (atom : Atom) → In atom (spaced kept areas unit keys) → IsSpacedOf kept atom
unfolding spaced atoms_of
spaced_of kept areas unit keys atom h =
    let from : (a : Atom) × In a (atoms_of kept keys) × (with_area areas unit a ≡ atom) = from_map (with_area areas unit) (atoms_of kept keys) atom h in
    let key : (k : AtomKey) × In k keys × (finds kept k ≡ Some from.0) = from_filter_map (finds kept) keys from.0 from.1 in
    let named : from.0.key ≡ key.0 = (found_atom kept key.0 from.0 key.2).0 in
    let same : from.0.key ≡ atom.key = ap (λ (a : Atom). a.key) from.2 in
    let size : (with_area areas unit from.0).size ≡ atom.size = ap (λ (a : Atom). a.size) from.2 in
    record { own = from.0; known = ap (finds kept) (sym same ∙ named) ∙ key.2; size = omega (arith, size) }

-- ---- rows

placed_in : (placed : List Placed) (key : AtomKey) (address : ℕ) → address_in placed key ≡ Some address → In (record { atom = key; address = address }) placed
unfolding address_in
placed_in placed key address e = by (find test placed) refl e
  where
    test : Placed → Bool
    test p = is_eq (compare_keys p.atom key)

    by : (found : Option Placed) → find test placed ≡ found → option_map (λ (p : Placed). p.address) found ≡ Some address → In (record { atom = key; address = address }) placed
    by None is f = absurd cc
    by (Some p) is f =
        let passes = find_some test placed p is in
        let named : p.atom ≡ key = same_key p.atom key (is_equal (compare_keys p.atom key) passes.1) in
        let at : p.address ≡ address = cc in
        let same : p ≡ record { atom = key; address = address } = ap (λ (k : AtomKey). let q : Placed = record { atom = k; address = p.address } in q) named ∙ ap (λ (n : ℕ). let q : Placed = record { atom = key; address = n } in q) at in
        subst (λ (q : Placed). In q placed) same passes.0

-- a row among what stands in the image
record IsStood (m : ImageInputs) (row : PlacedWork) : Type 0 where
  pub stood : Atom × ℕ
  pub among : Contains (image_stand (plan_for m)) stood
  pub key : stood.0.key ≡ row.atom.key
  pub at : stood.1 ≡ row.address
  pub size : row.atom.size ≤ stood.0.size

row_known : (m : ImageInputs) (layout : Layout) (row : PlacedWork) (one : IsRowIn m layout row) → finds (map atom_of (kept_of m)) row.atom.key ≡ Some row.atom
row_known m layout row one =
    let found : finds (map atom_of (kept_of m)) one.key ≡ Some one.kept.atom = find_mapped (kept_of m) one.key one.kept one.known in
    let named : one.kept.atom.key ≡ one.key = (found_atom (map atom_of (kept_of m)) one.key one.kept.atom found).0 in
    let atom : one.kept.atom ≡ row.atom = ap (λ (r : PlacedWork). r.atom) one.is in
    ap (finds (map atom_of (kept_of m))) (sym (ap (λ (a : Atom). a.key) atom) ∙ named) ∙ found ∙ ap (λ (a : Atom). Some a) atom

row_stood : (m : ImageInputs) (layout : Layout) (row : PlacedWork) → AreRising m → IsLaid m layout → In row (rows_of m layout) → IsStood m row
unfolding image_stand plan_with plan_of
row_stood m layout row rising laid h =
    let plan = plan_for m in
    let one = row_in m layout row rising laid h in
    let p : Placed = record { atom = row.atom.key; address = row.address } in
    let there : Contains (image_places plan) p = Contains-permutation layout.placed (image_places plan) p (IsPermutation-sym (image_places plan) layout.placed laid.layout_of.places) (Contains_from_in layout.placed p (placed_in layout.placed row.atom.key row.address one.stood)) in
    let listed : In p (places (image_stand plan)) = subst (λ (ps : List Placed). In p ps) (image_same plan) (in_from_Contains (image_places plan) p there) in
    let from : (q : Atom × ℕ) × In q (image_stand plan) × (let r : Placed = record { atom = q.0.key; address = q.1 } in r ≡ p) = from_map (λ (q : Atom × ℕ). let r : Placed = record { atom = q.0.key; address = q.1 } in r) (image_stand plan) p listed in
    let key : from.0.0.key ≡ row.atom.key = ap (λ (r : Placed). r.atom) from.2 in
    let is = groups_spaced plan.atoms plan.base plan.lead plan.groups from.0 from.1 in
    let kept = map atom_of (kept_of m) in
    let own = spaced_of kept m.islands.areas (area_unit (out_sections m.files kept)) is.keys from.0.0 is.among in
    let same : own.own ≡ row.atom = some_is own.own row.atom (sym own.known ∙ ap (finds kept) key ∙ row_known m layout row one) in
    let size = own.size in
    let sized : own.own.size ≡ row.atom.size = ap (λ (a : Atom). a.size) same in
    record {
      stood = from.0;
      among = Contains_from_in (image_stand plan) from.0 from.1;
      key = key;
      at = ap (λ (r : Placed). r.address) from.2;
      size = omega arith;
    }

-- two rows that have an address are one
pub same_row : (m : ImageInputs) (layout : Layout) (a b : PlacedWork) (x : ℕ) → AreRising m → IsLaid m layout → In a (rows_of m layout) → In b (rows_of m layout) → a.address ≤ x → x < a.address + a.atom.size → b.address ≤ x → x < b.address + b.atom.size → a ≡ b
same_row m layout a b x rising laid h k low high low' high' =
    let p = row_stood m layout a rising laid h in
    let q = row_stood m layout b rising laid k in
    let at = p.at in
    let at' = q.at in
    let size = p.size in
    let size' = q.size in
    let one : p.stood ≡ q.stood = alone (λ (y : Atom × ℕ) (z : Atom × ℕ). y.1 + y.0.size ≤ z.1) (image_stand (plan_for m)) p.stood q.stood (image_apart (plan_for m)) p.among q.among (λ before. omega (arith, before, at, at', size, size', low, high, low', high')) (λ behind. omega (arith, behind, at, at', size, size', low, high, low', high')) in
    let key : a.atom.key ≡ b.atom.key = sym p.key ∙ ap (λ (y : Atom × ℕ). y.0.key) one ∙ q.key in
    let address : a.address ≡ b.address = sym p.at ∙ ap (λ (y : Atom × ℕ). y.1) one ∙ q.at in
    let r = row_in m layout a rising laid h in
    let s = row_in m layout b rising laid k in
    let within = r.within in
    let within' = s.within in
    let section : r.section ≡ s.section = one_section layout.sections r.section s.section x (layout_apart m layout laid) (Contains_from_in layout.sections r.section r.among) (Contains_from_in layout.sections s.section s.among) (omega (arith, within.low, low)) (omega (arith, within.high, high)) (omega (arith, within'.low, low')) (omega (arith, within'.high, high')) in
    let kept : r.kept ≡ s.kept = same_kept a b r s key in
    sym r.is ∙ ap (λ (t : PlacedSection). row_at t r.kept a.address) section ∙ ap (λ (t : KeptAtom). row_at s.section t a.address) kept ∙ ap (row_at s.section s.kept) address ∙ s.is
  where
    named : (row : PlacedWork) (one : IsRowIn m layout row) → one.key ≡ row.atom.key
    named row one =
        let found : finds (map atom_of (kept_of m)) one.key ≡ Some one.kept.atom = find_mapped (kept_of m) one.key one.kept one.known in
        sym (found_atom (map atom_of (kept_of m)) one.key one.kept.atom found).0 ∙ ap (λ (r : PlacedWork). r.atom.key) one.is

    same_kept : (c d : PlacedWork) (r : IsRowIn m layout c) (s : IsRowIn m layout d) → c.atom.key ≡ d.atom.key → r.kept ≡ s.kept
    same_kept c d r s key = some_is r.kept s.kept (sym r.known ∙ ap (kept_at (kept_of m)) (named c r ∙ key ∙ sym (named d s)) ∙ s.known)

-- ---- pointers

-- no pointer stands where a reference is that is none
pub no_pointer_at : (m : ImageInputs) (image : List ℕ) (of : Imaged m image) (row : PlacedWork) (r : Ref) (fixup : Fixup) → All IsWholeFile m.files → AreRising m → In row (rows_of m of.layout) → In r (refs_of m.files row) → r.place + field_size r.kind ≤ length (bytes_of m.files row) → fixup_of (scene_of m of.layout) row r ≡ None → Contains of.fixups fixup → fixup.address ≢ row.address + r.place
no_pointer_at m image of row r fixup whole rising h among within none there = λ same. by same (pointer_of m image of fixup there)
  where
    laid : IsLaid m of.layout
    laid = of.is_image.laid

    inside : row.address + r.place < row.address + row.atom.size
    inside = omega (arith, few_bytes m.files row, within, some_size r.kind)

    by : fixup.address ≡ row.address + r.place → IsOfImage m image of fixup → ⊥
    by same (of_slot way slots listed) =
        let slot = slot_behind m of.layout way fixup listed in
        let placed : PlacedSection = slot.placed in
        let one = row_in m of.layout row rising laid h in
        let in_section = one.within in
        let at = slot.at in
        let below = slot.within in
        let sized : placed.size ≡ 8 * length (goals_for m.slots way) = (own_is m of.layout way placed laid slot.section).sized ∙ ap (λ (n : ℕ). n * length (goals_for m.slots way)) (eight way slots) in
        let section : placed ≡ one.section = one_section of.layout.sections placed one.section fixup.address (layout_apart m of.layout laid) (Contains_from_in of.layout.sections placed (own_in m of.layout way placed slot.section)) (Contains_from_in of.layout.sections one.section one.among) (omega (arith, at)) (omega (arith, at, below, sized)) (omega (arith, same, in_section.low)) (omega (arith, same, in_section.high, inside)) in
        subst (λ (keys : List AtomKey). In one.key keys) (own_bare m of.layout way placed laid slot.section) (subst (λ (s : PlacedSection). In one.key s.section.atoms) (sym section) one.listed)
    by same (of_atom other k listed) =
        let scene = scene_of m of.layout in
        let behind = pointer_behind scene of.chains other fixup listed in
        let reference : Ref = behind.0 in
        let one : IsPointerOf scene of.chains other reference fixup = behind.1 in
        let known = pointer_known m image of fixup there in
        let reach = field_within m image of other (met_with reference known.word 0 (pos 0)) whole rising k (pointer_met m image of other reference fixup one known.word known.found) in
        let at = one.at in
        let size = some_size reference.kind in
        let rows : other ≡ row = same_row m of.layout other row fixup.address rising laid k h (omega (arith, at)) (omega (arith, at, reach, size, few_bytes m.files other)) (omega (arith, same)) (omega (arith, same, inside)) in
        let moved : row.address + reference.place ≡ row.address + r.place = ap (λ (w : PlacedWork). w.address + reference.place) (sym rows) ∙ sym one.at ∙ same in
        let of_row : In reference (refs_of m.files row) = subst (λ (w : PlacedWork). In reference (refs_of m.files w)) rows one.among in
        let is : fixup_of scene row reference ≡ Some fixup = subst (λ (w : PlacedWork). fixup_of scene w reference ≡ Some fixup) rows one.is in
        clash reference moved is (either Beside (refs_of m.files row) reference r (refs_beside m.files row (λ n d low. inl (whole n d low).refs)) of_row among)
      where
        overlap : (a b : Ref) → row.address + a.place ≡ row.address + b.place → Beside a b → ⊥
        overlap a b moved (inl before) = let size = some_size a.kind in omega arith
        overlap a b moved (inr behind) = let size = some_size b.kind in omega arith

        clash : (other : Ref) → row.address + other.place ≡ row.address + r.place → fixup_of (scene_of m of.layout) row other ≡ Some fixup → (other ≡ r) ⊎ (Beside other r ⊎ Beside r other) → ⊥
        clash other moved is (inl e) = absurd (let f : Some fixup ≡ None = sym is ∙ ap (fixup_of (scene_of m of.layout) row) e ∙ none in cc)
        clash other moved is (inr (inl apart)) = overlap other r moved apart
        clash other moved is (inr (inr apart)) = overlap r other (sym moved) apart
