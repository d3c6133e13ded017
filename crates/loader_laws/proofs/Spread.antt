-- The kept atoms of an image stand apart.
use Rattle.std.proofs.Common.{◌≡◌, ◌≢◌, ℕ, ◌+◌, ◌-◌, ◌*◌, ◌<◌, ◌≤◌, ◌^◌, ◌⊎◌, inl, inr, List, [], ◌∷◌, length, get_or, map, Some, Contains, sym, ap, ◌∙◌, arith, subst}
use Rattle.std.specs.List.{AllPairs}
use Rattle.std.proofs.lemmas.Bool.{cases_order}
use Rattle.std.proofs.lemmas.Nat.{pow-add}
use Rattle.std.proofs.Math.Nat.{mul_assoc}
use Rattle.list_lemmas.proofs.Members.{Contains_from_in, In, from_filter_map, from_map, in_either}
use Rattle.mo_types.specs.declared.atom.Atom.{Atom}
use Rattle.mo_types.specs.declared.key.AtomKey.{AtomKey}
use Rattle.patch.proofs.LeastLemmas.{element_at}
use Rattle.patch.specs.declared.range.PlacedWork.{PlacedWork}
use Rattle.tlv_plan.specs.Template.{atoms_of, stand}
use Rattle.sect_place.specs.Addresses.{address_in}
use Rattle.sect_place.specs.Layout.{Plan, image_stand, plan_of}
use Rattle.sect_place.specs.Places.{area_unit, group_end, groups_stand, page_up, part_end, part_from, parts_stand, places, spaced, with_area}
use Rattle.sect_place.specs.declared.island.IslandArea.{IslandArea}
use Rattle.sect_place.specs.declared.layout.Layout.{Layout}
use Rattle.sect_place.specs.declared.layout.Placed.{Placed}
use Rattle.sect_place.specs.declared.part.Group.{Group}
use Rattle.sect_place.specs.declared.part.Part.{Part}
use Rattle.sect_place.proofs.Meaning.{image_apart, image_multiples, image_same}
use Rattle.sect_place.proofs.Positions.{finds, found_atom}
use Rattle.sect_list.specs.OutSections.{out_sections}
use Rattle.image_make.specs.Atoms.{atom_of, kept_at}
use Rattle.image_make.specs.Made.{IsLaid, ImageInputs, kept_of, plan_for, plan_with, rows_of}
use Rattle.image_make.specs.declared.kept.KeptAtom.{KeptAtom}
use Rattle.image_laws.specs.Means.{AreRising}
use Rattle.image_laws.proofs.Complete.{stand_from}
use Rattle.link_files.proofs.Lists.{some_is}
use Rattle.image_laws.proofs.Loading.{from_all}
use Rattle.image_make.proofs.LowLemmas.{in_layout, placed_found}
use Rattle.image_laws.proofs.Rowed.{find_mapped, row_in}
use Rattle.image_laws.proofs.Spots.{spot}

-- ---- members of a list whose elements stand in pairs

pub in_pairs : {X : Type 0} (R : X → X → Type 0) (xs : List X) (x y : X) → AllPairs R xs → In x xs → In y xs → (x ≡ y → ⊥) → R x y ⊎ R y x
in_pairs {X = X} R xs x y pairs h k differ = by (Contains_from_in xs x h) (Contains_from_in xs y k)
  where
    turn : (i j : ℕ) (a b : X) → i < j → j < length xs → get_or xs i a ≡ a → get_or xs j b ≡ b → R a b
    turn i j a b less within is_a is_b =
        let second : get_or xs j a ≡ b = element_at xs j a b within ∙ is_b in
        subst (λ (z : X). R a z) second (subst (λ (z : X). R z (get_or xs j a)) is_a (pairs i j a less within))

    by : Contains xs x → Contains xs y → R x y ⊎ R y x
    by (i, low, is_x) (j, high, is_y) = elim (cases_order i j) [
      | inl equal ↦ absurd (differ (sym is_x ∙ subst (λ (n : ℕ). get_or xs n x ≡ y) (sym equal) (element_at xs j x y high ∙ is_y)))
      | inr apart ↦ elim apart [
        | inl less ↦ inl (turn i j x y less high is_x is_y)
        | inr more ↦ inr (turn j i y x more low is_y is_x)
      ]
    ]

-- ---- atoms with what stands behind them

-- a place is that of an atom of some keys
abbrev IsOf : (List AtomKey → List Atom) → Atom × ℕ → Type 0
IsOf atoms p = (keys : List AtomKey) × In p.0 (atoms keys)

parts_of : (atoms : List AtomKey → List Atom) (at : ℕ) (parts : List Part) (p : Atom × ℕ) → In p (parts_stand atoms at parts) → IsOf atoms p
unfolding parts_stand
parts_of atoms at [] p h = absurd h
parts_of atoms at (part ∷ parts) p h = by (in_either (stand (part_from at part) (atoms part.section.atoms)) (parts_stand atoms (part_end atoms at part) parts) p h) (parts_of atoms (part_end atoms at part) parts p)
  where
    by : In p (stand (part_from at part) (atoms part.section.atoms)) ⊎ In p (parts_stand atoms (part_end atoms at part) parts) → (In p (parts_stand atoms (part_end atoms at part) parts) → IsOf atoms p) → IsOf atoms p
    by (inl here) rest = (part.section.atoms, stand_from (part_from at part) (atoms part.section.atoms) p here)
    by (inr there) rest = rest there

groups_of : (atoms : List AtomKey → List Atom) (at lead : ℕ) (groups : List Group) (p : Atom × ℕ) → In p (groups_stand atoms at lead groups) → IsOf atoms p
unfolding groups_stand
groups_of atoms at lead [] p h = absurd h
groups_of atoms at lead (group ∷ groups) p h = by (in_either (parts_stand atoms (at + lead) group.parts) (groups_stand atoms next 0 groups) p h) (groups_of atoms next 0 groups p)
  where
    next : ℕ
    next = page_up (group_end atoms at lead group)

    by : In p (parts_stand atoms (at + lead) group.parts) ⊎ In p (groups_stand atoms next 0 groups) → (In p (groups_stand atoms next 0 groups) → IsOf atoms p) → IsOf atoms p
    by (inl here) rest = parts_of atoms (at + lead) group.parts p here
    by (inr there) rest = rest there

image_of : (plan : Plan) (p : Atom × ℕ) → In p (image_stand plan) → IsOf plan.atoms p
unfolding image_stand
image_of plan p h = groups_of plan.atoms plan.base plan.lead plan.groups p h

-- an atom with what stands behind it is the kept one of its key
spread_is : (kept : List Atom) (areas : List IslandArea) (unit : ℕ) (keys : List AtomKey) (spread own : Atom) → In spread (spaced kept areas unit keys) → finds kept spread.key ≡ Some own → with_area areas unit own ≡ spread
unfolding spaced atoms_of
spread_is kept areas unit keys spread own h is =
    let made = from_map (with_area areas unit) (atoms_of kept keys) spread h in
    let of_key = from_filter_map (finds kept) keys made.0 made.1 in
    let named : made.0.key ≡ of_key.0 = (found_atom kept of_key.0 made.0 of_key.2).0 in
    let key : spread.key ≡ of_key.0 = ap (λ (a : Atom). a.key) (sym made.2) ∙ named in
    let same : made.0 ≡ own = some_is made.0 own (sym of_key.2 ∙ ap (finds kept) (sym key) ∙ is) in
    ap (with_area areas unit) (sym same) ∙ made.2

-- ---- where a kept atom stands

-- the place of a kept atom with what stands behind it
pub record IsSpread (m : ImageInputs) (key : AtomKey) (kept : Atom) (address : ℕ) : Type 0 where
  pub place : Atom × ℕ
  pub among : In place (image_stand (plan_for m))
  pub named : place.0.key ≡ key
  pub at : place.1 ≡ address
  pub room : kept.size ≤ place.0.size
  pub align : kept.align ≡ place.0.align

pub spread_of : (m : ImageInputs) (layout : Layout) (key : AtomKey) (kept : KeptAtom) (address : ℕ) → IsLaid m layout → kept_at (kept_of m) key ≡ Some kept → address_in layout.placed key ≡ Some address → IsSpread m key kept.atom address
unfolding plan_with plan_of
spread_of m layout key kept address laid known stood =
    let atoms = map atom_of (kept_of m) in
    let plan = plan_for m in
    let found = placed_found layout.placed key address stood in
    let there : In found.0 (places (image_stand plan)) = subst (λ (ps : List Placed). In found.0 ps) (image_same plan) (in_layout m layout found.0 laid found.1) in
    let spots : (q : Atom × ℕ) × In q (image_stand plan) × (spot q.0 q.1 ≡ found.0) = from_map (λ (q : Atom × ℕ). spot q.0 q.1) (image_stand plan) found.0 there in
    let named : spots.0.0.key ≡ key = ap (λ (p : Placed). p.atom) spots.2 ∙ found.2 in
    let of_keys = image_of plan spots.0 spots.1 in
    let own = find_mapped (kept_of m) key kept known in
    let unit = area_unit (out_sections m.files atoms) in
    let is : with_area m.islands.areas unit kept.atom ≡ spots.0.0 = spread_is atoms m.islands.areas unit of_keys.0 spots.0.0 kept.atom of_keys.1 (ap (finds atoms) named ∙ own) in
    let size : (with_area m.islands.areas unit kept.atom).size ≡ spots.0.0.size = ap (λ (a : Atom). a.size) is in
    record {
      place = spots.0;
      among = spots.1;
      named = named;
      at = ap (λ (p : Placed). p.address) spots.2 ∙ found.3;
      room = omega arith;
      align = ap (λ (a : Atom). a.align) is;
    }

pub stand_apart : (m : ImageInputs) (a b : AtomKey) (one other : Atom) (x y : ℕ) → IsSpread m a one x → IsSpread m b other y → a ≢ b → (x + one.size ≤ y) ⊎ (y + other.size ≤ x)
stand_apart m a b one other x y first second differ =
    by (in_pairs (λ (p : Atom × ℕ) (q : Atom × ℕ). p.1 + p.0.size ≤ q.1) (image_stand (plan_for m)) first.place second.place (image_apart (plan_for m)) first.among second.among
    (λ e. differ (sym first.named ∙ ap (λ (p : Atom × ℕ). p.0.key) e ∙ second.named)))
  where
    by : (first.place.1 + first.place.0.size ≤ second.place.1) ⊎ (second.place.1 + second.place.0.size ≤ first.place.1) → (x + one.size ≤ y) ⊎ (y + other.size ≤ x)
    by (inl before) = inl (omega (arith, before, first.at, second.at, first.room))
    by (inr behind) = inr (omega (arith, behind, first.at, second.at, second.room))

-- a multiple of its alignment, and of any less
multiple : (address count align less : ℕ) → less ≤ align → address ≡ count * 2 ^ align → (n : ℕ) × (address ≡ n * 2 ^ less)
multiple address count align less below is =
    let parts : 2 ^ (align - less) * 2 ^ less ≡ 2 ^ align = sym (pow-add 2 (align - less) less) ∙ ap (λ (n : ℕ). 2 ^ n) (let e : align - less + less ≡ align = omega (arith, below) in e) in
    (count * 2 ^ (align - less), is ∙ ap (λ (n : ℕ). count * n) (sym parts) ∙ sym (mul_assoc count (2 ^ (align - less)) (2 ^ less)))

pub stands_aligned : (m : ImageInputs) (key : AtomKey) (kept : Atom) (address align : ℕ) → IsSpread m key kept address → align ≤ kept.align → (count : ℕ) × (address ≡ count * 2 ^ align)
stands_aligned m key kept address align is below =
    let even = from_all (λ (p : Atom × ℕ). (count : ℕ) × (p.1 ≡ count * 2 ^ p.0.align)) (image_stand (plan_for m)) is.place (image_multiples (plan_for m)) is.among in
    multiple address even.0 kept.align align below (sym is.at ∙ even.1 ∙ ap (λ (n : ℕ). even.0 * 2 ^ n) (sym is.align))

-- a row's atom
pub row_spread : (m : ImageInputs) (layout : Layout) (row : PlacedWork) → AreRising m → IsLaid m layout → In row (rows_of m layout) → IsSpread m row.atom.key row.atom row.address
row_spread m layout row rising laid h =
    let one = row_in m layout row rising laid h in
    let atom : one.kept.atom ≡ row.atom = ap (λ (r : PlacedWork). r.atom) one.is in
    let named : one.kept.atom.key ≡ one.key = (found_atom (map atom_of (kept_of m)) one.key one.kept.atom (find_mapped (kept_of m) one.key one.kept one.known)).0 in
    let key : one.key ≡ row.atom.key = sym named ∙ ap (λ (a : Atom). a.key) atom in
    subst (λ (a : Atom). IsSpread m row.atom.key a row.address) atom (spread_of m layout row.atom.key one.kept row.address laid (subst (λ (k : AtomKey). kept_at (kept_of m) k ≡ Some one.kept) key one.known) one.stood)
