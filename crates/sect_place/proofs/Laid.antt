-- How the loops go through the atoms of a section.
use Rattle.std.proofs.Common.{◌≡◌, ℕ, ◌+◌, ◌<◌, ◌≤◌, List, [], ◌∷◌, ◌++◌, length, get_or, drop, map, Some, None, refl, sym, subst, ◌∙◌, arith, add-one, drop-cons, append_assoc, append-nil}
use Rattle.std.specs.List.{find}
use Rattle.std.specs.Ordering.{is_eq}
use Rattle.std.proofs.lemmas.List.{drop_all}
use Rattle.mo_types.specs.Keys.{compare_keys}
use Rattle.mo_types.specs.declared.atom.Atom.{Atom}
use Rattle.mo_types.specs.declared.key.AtomKey.{AtomKey}
use Rattle.tlv_plan.specs.Template.{aligned, atoms_of, stand, end_of}
use Rattle.atom_index.proofs.Keys.{find_has}
use Rattle.tlv_plan.proofs.Walk.{aligned_least, after_end}
use Rattle.sect_place.specs.Places.{islands_bytes, bytes_behind, with_area, spaced, places}
use Rattle.sect_place.specs.inner.Room.{IsRoom, capped, capped_place}
use Rattle.sect_place.specs.declared.island.IslandArea.{IslandArea}
use Rattle.sect_place.specs.declared.layout.Placed.{Placed}

-- ---- areas

pub behind_some : (areas : List IslandArea) (unit : ℕ) (key : AtomKey) (area : IslandArea) → Some area ≡ find (λ (a : IslandArea). is_eq (compare_keys a.last key)) areas → islands_bytes unit (length area.targets) ≡ bytes_behind areas unit key
unfolding bytes_behind
behind_some areas unit key area e = rw (← e) refl

pub behind_none : (areas : List IslandArea) (unit : ℕ) (key : AtomKey) → None ≡ find (λ (a : IslandArea). is_eq (compare_keys a.last key)) areas → 0 ≡ bytes_behind areas unit key
unfolding bytes_behind
behind_none areas unit key e = rw (← e) refl

-- ---- atoms

spaced_skips : (kept : List Atom) (areas : List IslandArea) (unit : ℕ) (keys : List AtomKey) (i : ℕ) (key d : AtomKey) → i < length keys → key ≡ get_or keys i d → None ≡ find (λ (atom : Atom). is_eq (compare_keys atom.key key)) kept → spaced kept areas unit (drop i keys) ≡ spaced kept areas unit (drop (i + 1) keys)
unfolding spaced atoms_of
spaced_skips kept areas unit keys i key d within is none = rw (drop-cons keys i d, ← is, ← none, add-one) refl

spaced_more : (kept : List Atom) (areas : List IslandArea) (unit : ℕ) (keys : List AtomKey) (i : ℕ) (key d : AtomKey) (atom : Atom) → i < length keys → key ≡ get_or keys i d → Some atom ≡ find (λ (atom : Atom). is_eq (compare_keys atom.key key)) kept → spaced kept areas unit (drop i keys) ≡ with_area areas unit atom ∷ spaced kept areas unit (drop (i + 1) keys)
unfolding spaced atoms_of
spaced_more kept areas unit keys i key d atom within is some = rw (drop-cons keys i d, ← is, ← some, add-one) refl

none_spaced : (kept : List Atom) (areas : List IslandArea) (unit : ℕ) (keys : List AtomKey) → keys ≡ [] → spaced kept areas unit keys ≡ []
unfolding spaced atoms_of
none_spaced kept areas unit keys none = rw none refl

-- The addresses `now` of what came before, with those of the atoms that are left, from `at` on, are all, and the
-- last one ends at the end.
pub record Going (rest : List Atom) (at : ℕ) (now all : List Placed) (end : ℕ) : Type 0 where
  pub places_left : now ++ map capped_place (places (stand at rest)) ≡ all
  pub end_left : end_of at rest ≡ end

pub going_starts : (rest : List Atom) (at : ℕ) (now : List Placed) → Going rest at now (now ++ map capped_place (places (stand at rest))) (end_of at rest)
going_starts rest at now = record { places_left = refl; end_left = refl }

one_goes : (atom : Atom) (rest : List Atom) (at : ℕ) (now all : List Placed) (end : ℕ) → Going (atom ∷ rest) at now all end → Going rest (aligned atom.align at + atom.size) (now ++ record { atom = atom.key; address = capped (aligned atom.align at) } ∷ []) all end
unfolding stand end_of
one_goes atom rest at now all end going = record {
  places_left = append_assoc now (record { atom = atom.key; address = capped (aligned atom.align at) } ∷ []) (map capped_place (places (stand (aligned atom.align at + atom.size) rest))) ∙ going.places_left;
  end_left = going.end_left;
}

first_ends : (atom : Atom) (rest : List Atom) (at end : ℕ) → end_of at (atom ∷ rest) ≡ end → aligned atom.align at + atom.size ≤ end
unfolding end_of
first_ends atom rest at end is = let later = after_end (aligned atom.align at + atom.size) rest in omega arith

none_goes : (rest : List Atom) (at : ℕ) (now all : List Placed) (end : ℕ) → rest ≡ [] → Going rest at now all end → (now ≡ all) × (at ≡ end)
unfolding stand end_of
none_goes rest at now all end none going =
    let last = subst (λ (atoms : List Atom). Going atoms at now all end) none going in
    (sym (append-nil now) ∙ last.places_left, last.end_left)

pub going_skips : (kept : List Atom) (areas : List IslandArea) (unit : ℕ) (keys : List AtomKey) (i : ℕ) (key d : AtomKey) (at : ℕ) (now all : List Placed) (end : ℕ) → Going (spaced kept areas unit (drop i keys)) at now all end → i < length keys → key ≡ get_or keys i d → None ≡ find (λ (atom : Atom). is_eq (compare_keys atom.key key)) kept → Going (spaced kept areas unit (drop (i + 1) keys)) at now all end
going_skips kept areas unit keys i key d at now all end going within is none =
    subst (λ (atoms : List Atom). Going atoms at now all end) (spaced_skips kept areas unit keys i key d within is none) going

pub going_on : (kept : List Atom) (areas : List IslandArea) (unit : ℕ) (keys : List AtomKey) (i : ℕ) (key d : AtomKey) (atom : Atom) (at place behind address : ℕ) (now new all : List Placed) (end : ℕ) → Going (spaced kept areas unit (drop i keys)) at now all end → i < length keys → key ≡ get_or keys i d → Some atom ≡ find (λ (atom : Atom). is_eq (compare_keys atom.key key)) kept → atom.key ≡ key → place ≡ aligned atom.align at → behind ≡ bytes_behind areas unit key → address ≡ capped place → new ≡ now ++ record { atom = key; address = address } ∷ [] → Going (spaced kept areas unit (drop (i + 1) keys)) (place + (atom.size + behind)) new all end
going_on kept areas unit keys i key d atom at place behind address now new all end going within is some has rounded after narrow grown =
    let here = subst (λ (atoms : List Atom). Going atoms at now all end) (spaced_more kept areas unit keys i key d atom within is some) going in
    let next : Going (spaced kept areas unit (drop (i + 1) keys)) (aligned atom.align at + (atom.size + bytes_behind areas unit atom.key)) (now ++ record { atom = atom.key; address = capped (aligned atom.align at) } ∷ []) all end = one_goes (with_area areas unit atom) (spaced kept areas unit (drop (i + 1) keys)) at now all end here in
    rw (grown, narrow, rounded, after, ← has) next

pub going_room : (kept : List Atom) (areas : List IslandArea) (unit : ℕ) (keys : List AtomKey) (i : ℕ) (key d : AtomKey) (atom : Atom) (at : ℕ) (now all : List Placed) (end : ℕ) → Going (spaced kept areas unit (drop i keys)) at now all end → i < length keys → key ≡ get_or keys i d → Some atom ≡ find (λ (atom : Atom). is_eq (compare_keys atom.key key)) kept → atom.key ≡ key → (at ≤ aligned atom.align at) × (aligned atom.align at + (atom.size + bytes_behind areas unit key) ≤ end)
going_room kept areas unit keys i key d atom at now all end going within is some has =
    let here = subst (λ (atoms : List Atom). Going atoms at now all end) (spaced_more kept areas unit keys i key d atom within is some) going in
    let ends : aligned atom.align at + (atom.size + bytes_behind areas unit atom.key) ≤ end = first_ends (with_area areas unit atom) (spaced kept areas unit (drop (i + 1) keys)) at end here.end_left in
    ((aligned_least atom.align at).enough, subst (λ (k : AtomKey). aligned atom.align at + (atom.size + bytes_behind areas unit k) ≤ end) has ends)

pub going_ends : (kept : List Atom) (areas : List IslandArea) (unit : ℕ) (keys : List AtomKey) (i : ℕ) (at : ℕ) (now all : List Placed) (end : ℕ) → Going (spaced kept areas unit (drop i keys)) at now all end → length keys ≤ i → (now ≡ all) × (at ≡ end)
going_ends kept areas unit keys i at now all end going past =
    none_goes (spaced kept areas unit (drop i keys)) at now all end (none_spaced kept areas unit (drop i keys) (drop_all i keys past)) going

pub found_low : (kept : List Atom) (areas : List IslandArea) (unit : ℕ) (key : AtomKey) (atom : Atom) → IsRoom kept areas unit → Some atom ≡ find (λ (a : Atom). is_eq (compare_keys a.key key)) kept → (atom.key ≡ key) × (atom.align ≤ 14)
found_low kept areas unit key atom room some = find_has (λ (a : Atom). a.key) (λ (a : Atom). a.align ≤ 14) kept key atom (sym some) room.low
