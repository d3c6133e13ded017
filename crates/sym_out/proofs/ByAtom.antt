-- Tables by the places of atoms, when one atom gets another value.
use Rattle.std.proofs.Common.{◌≡◌, ◌≢◌, ℕ, ◌<◌, ◌⊎◌, List, length, get_or, sym, ap, subst, ◌∙◌, inl, inr, arith, Some, None}
use Rattle.std.specs.List.{All}
use Rattle.std.proofs.Math.ListN.{set}
use Rattle.std.proofs.lemmas.Bool.{cases_eq, cases_lt}
use Rattle.std.proofs.lemmas.List.{get_or-set_other, get_or-set_same, length-set}
use Rattle.atom_index.specs.Stands.{StandsAt}
use Rattle.mo_types.specs.declared.key.AtomKey.{AtomKey}
use Rattle.sect_place.specs.Addresses.{AreOnce, address_in}
use Rattle.sect_place.proofs.AddressLemmas.{address_is}
use Rattle.sect_place.proofs.Found.{holds_placed}
use Rattle.sect_place.specs.declared.layout.Placed.{Placed}
use Rattle.sym_out.specs.inner.Tables.{IsTableOf, atom_of}

pub another : (placed : List Placed) (atom : AtomKey) (at other : ℕ) (p : Placed) → AreOnce placed → StandsAt atom_of placed atom at → other < length placed → other ≢ at → (get_or placed other p).atom ≢ atom
another placed atom at other p once stands low differ same = elim (cases_lt other at) [
  | inl less ↦ once other at p less stands.within (same ∙ sym (stands.of_atom p))
  | inr more ↦ once at other p (omega (arith, more, differ)) low (stands.of_atom p ∙ sym same)
]

pub table_with : {Y Z : Type 0} (view : Y → Z) (f g : AtomKey → Z) (placed : List Placed) (table : List Y) (atom : AtomKey) (at : ℕ) (y : Y) → AreOnce placed → StandsAt atom_of placed atom at → IsTableOf view f placed table → view y ≡ g atom → ((other : AtomKey) → other ≢ atom → f other ≡ g other) → IsTableOf view g placed (set table at y)
table_with {Y} {Z} view f g placed table atom at y once stands is value same = record {
  size = length-set table at y ∙ is.size;
  each = λ k z p low. by k z p low (cases_eq k at);
}
  where
    by : (k : ℕ) (z : Y) (p : Placed) → k < length placed → (k ≡ at) ⊎ (k ≡ at → ⊥) → view (get_or (set table at y) k z) ≡ g (get_or placed k p).atom
    by k z p low (inl e) =
        let within : k < length table = omega (arith, low, is.size) in
        let here : get_or (set table at y) k z ≡ y = subst (λ (i : ℕ). get_or (set table i y) k z ≡ y) e (get_or-set_same table k y z within) in
        let there : (get_or placed k p).atom ≡ atom = subst (λ (i : ℕ). (get_or placed i p).atom ≡ atom) (sym e) (stands.of_atom p) in
        ap view here ∙ value ∙ ap g (sym there)
    by k z p low (inr differ) =
        ap view (get_or-set_other table at k y z differ) ∙ is.each k z p low ∙ same (get_or placed k p).atom (another placed atom at k p once stands low differ)

pub table_without : {Y Z : Type 0} (view : Y → Z) (f g : AtomKey → Z) (placed : List Placed) (table : List Y) (atom : AtomKey) → All (λ (p : Placed). p.atom ≢ atom) placed → IsTableOf view f placed table → ((other : AtomKey) → other ≢ atom → f other ≡ g other) → IsTableOf view g placed table
table_without view f g placed table atom none is same = record {
  size = is.size;
  each = λ k z p low. is.each k z p low ∙ same (get_or placed k p).atom (none k p low);
}

pub table_same : {Y Z : Type 0} (view : Y → Z) (f g : AtomKey → Z) (placed : List Placed) (table : List Y) → IsTableOf view f placed table → ((atom : AtomKey) → f atom ≡ g atom) → IsTableOf view g placed table
table_same view f g placed table is same = record {
  size = is.size;
  each = λ k z p low. is.each k z p low ∙ same (get_or placed k p).atom;
}

-- the value at the place of an atom
pub table_at : {Y Z : Type 0} (view : Y → Z) (f : AtomKey → Z) (placed : List Placed) (table : List Y) (atom : AtomKey) (at : ℕ) (y : Y) → StandsAt atom_of placed atom at → IsTableOf view f placed table → (p : Placed) → view (get_or table at y) ≡ f atom
table_at view f placed table atom at y stands is p = is.each at y p stands.within ∙ ap f (stands.of_atom p)

-- ---- addresses

pub stands_address : (placed : List Placed) (atom : AtomKey) (at : ℕ) (d : Placed) → AreOnce placed → StandsAt atom_of placed atom at → Some (get_or placed at d).address ≡ address_in placed atom
stands_address placed atom at d once stands =
    address_is placed atom (Some (get_or placed at d).address) once (holds_placed placed atom at d stands.within (stands.of_atom d))

pub no_address : (placed : List Placed) (atom : AtomKey) → AreOnce placed → All (λ (p : Placed). p.atom ≢ atom) placed → None ≡ address_in placed atom
no_address placed atom once none =
    address_is placed atom None once (λ address h. none h.0 (record { atom = atom; address = address }) h.1 (ap (λ (p : Placed). p.atom) h.2))
