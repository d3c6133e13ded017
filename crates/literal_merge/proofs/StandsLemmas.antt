-- A search among what stands for literals finds that of a literal.
use Rattle.std.proofs.Common.{◌≡◌, ℕ, zero, suc, ◌<◌, Bool, true, false, List, [], ◌∷◌, length, get_or, refl, sym, ap, subst, arith, Some, None}
use Rattle.std.specs.List.{HoldsAt, find}
use Rattle.std.specs.List.Sorted.{IsNonDecreasingBy, IsPartitionPoint}
use Rattle.std.specs.Ordering.{is_eq, on, ordering_index}
use Rattle.std.specs.declared.cmp.Ordering.{Ordering}
use Rattle.std.specs.declared.cmp.Ordering.TheVariants.{Less, Equal, Greater}
use Rattle.std.proofs.lemmas.Cmp.{on_total}
use Rattle.list_lemmas.proofs.Rising.{rising_at}
use Rattle.mo_types.specs.Keys.{compare_keys}
use Rattle.mo_types.specs.declared.key.AtomKey.{AtomKey}
use Rattle.mo_types.proofs.KeyOrder.{compare_keys_total}
use Rattle.atom_index.proofs.Keys.{found_key, no_key, sorted_from_rising}
use Rattle.literal_merge.specs.Standing.{literal_at}
use Rattle.literal_merge.specs.declared.representative.Representative.{Representative}
use Rattle.literal_merge.specs.inner.Literals.{AreInOrder, literal_key}

find_at : {X : Type 0} (p : X → Bool) (xs : List X) (at : ℕ) (d : X) → at < length xs → p (get_or xs at d) ≡ true → ((j : ℕ) → j < at → p (get_or xs j d) ≡ false) → find p xs ≡ Some (get_or xs at d)
find_at p [] at d low hit before = absurd (omega (arith, low))
find_at p (x ∷ xs) zero d low hit before = rw hit refl
find_at p (x ∷ xs) (suc at) d low hit before = let first : p x ≡ false = before 0 (omega arith) in rw first (find_at p xs at d (omega (arith, low)) hit (λ j l. before (suc j) (omega (arith, l))))

find_absent : {X : Type 0} (p : X → Bool) (xs : List X) → ((j : ℕ) (d : X) → j < length xs → p (get_or xs j d) ≡ false) → find p xs ≡ None
find_absent p [] none = refl
find_absent p (x ∷ xs) none = let first : p x ≡ false = none 0 x (omega arith) in rw first (find_absent p xs (λ j d l. none (suc j) d (omega (arith, l))))

not_equal : (o : Ordering) → (o ≡ Equal → ⊥) → is_eq o ≡ false
not_equal Less h = refl
not_equal Equal h = absurd (h refl)
not_equal Greater h = refl

is_less : (o : Ordering) → o ≡ Less → is_eq o ≡ false
is_less o e = ap is_eq e

pub literal_found : (literals : List Representative) (key : AtomKey) (at : ℕ) (d : Representative) → AreInOrder literals → at < length literals → HoldsAt (λ r. compare_keys (literal_key r) key ≡ Equal) literals at → Some (get_or literals at d) ≡ literal_at literals key
literal_found literals key at d rise low holds =
    let same : literal_key (get_or literals at d) ≡ key = found_key literal_key literals key at d holds in
    let found_it : find (λ r. is_eq (compare_keys r.literal key)) literals ≡ Some (get_or literals at d) =
    find_at (λ r. is_eq (compare_keys r.literal key)) literals at d low (ap is_eq (holds d))
    (λ j before. is_less (compare_keys (literal_key (get_or literals j d)) key) (subst (λ (k : AtomKey). compare_keys (literal_key (get_or literals j d)) k ≡ Less) same (rising_at (on literal_key compare_keys) literals j at d rise.rise before low))) in
    sym found_it

pub literal_missing : (literals : List Representative) (key : AtomKey) (at : ℕ) → AreInOrder literals → (IsNonDecreasingBy (λ r. ordering_index (compare_keys (literal_key r) key)) literals → IsPartitionPoint (λ r. compare_keys (literal_key r) key ≡ Less) (λ r. compare_keys (literal_key r) key ≡ Greater) literals at) → None ≡ literal_at literals key
literal_missing literals key at rise parted =
    let none : find (λ r. is_eq (compare_keys r.literal key)) literals ≡ None =
    find_absent (λ r. is_eq (compare_keys r.literal key)) literals
    (λ j d low. not_equal (compare_keys (literal_key (get_or literals j d)) key) (λ equal. no_key literal_key literals key at (sorted_from_rising (on_total literal_key compare_keys_total) literals rise.rise) parted j d low equal)) in
    sym none
