-- The order of atoms ties just the same atoms, and what searches by it find.
use Rattle.std.proofs.Common.{◌≡◌, ℕ, zero, suc, ◌+◌, ◌<◌, ◌≤◌, ◌⊎◌, Bool, true, false, List, [], ◌∷◌, length, get_or, refl, sym, ap, subst, ◌∙◌, inl, inr, arith, Some, None}
use Rattle.std.specs.List.{AllAdjacentBelow, HoldsAt, find}
use Rattle.std.specs.List.Sorted.{IsStrictlySortedBy, IsSorted, IsNonDecreasingBy, IsPartitionPoint}
use Rattle.std.specs.declared.cmp.Ordering.{Ordering}
use Rattle.std.specs.declared.cmp.Ordering.TheVariants.{Less, Equal, Greater}
use Rattle.std.specs.Ordering.{nat_cmp, on, is_lt, is_eq, ordering_reverse, ordering_then, ordering_index}
use Rattle.std.specs.Cmp.{IsTotalOrder}
use Rattle.std.proofs.lemmas.Bool.{cases_lt}
use Rattle.std.proofs.lemmas.Cmp.{on_total, tied_itself}
use Rattle.std.proofs.lemmas.List.Sorted.{searchable_from_sorted}
use Rattle.list_lemmas.proofs.Members.{all_at, all_weaker}
use Rattle.list_lemmas.proofs.Rising.{rising_at}
use Rattle.list_lemmas.proofs.Ties.{tied_first, tied_second, same_number}
use Rattle.mo_types.specs.declared.key.AtomKey.{AtomKey}
use Rattle.mo_types.specs.Keys.{compare_files, compare_keys}
use Rattle.mo_types.proofs.KeyOrder.{compare_keys_total}

abbrev pub key_of : ℕ → ℕ → ℕ → ℕ → AtomKey
key_of p m s o = record { file = record { position = p; member = m }; section = s; offset = o }

pub same_fields : (p m s o p' m' s' o' : ℕ) → p ≡ p' → m ≡ m' → s ≡ s' → o ≡ o' → key_of p m s o ≡ key_of p' m' s' o'
same_fields p m s o p' m' s' o' e f g h = rw (e, f, g, h) refl

-- atoms that tie are the same one
pub same_key : (a b : AtomKey) → compare_keys a b ≡ Equal → a ≡ b
same_key a b e =
    let files = tied_first (compare_files a.file b.file) (ordering_then (nat_cmp a.section b.section) (nat_cmp a.offset b.offset)) e in
    let rest = tied_second (compare_files a.file b.file) (ordering_then (nat_cmp a.section b.section) (nat_cmp a.offset b.offset)) e in
    let p = same_number a.file.position b.file.position (tied_first (nat_cmp a.file.position b.file.position) (nat_cmp a.file.member b.file.member) files) in
    let m = same_number a.file.member b.file.member (tied_second (nat_cmp a.file.position b.file.position) (nat_cmp a.file.member b.file.member) files) in
    let s = same_number a.section b.section (tied_first (nat_cmp a.section b.section) (nat_cmp a.offset b.offset) rest) in
    let o = same_number a.offset b.offset (tied_second (nat_cmp a.section b.section) (nat_cmp a.offset b.offset) rest) in
    same_fields a.file.position a.file.member a.section a.offset b.file.position b.file.member b.section b.offset p m s o

-- ---- searches

pub sorted_from_rising : {K : Type 0} {R : K → K → Ordering} (o : IsTotalOrder R) (xs : List K) → IsStrictlySortedBy R xs → IsSorted R xs
sorted_from_rising {R = R} o xs h = λ k d low high.
    ap is_lt (o.antisymm (get_or xs (k + 1) d) (get_or xs k d) ∙ ap ordering_reverse (rising_at R xs k (k + 1) d h (omega arith) high))

-- what a search for a key answers: an element that has it, or no element has it
pub found_key : {X : Type 0} (key : X → AtomKey) (xs : List X) (k : AtomKey) (at : ℕ) (d : X) → HoldsAt (λ x. compare_keys (key x) k ≡ Equal) xs at → key (get_or xs at d) ≡ k
found_key key xs k at d holds = same_key (key (get_or xs at d)) k (holds d)

two_answers : Less ≡ Equal → ⊥
two_answers e = cc

two_others : Greater ≡ Equal → ⊥
two_others e = cc

pub no_key : {X : Type 0} (key : X → AtomKey) (xs : List X) (k : AtomKey) (at : ℕ) → IsSorted (on key compare_keys) xs → (IsNonDecreasingBy (λ x. ordering_index (compare_keys (key x) k)) xs → IsPartitionPoint (λ x. compare_keys (key x) k ≡ Less) (λ x. compare_keys (key x) k ≡ Greater) xs at) → (j : ℕ) (d : X) → j < length xs → compare_keys (key (get_or xs j d)) k ≡ Equal → ⊥
no_key {X = X} key xs k at sorted parted j d within equal = where_is (cases_lt j at)
  where
    parts : IsPartitionPoint (λ (x : X). compare_keys (key x) k ≡ Less) (λ (x : X). compare_keys (key x) k ≡ Greater) xs at
    parts = parted (searchable_from_sorted compare_keys_total key xs k sorted)

    where_is : (j < at) ⊎ (at ≤ j) → ⊥
    where_is (inl down) = let less = parts.0 j d (omega arith) down in two_answers (sym less ∙ equal)
    where_is (inr up) = let greater = parts.1 j d up within in two_others (sym greater ∙ equal)

-- the first element that has a key, where one has it and keys rise
pub find_found : {X : Type 0} (key : X → AtomKey) (xs : List X) (k : AtomKey) (at : ℕ) (d : X) → IsStrictlySortedBy (on key compare_keys) xs → at < length xs → key (get_or xs at d) ≡ k → find (λ x. is_eq (compare_keys (key x) k)) xs ≡ Some (get_or xs at d)
unfolding IsStrictlySortedBy
find_found key [] k at d h within is = absurd (omega arith)
find_found key (x ∷ xs) k zero d h within is =
    let here : is_eq (compare_keys (key x) k) ≡ true = rw is (ap is_eq (tied_itself compare_keys_total k)) in
    rw here refl
find_found {X = X} key (x ∷ xs) k (suc at) d h within is =
    let less : compare_keys (key x) (key (get_or xs at d)) ≡ Less = all_at (λ (y : X). compare_keys (key x) (key y) ≡ Less) xs at d h.0 (omega arith) in
    let away : is_eq (compare_keys (key x) k) ≡ false = ap is_eq (subst (λ (q : AtomKey). compare_keys (key x) q ≡ Less) is less) in
    rw away (find_found key xs k at d h.1 (omega arith) is)

not_equal : (r : Ordering) → (r ≡ Equal → ⊥) → is_eq r ≡ false
not_equal Less h = refl
not_equal Equal h = absurd (h refl)
not_equal Greater h = refl

pub find_missing : {X : Type 0} (key : X → AtomKey) (xs : List X) (k : AtomKey) → ((j : ℕ) (d : X) → j < length xs → compare_keys (key (get_or xs j d)) k ≡ Equal → ⊥) → find (λ x. is_eq (compare_keys (key x) k)) xs ≡ None
find_missing key [] k none = refl
find_missing key (x ∷ xs) k none =
    let away : is_eq (compare_keys (key x) k) ≡ false = not_equal (compare_keys (key x) k) (none 0 x (omega arith)) in
    rw away (find_missing key xs k (λ j d within. none (suc j) d (omega arith)))

pub is_equal : (r : Ordering) → is_eq r ≡ true → r ≡ Equal
is_equal Less e = cc
is_equal Equal e = refl
is_equal Greater e = cc

some_same : {X : Type 0} (x y : X) → Some x ≡ Some y → x ≡ y
some_same x y e = cc

-- what was found has the key, and what each element has
pub find_has : {X : Type 0} (key : X → AtomKey) (P : X → Type 0) (xs : List X) (k : AtomKey) (x : X) → find (λ y. is_eq (compare_keys (key y) k)) xs ≡ Some x → ((j : ℕ) (d : X) → j < length xs → P (get_or xs j d)) → (key x ≡ k) × P x
find_has key P [] k x e all = cc
find_has {X = X} key P (y ∷ ys) k x e all =
    by (λ later. find_has key P ys k x later (λ j d within. all (suc j) d (omega arith))) (is_eq (compare_keys (key y) k)) refl
  where
    by : (find (λ z. is_eq (compare_keys (key z) k)) ys ≡ Some x → (key x ≡ k) × P x) → (b : Bool) → is_eq (compare_keys (key y) k) ≡ b → (key x ≡ k) × P x
    by rest true is =
        let same : y ≡ x = some_same y x (rw is at e) in
        (ap key (sym same) ∙ same_key (key y) k (is_equal (compare_keys (key y) k) is), subst P same (all 0 y (omega arith)))
    by rest false is = rest (rw is at e)

-- ---- a list that was tested element by element

pub rises : {K : Type 0} {R : K → K → Ordering} (o : IsTotalOrder R) (xs : List K) → AllAdjacentBelow (λ x y. R x y ≡ Less) xs (length xs) → IsStrictlySortedBy R xs
unfolding IsStrictlySortedBy
rises o [] h = tt
rises o (x ∷ []) h = (tt, tt)
rises {K = K} {R = R} o (x ∷ y ∷ ys) h =
    let rest : IsStrictlySortedBy R (y ∷ ys) = rises o (y ∷ ys) (λ k d low. later k d low) in
    let first : R x y ≡ Less = h 0 x (omega arith) in
    ((first, all_weaker (λ z. R y z ≡ Less) (λ z. R x z ≡ Less) (λ z. o.trans x y z first) ys rest.0), rest)
  where
    later : (k : ℕ) (d : K) → k + 1 < length (y ∷ ys) → R (get_or (y ∷ ys) k d) (get_or (y ∷ ys) (k + 1) d) ≡ Less
    later k d low =
        let next : suc k + 1 ≡ suc (k + 1) = omega arith in
        subst (λ (n : ℕ). R (get_or (y ∷ ys) k d) (get_or (x ∷ y ∷ ys) n d) ≡ Less) next (h (suc k) d (omega arith))

pub rises_from : {X : Type 0} (key : X → AtomKey) (xs : List X) (i : ℕ) → AllAdjacentBelow (λ x y. compare_keys (key x) (key y) ≡ Less) xs i → length xs ≤ i → IsStrictlySortedBy (on key compare_keys) xs
rises_from key xs i h past = rises (on_total key compare_keys_total) xs (λ k d low. h k d (omega arith))
