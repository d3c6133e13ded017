-- Searches by binary search among what rises find the first that has a key, or tell that none has it.
use Rattle.std.proofs.Common.{◌≡◌, ℕ, zero, suc, ◌+◌, ◌<◌, ◌≤◌, ◌⊎◌, Bool, true, false, List, [], ◌∷◌, length, get_or, refl, sym, ap, ◌∙◌, inl, inr, arith, Some, None}
use Rattle.std.specs.List.{AllPairs, HoldsAt, find}
use Rattle.std.specs.List.Sorted.{IsNonDecreasingBy, IsPartitionPoint, IsSorted}
use Rattle.std.specs.Ordering.{is_eq, is_lt, on, ordering_index, ordering_reverse}
use Rattle.std.specs.declared.cmp.Ordering.{Ordering}
use Rattle.std.specs.declared.cmp.Ordering.TheVariants.{Less, Equal, Greater}
use Rattle.std.specs.Cmp.{IsTotalOrder}
use Rattle.std.proofs.lemmas.Bool.{cases_lt}
use Rattle.std.proofs.lemmas.List.Sorted.{searchable_from_sorted}
use Rattle.mo_types.proofs.KeyOrder.{compare_files_total}
use Rattle.mo_types.specs.Keys.{compare_files}
use Rattle.mo_types.specs.Loaded.{IsBefore}
use Rattle.mo_types.specs.declared.key.FileId.{FileId}
use Rattle.mo_types.specs.declared.loaded.LoadedFile.{LoadedFile}

pub find_first : {X : Type 0} (p : X → Bool) (xs : List X) (at : ℕ) (d : X) → at < length xs → p (get_or xs at d) ≡ true → ((j : ℕ) → j < at → p (get_or xs j d) ≡ false) → find p xs ≡ Some (get_or xs at d)
find_first p [] at d low hit before = absurd (omega (arith, low))
find_first p (x ∷ xs) zero d low hit before = rw hit refl
find_first p (x ∷ xs) (suc at) d low hit before = let first : p x ≡ false = before 0 (omega arith) in rw first (find_first p xs at d (omega (arith, low)) hit (λ j l. before (suc j) (omega (arith, l))))

pub find_nothing : {X : Type 0} (p : X → Bool) (xs : List X) → ((j : ℕ) (d : X) → j < length xs → p (get_or xs j d) ≡ false) → find p xs ≡ None
find_nothing p [] none = refl
find_nothing p (x ∷ xs) none = let first : p x ≡ false = none 0 x (omega arith) in rw first (find_nothing p xs (λ j d l. none (suc j) d (omega (arith, l))))

-- ---- keys that rise in a total order

abbrev pub Rises : {X K : Type 0} → (K → K → Ordering) → (X → K) → List X → Type 0
Rises R key xs = AllPairs (λ a b. R (key a) (key b) ≡ Less) xs

sorted : {X K : Type 0} {R : K → K → Ordering} (o : IsTotalOrder R) (key : X → K) (xs : List X) → Rises R key xs → IsSorted (on key R) xs
sorted {R = R} o key xs rises = λ k d low high.
    ap is_lt (o.antisymm (key (get_or xs (k + 1) d)) (key (get_or xs k d)) ∙ ap ordering_reverse (rises k (k + 1) d (omega arith) high))

-- what is below one that has a key is below the key
pub below : {K : Type 0} {R : K → K → Ordering} (o : IsTotalOrder R) (a b k : K) → R a b ≡ Less → R b k ≡ Equal → R a k ≡ Less
below {R = R} o a b k less equal =
    o.antisymm a k ∙ ap ordering_reverse (sym (o.congr b k a equal)) ∙ sym (o.antisymm a b) ∙ less

pub key_found : {X K : Type 0} {R : K → K → Ordering} (o : IsTotalOrder R) (key : X → K) (xs : List X) (k : K) (at : ℕ) (d : X) → Rises R key xs → at < length xs → HoldsAt (λ x. R (key x) k ≡ Equal) xs at → find (λ x. is_eq (R (key x) k)) xs ≡ Some (get_or xs at d)
key_found {R = R} o key xs k at d rises low holds =
    find_first (λ x. is_eq (R (key x) k)) xs at d low (ap is_eq (holds d))
    (λ j before. ap is_eq (below o (key (get_or xs j d)) (key (get_or xs at d)) k (rises j at d before low) (holds d)))

pub none_has : {X K : Type 0} {R : K → K → Ordering} (o : IsTotalOrder R) (key : X → K) (xs : List X) (k : K) (at : ℕ) → Rises R key xs → (IsNonDecreasingBy (λ x. ordering_index (R (key x) k)) xs → IsPartitionPoint (λ x. R (key x) k ≡ Less) (λ x. R (key x) k ≡ Greater) xs at) → (j : ℕ) (d : X) → j < length xs → is_eq (R (key (get_or xs j d)) k) ≡ false
none_has {X = X} {R = R} o key xs k at rises parted j d within = where_is (cases_lt j at)
  where
    parts : IsPartitionPoint (λ (x : X). R (key x) k ≡ Less) (λ (x : X). R (key x) k ≡ Greater) xs at
    parts = parted (searchable_from_sorted o key xs k (sorted o key xs rises))

    where_is : (j < at) ⊎ (at ≤ j) → is_eq (R (key (get_or xs j d)) k) ≡ false
    where_is (inl down) = ap is_eq (parts.0 j d (omega arith) down)
    where_is (inr up) = ap is_eq (parts.1 j d up within)

pub key_missing : {X K : Type 0} {R : K → K → Ordering} (o : IsTotalOrder R) (key : X → K) (xs : List X) (k : K) (at : ℕ) → Rises R key xs → (IsNonDecreasingBy (λ x. ordering_index (R (key x) k)) xs → IsPartitionPoint (λ x. R (key x) k ≡ Less) (λ x. R (key x) k ≡ Greater) xs at) → find (λ x. is_eq (R (key x) k)) xs ≡ None
key_missing {R = R} o key xs k at rises parted = find_nothing (λ x. is_eq (R (key x) k)) xs (none_has o key xs k at rises parted)

-- ---- files

abbrev id_of : LoadedFile → FileId
id_of file = file.id

pub file_found : (files : List LoadedFile) (id : FileId) (at : ℕ) (d : LoadedFile) → AllPairs (λ a b. IsBefore a.id b.id) files → at < length files → HoldsAt (λ file. compare_files file.id id ≡ Equal) files at → Some (get_or files at d) ≡ find (λ file. is_eq (compare_files file.id id)) files
file_found files id at d rises low holds = sym (key_found compare_files_total id_of files id at d rises low holds)

pub file_missing : (files : List LoadedFile) (id : FileId) (at : ℕ) → AllPairs (λ a b. IsBefore a.id b.id) files → (IsNonDecreasingBy (λ (file : LoadedFile). ordering_index (compare_files file.id id)) files → IsPartitionPoint (λ (file : LoadedFile). compare_files file.id id ≡ Less) (λ (file : LoadedFile). compare_files file.id id ≡ Greater) files at) → None ≡ find (λ file. is_eq (compare_files file.id id)) files
file_missing files id at rises parted = sym (key_missing compare_files_total id_of files id at rises parted)
