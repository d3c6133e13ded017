-- How many elements of a list pass a test, and what that tells of atoms and groups.
use Rattle.std.proofs.Common.{◌≡◌, ℕ, zero, suc, ◌+◌, ◌<◌, ◌≤◌, ◌⊎◌, Bool, true, false, cond, List, [], ◌∷◌, length, count_by, refl, sym, ap, ◌∙◌, inl, inr, arith}
use Rattle.std.specs.List.Sorted.{IsPartitionPoint}
use Rattle.std.specs.Ordering.{is_lt, ordering_reverse}
use Rattle.std.specs.declared.cmp.Ordering.{Ordering}
use Rattle.std.specs.declared.cmp.Ordering.TheVariants.{Less, Equal, Greater}
use Rattle.std.proofs.lemmas.Bool.{cases_Bool, false≢true}
use Rattle.std.proofs.lemmas.List.Sums.{sum_by-append}
use Rattle.mo_types.proofs.KeyOrder.{compare_keys_total}
use Rattle.mo_types.specs.Keys.{compare_keys}
use Rattle.mo_types.specs.declared.key.AtomKey.{AtomKey}
use Rattle.atom_index.proofs.Keys.{same_key}
use Rattle.islands.specs.Text.{groups_before}

pub count_cons : {X : Type 0} (p : X → Bool) (x : X) (xs : List X) → count_by p (x ∷ xs) ≡ cond (p x) 1 0 + count_by p xs
count_cons p x xs = sum_by-append (λ y. cond (p y) 1 0) (x ∷ []) xs ∙ omega arith

count_yes : {X : Type 0} (p : X → Bool) (x : X) (xs : List X) → p x ≡ true → count_by p (x ∷ xs) ≡ 1 + count_by p xs
count_yes p x xs e = count_cons p x xs ∙ ap (λ (b : Bool). cond b 1 0 + count_by p xs) e

count_no : {X : Type 0} (p : X → Bool) (x : X) (xs : List X) → p x ≡ false → count_by p (x ∷ xs) ≡ count_by p xs
count_no p x xs e = count_cons p x xs ∙ (ap (λ (b : Bool). cond b 1 0 + count_by p xs) e ∙ omega arith)

-- up to a place all pass, and from there on none
pub count_to : {X : Type 0} (t : X → Bool) (xs : List X) (at : ℕ) → at ≤ length xs → IsPartitionPoint (λ x. t x ≡ true) (λ x. t x ≡ false) xs at → count_by t xs ≡ at
count_to t [] at low is = omega (arith, low)
count_to t (x ∷ xs) zero low is =
    let rest = count_to t xs 0 (omega arith) ((λ k d up within. absurd (omega (arith, within))), (λ k d up within. is.1 (suc k) d (omega arith) (omega (arith, within)))) in
    count_no t x xs (is.1 0 x (omega arith) (omega arith)) ∙ rest
count_to t (x ∷ xs) (suc at) low is =
    let rest = count_to t xs at (omega (arith, low)) ((λ k d up within. is.0 (suc k) d (omega arith) (omega (arith, within))), (λ k d up within. is.1 (suc k) d (omega (arith, up)) (omega (arith, within)))) in
    count_yes t x xs (is.0 0 x (omega arith) (omega arith)) ∙ omega (arith, rest)

pub count_mono : {X : Type 0} (t u : X → Bool) (xs : List X) → ((x : X) → t x ≡ true → u x ≡ true) → count_by t xs ≤ count_by u xs
count_mono t u [] f = omega arith
count_mono t u (x ∷ xs) f = by (count_mono t u xs f) (cases_Bool (t x)) (cases_Bool (u x))
  where
    by : count_by t xs ≤ count_by u xs → (t x ≡ true) ⊎ (t x ≡ false) → (u x ≡ true) ⊎ (u x ≡ false) → count_by t (x ∷ xs) ≤ count_by u (x ∷ xs)
    by rest (inl e) (inl g) = omega (arith, rest, count_yes t x xs e, count_yes u x xs g)
    by rest (inl e) (inr g) = absurd (false≢true (sym g ∙ f x e))
    by rest (inr e) (inl g) = omega (arith, rest, count_no t x xs e, count_yes u x xs g)
    by rest (inr e) (inr g) = omega (arith, rest, count_no t x xs e, count_no u x xs g)

-- ---- atoms

pub is_less : (o : Ordering) → is_lt o ≡ true → o ≡ Less
is_less Less e = refl
is_less Equal e = absurd (false≢true e)
is_less Greater e = absurd (false≢true e)

before_both : (last a b : AtomKey) → compare_keys a b ≡ Less → is_lt (compare_keys last a) ≡ true → is_lt (compare_keys last b) ≡ true
before_both last a b less e = ap is_lt (compare_keys_total.trans last a b (is_less (compare_keys last a) e) less)

-- an atom before which are fewer groups is before the other
pub fewer_before : (lasts : List AtomKey) (a b : AtomKey) → groups_before lasts a < groups_before lasts b → compare_keys a b ≡ Less
fewer_before lasts a b low = by (compare_keys a b) refl
  where
    by : (o : Ordering) → compare_keys a b ≡ o → compare_keys a b ≡ Less
    by Less e = e
    by Equal e = absurd (omega (arith, low, ap (groups_before lasts) (same_key a b e)))
    by Greater e =
        let back : compare_keys b a ≡ Less = compare_keys_total.antisymm b a ∙ ap ordering_reverse e in
        let less = count_mono (λ (last : AtomKey). is_lt (compare_keys last b)) (λ (last : AtomKey). is_lt (compare_keys last a)) lasts (λ last e. before_both last b a back e) in
        absurd (omega (arith, low, less))
