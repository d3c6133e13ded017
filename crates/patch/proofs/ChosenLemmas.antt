-- Options that are there, tests, and elements that are chosen by their numbers.
use Rattle.std.proofs.Common.{◌≡◌, ℕ, zero, suc, ◌+◌, ◌<◌, ◌≤◌, ◌⊎◌, Bool, true, false, ◌&&◌, ◌||◌, not, List, [], ◌∷◌, ◌++◌, length, map, get_or, Option, Some, None, inl, inr, refl, sym, ap, ◌∙◌, subst, arith}
use Rattle.std.specs.Prelude.{nat_lt, slice_get, option_and_then}
use Rattle.std.specs.List.{AllPairs, filter, filter_map, list_any, range_with_len}
use Rattle.std.specs.Option.{option_map}
use Rattle.std.proofs.lemmas.Bool.{cases_Bool, false≢true, ltb-false, ltb-true}
use Rattle.std.proofs.lemmas.List.Elements.{All-from_recursion}
use Rattle.std.proofs.lemmas.List.Kept.{AllPairs-cons}
use Rattle.list_lemmas.proofs.Members.{In, all_from_in, any_from_in, from_filter, from_filter_map, from_map, in_either, in_filter_map}
use Rattle.mo_types.specs.Rows.{when}

pub some_is : {X : Type 0} (x y : X) → Some x ≡ Some y → x ≡ y
some_is x y e = cc

pub no_some : {X : Type 0} {Y : Type 0} (x : X) → None ≡ Some x → Y
no_some x e = absurd cc

not_none : {X : Type 0} {Y : Type 0} (x : X) → Some x ≡ None → Y
not_none x e = absurd cc

-- ---- options

pub from_then : {X Y : Type 0} (f : X → Option Y) (o : Option X) (y : Y) → option_and_then f o ≡ Some y → (x : X) × (o ≡ Some x) × (f x ≡ Some y)
from_then f None y e = no_some y e
from_then f (Some x) y e = (x, refl, e)

pub from_mapped : {X Y : Type 0} (f : X → Y) (o : Option X) (y : Y) → option_map f o ≡ Some y → (x : X) × (o ≡ Some x) × (f x ≡ y)
from_mapped f None y e = no_some y e
from_mapped f (Some x) y e = (x, refl, some_is (f x) y e)

pub not_mapped : {X Y : Type 0} (f : X → Y) (o : Option X) → option_map f o ≡ None → o ≡ None
not_mapped f None e = refl
not_mapped f (Some x) e = not_none (f x) e

pub from_when : {X : Type 0} (b : Bool) (x y : X) → when b x ≡ Some y → (b ≡ true) × (x ≡ y)
from_when true x y e = (refl, some_is x y e)
from_when false x y e = no_some y e

pub not_when : {X : Type 0} (b : Bool) (x : X) → when b x ≡ None → b ≡ false
not_when true x e = not_none x e
not_when false x e = refl

-- ---- tests

pub neither : (a b : Bool) → (a || b) ≡ false → (a ≡ false) × (b ≡ false)
neither true b e = absurd (false≢true (sym e))
neither false b e = (refl, e)

pub both : (a b : Bool) → (a && b) ≡ true → (a ≡ true) × (b ≡ true)
both true b e = (refl, e)
both false b e = absurd (false≢true e)

pub not_false : (b : Bool) → not b ≡ false → b ≡ true
not_false true e = refl
not_false false e = absurd (false≢true (sym e))

pub not_true : (b : Bool) → not b ≡ true → b ≡ false
not_true true e = absurd (false≢true e)
not_true false e = refl

pub none_passes : {X : Type 0} (t : X → Bool) (xs : List X) (x : X) → list_any t xs ≡ false → In x xs → t x ≡ false
none_passes t xs x e h = elim (cases_Bool (t x)) [
  | inl passes ↦ absurd (false≢true (sym e ∙ any_from_in t xs x h passes))
  | inr fails ↦ fails
]

-- ---- lists

pub in_slice : {X : Type 0} (xs : List X) (k : ℕ) (x : X) → slice_get xs k ≡ Some x → In x xs
in_slice [] k x e = no_some x e
in_slice (y ∷ ys) zero x e = inl (some_is y x e)
in_slice (y ∷ ys) (suc k) x e = inr (in_slice ys k x e)

pub in_range : (a n k : ℕ) → a ≤ k → k < a + n → In k (range_with_len a n)
in_range a zero k low high = absurd (omega (arith, low, high))
in_range a (suc n) k low high = by (nat_lt a k) refl (λ less. in_range (a + 1) n k (omega (arith, less)) (omega (arith, high)))
  where
    by : (b : Bool) → nat_lt a k ≡ b → (a < k → In k (range_with_len (a + 1) n)) → In k (range_with_len a (suc n))
    by true less rest = inr (rest (ltb-true a k less))
    by false least rest = let from : k ≤ a = ltb-false a k least in inl (omega (arith, low, from))

pub from_range : (a n k : ℕ) → In k (range_with_len a n) → (a ≤ k) × (k < a + n)
from_range a zero k h = absurd h
from_range a (suc n) k (inl e) = (omega (arith, e), omega (arith, e))
from_range a (suc n) k (inr h) = let rest = from_range (a + 1) n k h in (omega (arith, rest.0), omega (arith, rest.1))

pub none_chosen : {X Y : Type 0} (f : X → Option Y) (xs : List X) (x : X) → filter_map f xs ≡ [] → In x xs → f x ≡ None
none_chosen {Y = Y} f xs x none h = by (f x) refl
  where
    by : (o : Option Y) → f x ≡ o → f x ≡ None
    by None e = e
    by (Some y) e = absurd (subst (λ (ys : List Y). In y ys) none (in_filter_map f xs x y h e))

pub both_empty : {X : Type 0} (xs ys : List X) → xs ++ ys ≡ [] → (xs ≡ []) × (ys ≡ [])
both_empty [] ys e = (refl, e)
both_empty (x ∷ xs) ys e = absurd cc

-- ---- what holds of each element and each later one

abbrev pub Pairs : {X : Type 0} → (X → X → Type 0) → List X → Type 0
Pairs R [] = Unit {0}
Pairs {X = X} R (x ∷ xs) = ((y : X) → In y xs → R x y) × Pairs R xs

pub pairs_join : {X : Type 0} (R : X → X → Type 0) (xs ys : List X) → Pairs R xs → Pairs R ys → ((x y : X) → In x xs → In y ys → R x y) → Pairs R (xs ++ ys)
pairs_join R [] ys first second cross = second
pairs_join {X = X} R (x ∷ xs) ys first second cross = (behind, pairs_join R xs ys first.1 second (λ a b h k. cross a b (inr h) k))
  where
    behind : (y : X) → In y (xs ++ ys) → R x y
    behind y h = elim (in_either xs ys y h) [
      | inl here ↦ first.0 y here
      | inr there ↦ cross x y (inl refl) there
    ]

pub pairs_filter : {X : Type 0} (R : X → X → Type 0) (t : X → Bool) (xs : List X) → Pairs R xs → Pairs R (filter t xs)
pairs_filter R t [] pairs = tt
pairs_filter R t (x ∷ xs) pairs = by (pairs_filter R t xs pairs.1) (t x) refl
  where
    by : Pairs R (filter t xs) → (b : Bool) → t x ≡ b → Pairs R (filter t (x ∷ xs))
    by rest true e = rw e ((λ y h. pairs.0 y (from_filter t xs y h).0), rest)
    by rest false e = rw e rest

pub pairs_map : {X Y : Type 0} (f : X → Y) (S : Y → Y → Type 0) (xs : List X) → Pairs (λ a b. S (f a) (f b)) xs → Pairs S (map f xs)
pairs_map f S [] pairs = tt
pairs_map {Y = Y} f S (x ∷ xs) pairs = ((λ y h. let m = from_map f xs y h in subst (λ (z : Y). S (f x) z) m.2 (pairs.0 m.0 m.1)), pairs_map f S xs pairs.1)

pub pairs_weaker : {X : Type 0} (R S : X → X → Type 0) (xs : List X) → ((x y : X) → In x xs → In y xs → R x y → S x y) → Pairs R xs → Pairs S xs
pairs_weaker R S [] leads pairs = tt
pairs_weaker R S (x ∷ xs) leads pairs = ((λ y h. leads x y (inl refl) (inr h) (pairs.0 y h)), pairs_weaker R S xs (λ a b h k. leads a b (inr h) (inr k)) pairs.1)

pub all_pairs : {X : Type 0} (R : X → X → Type 0) (xs : List X) → Pairs R xs → AllPairs R xs
all_pairs R [] pairs = λ i j d low high. absurd (omega arith)
all_pairs R (x ∷ xs) pairs = AllPairs-cons R x xs (All-from_recursion (R x) xs (all_from_in (R x) xs pairs.0)) (all_pairs R xs pairs.1)

-- elements that are chosen by rising numbers
pub pairs_chosen : {X : Type 0} (R : X → X → Type 0) (g : ℕ → Option X) (a n : ℕ) → ((i j : ℕ) (x y : X) → a ≤ i → i < j → j < a + n → g i ≡ Some x → g j ≡ Some y → R x y) → Pairs R (filter_map g (range_with_len a n))
pairs_chosen R g a zero each = tt
pairs_chosen {X = X} R g a (suc n) each = by (pairs_chosen R g (a + 1) n (λ i j x y low less high. each i j x y (omega arith) less (omega arith))) (g a) refl
  where
    by : Pairs R (filter_map g (range_with_len (a + 1) n)) → (o : Option X) → g a ≡ o → Pairs R (filter_map g (range_with_len a (suc n)))
    by rest None e = rw e rest
    by rest (Some x) e = rw e (behind, rest)
      where
        behind : (y : X) → In y (filter_map g (range_with_len (a + 1) n)) → R x y
        behind y h =
            let m = from_filter_map g (range_with_len (a + 1) n) y h in
            let within = from_range (a + 1) n m.0 m.1 in
            each a m.0 x y (omega arith) (omega (arith, within.0)) (omega (arith, within.1)) e m.2
