-- Members of lists that are numbered, chosen or searched, options that are there, and what ties in an order.
use Rattle.std.proofs.Common.{◌≡◌, ◌≢◌, ℕ, zero, suc, ◌+◌, ◌<◌, ◌≤◌, Bool, true, false, ◌&&◌, ◌||◌, List, [], ◌∷◌, ◌++◌, Option, Some, None, inl, inr, refl, sym, ap, ◌∙◌, subst, arith}
use Rattle.std.specs.Prelude.{nat_lt, slice_get, option_and_then}
use Rattle.std.specs.List.{enumerate_from, filter_map, list_any, range_with_len}
use Rattle.std.specs.Option.{option_map}
use Rattle.std.specs.Cmp.{IsTotalOrder}
use Rattle.std.specs.Ordering.{ordering_reverse}
use Rattle.std.specs.declared.cmp.Ordering.{Ordering}
use Rattle.std.specs.declared.cmp.Ordering.TheVariants.{Less, Equal, Greater}
use Rattle.std.proofs.lemmas.Bool.{cases_Bool, false≢true, ltb-false, ltb-true}
use Rattle.list_lemmas.proofs.Members.{In, any_from_in, in_filter_map}
use Rattle.mo_types.specs.Rows.{when}
use Rattle.mo_types.specs.Scan.{first_some}

pub some_is : {X : Type 0} (x y : X) → Some x ≡ Some y → x ≡ y
some_is x y e = cc

pub no_some : {X : Type 0} {Y : Type 0} (x : X) → None ≡ Some x → Y
no_some x e = absurd cc

pub not_none : {X : Type 0} {Y : Type 0} (x : X) → Some x ≡ None → Y
not_none x e = absurd cc

-- ---- options

pub from_then : {X Y : Type 0} (f : X → Option Y) (o : Option X) (y : Y) → option_and_then f o ≡ Some y → (x : X) × (o ≡ Some x) × (f x ≡ Some y)
from_then f None y e = no_some y e
from_then f (Some x) y e = (x, refl, e)

pub from_mapped : {X Y : Type 0} (f : X → Y) (o : Option X) (y : Y) → option_map f o ≡ Some y → (x : X) × (o ≡ Some x) × (f x ≡ y)
from_mapped f None y e = no_some y e
from_mapped f (Some x) y e = (x, refl, some_is (f x) y e)

pub from_when : {X : Type 0} (b : Bool) (x y : X) → when b x ≡ Some y → (b ≡ true) × (x ≡ y)
from_when true x y e = (refl, some_is x y e)
from_when false x y e = no_some y e

pub not_when : {X : Type 0} (b : Bool) (x : X) → when b x ≡ None → b ≡ false
not_when true x e = not_none x e
not_when false x e = refl

-- ---- tests

pub neither : (a b : Bool) → (a || b) ≡ false → (a ≡ false) × (b ≡ false)
neither true b e = absurd (false≢true (sym e))
neither false b e = (refl, e)

pub not_first : (a b : Bool) → (a && b) ≡ false → b ≡ true → a ≡ false
not_first true b e f = sym f ∙ e
not_first false b e f = refl

pub not_second : (a b : Bool) → (a && b) ≡ false → a ≡ true → b ≡ false
not_second true b e f = e
not_second false b e f = absurd (false≢true f)

pub none_passes : {X : Type 0} (t : X → Bool) (xs : List X) (x : X) → list_any t xs ≡ false → In x xs → t x ≡ false
none_passes t xs x e h = elim (cases_Bool (t x)) [
  | inl passes ↦ absurd (false≢true (sym e ∙ any_from_in t xs x h passes))
  | inr fails ↦ fails
]

-- ---- lists

pub in_slice : {X : Type 0} (xs : List X) (k : ℕ) (x : X) → slice_get xs k ≡ Some x → In x xs
in_slice [] k x e = no_some x e
in_slice (y ∷ ys) zero x e = inl (some_is y x e)
in_slice (y ∷ ys) (suc k) x e = inr (in_slice ys k x e)

pub in_range : (a n k : ℕ) → a ≤ k → k < a + n → In k (range_with_len a n)
in_range a zero k low high = absurd (omega (arith, low, high))
in_range a (suc n) k low high = by (nat_lt a k) refl (λ less. in_range (a + 1) n k (omega (arith, less)) (omega (arith, high)))
  where
    by : (b : Bool) → nat_lt a k ≡ b → (a < k → In k (range_with_len (a + 1) n)) → In k (range_with_len a (suc n))
    by true less rest = inr (rest (ltb-true a k less))
    by false least rest = let from : k ≤ a = ltb-false a k least in inl (omega (arith, low, from))

pub from_range : (a n k : ℕ) → In k (range_with_len a n) → (a ≤ k) × (k < a + n)
from_range a zero k h = absurd h
from_range a (suc n) k (inl e) = (omega (arith, e), omega (arith, e))
from_range a (suc n) k (inr h) = let rest = from_range (a + 1) n k h in (omega (arith, rest.0), omega (arith, rest.1))

pub in_numbered : {X : Type 0} (n : ℕ) (xs : List X) (k : ℕ) (x : X) → slice_get xs k ≡ Some x → In (n + k, x) (enumerate_from n xs)
in_numbered n [] k x e = no_some x e
in_numbered n (y ∷ ys) zero x e = let here : n ≡ n + 0 = omega arith in inl (ap (λ (m : ℕ). (m, y)) here ∙ ap (λ z. (n + 0, z)) (some_is y x e))
in_numbered {X = X} n (y ∷ ys) (suc k) x e =
    let same : n + 1 + k ≡ n + suc k = omega arith in
    inr (subst (λ (m : ℕ). In (m, x) (enumerate_from (n + 1) ys)) same (in_numbered (n + 1) ys k x e))

pub from_numbered : {X : Type 0} (n : ℕ) (xs : List X) (p : ℕ × X) → In p (enumerate_from n xs) → (k : ℕ) × (n + k ≡ p.0) × (slice_get xs k ≡ Some p.1)
from_numbered n [] p h = absurd h
from_numbered n (y ∷ ys) p (inl e) = let here : n + 0 ≡ n = omega arith in (0, here ∙ ap (λ q. q.0) e, ap (λ q. Some q.1) e)
from_numbered n (y ∷ ys) p (inr h) =
    let rest = from_numbered (n + 1) ys p h in
    let at : n + 1 + rest.0 ≡ p.0 = rest.1 in
    (suc rest.0, omega (arith, at), rest.2)

pub none_chosen : {X Y : Type 0} (f : X → Option Y) (xs : List X) (x : X) → filter_map f xs ≡ [] → In x xs → f x ≡ None
none_chosen {Y = Y} f xs x none h = by (f x) refl
  where
    by : (o : Option Y) → f x ≡ o → f x ≡ None
    by None e = e
    by (Some y) e = absurd (subst (λ (ys : List Y). In y ys) none (in_filter_map f xs x y h e))

pub none_first : {X Y : Type 0} (f : X → Option Y) (xs : List X) (x : X) → first_some f xs ≡ None → In x xs → f x ≡ None
none_first f [] x e h = absurd h
none_first {X = X} {Y = Y} f (z ∷ xs) x e h = by (f z) refl (none_first f xs x) h
  where
    by : (o : Option Y) → f z ≡ o → (first_some f xs ≡ None → In x xs → f x ≡ None) → In x (z ∷ xs) → f x ≡ None
    by None g rest (inl same) = ap f (sym same) ∙ g
    by None g rest (inr there) = rest (rw g at e) there
    by (Some y) g rest there = let n : Some y ≡ None = rw g at e in not_none y n

pub both_empty : {X : Type 0} (xs ys : List X) → xs ++ ys ≡ [] → (xs ≡ []) × (ys ≡ [])
both_empty [] ys e = (refl, e)
both_empty (x ∷ xs) ys e = absurd cc

neither_by : (o : Ordering) → o ≢ Greater → ordering_reverse o ≢ Greater → o ≡ Equal
neither_by Less p q = absurd (q refl)
neither_by Equal p q = refl
neither_by Greater p q = absurd (p refl)

-- two of which neither is after the other tie
pub neither_after : {X : Type 0} {R : X → X → Ordering} → IsTotalOrder R → (a b : X) → R a b ≢ Greater → R b a ≢ Greater → R a b ≡ Equal
neither_after {R = R} order a b first second = neither_by (R a b) first (λ e. second (order.antisymm b a ∙ e))
