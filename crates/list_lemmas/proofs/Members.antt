-- The members of a list, what holds of all of them, and what searches find among them.
use Rattle.std.proofs.Common.{◌≡◌, ℕ, zero, suc, ◌<◌, ◌⊎◌, Bool, true, false, List, [], ◌∷◌, ◌++◌, length, get_or, refl, sym, ap, subst, ◌∙◌, inl, inr, arith, Option, Some, None, map, Contains}
use Rattle.std.specs.List.{filter, filter_map, find, flat_map, list_any, AllByRecursion}
use Rattle.std.proofs.lemmas.Bool.{cases_Bool, false≢true}

-- x is one of the list
abbrev pub In : {X : Type 0} → X → List X → Type 0
In x [] = ⊥
In x (y ∷ ys) = (y ≡ x) ⊎ In x ys

in_at : {X : Type 0} (xs : List X) (x : X) (k : ℕ) → k < length xs → get_or xs k x ≡ x → In x xs
in_at [] x k low e = absurd (omega arith)
in_at (y ∷ ys) x zero low e = inl e
in_at (y ∷ ys) x (suc k) low e = inr (in_at ys x k (omega arith) e)

pub in_from_Contains : {X : Type 0} (xs : List X) (x : X) → Contains xs x → In x xs
in_from_Contains xs x h = in_at xs x h.0 h.1 h.2

pub Contains_from_in : {X : Type 0} (xs : List X) (x : X) → In x xs → Contains xs x
Contains_from_in [] x h = absurd h
Contains_from_in (y ∷ ys) x (inl e) = (0, omega arith, e)
Contains_from_in (y ∷ ys) x (inr h) = let rest : Contains ys x = Contains_from_in ys x h in (suc rest.0, omega (arith, rest.1), rest.2)

pub all_in : {X : Type 0} (P : X → Type 0) (xs : List X) (x : X) → AllByRecursion P xs → In x xs → P x
all_in P [] x all h = absurd h
all_in P (y ∷ ys) x all (inl e) = subst P e all.0
all_in P (y ∷ ys) x all (inr h) = all_in P ys x all.1 h

pub all_from_in : {X : Type 0} (P : X → Type 0) (xs : List X) → ((x : X) → In x xs → P x) → AllByRecursion P xs
all_from_in P [] each = tt
all_from_in P (y ∷ ys) each = (each y (inl refl), all_from_in P ys (λ x h. each x (inr h)))

pub all_at : {X : Type 0} (P : X → Type 0) (xs : List X) (k : ℕ) (d : X) → AllByRecursion P xs → k < length xs → P (get_or xs k d)
all_at P [] k d all h = absurd (omega arith)
all_at P (y ∷ ys) zero d all h = all.0
all_at P (y ∷ ys) (suc k) d all h = all_at P ys k d all.1 (omega arith)

pub all_map : {X Y : Type 0} (f : X → Y) (P : Y → Type 0) (xs : List X) → AllByRecursion (λ x. P (f x)) xs → AllByRecursion P (map f xs)
all_map f P [] all = tt
all_map f P (x ∷ xs) all = (all.0, all_map f P xs all.1)

pub all_weaker : {X : Type 0} (P Q : X → Type 0) → ((x : X) → P x → Q x) → (xs : List X) → AllByRecursion P xs → AllByRecursion Q xs
all_weaker P Q f [] all = tt
all_weaker P Q f (x ∷ xs) all = (f x all.0, all_weaker P Q f xs all.1)

pub in_map : {X Y : Type 0} (f : X → Y) (xs : List X) (x : X) → In x xs → In (f x) (map f xs)
in_map f [] x h = absurd h
in_map f (y ∷ ys) x (inl e) = inl (ap f e)
in_map f (y ∷ ys) x (inr h) = inr (in_map f ys x h)

pub from_map : {X Y : Type 0} (f : X → Y) (xs : List X) (y : Y) → In y (map f xs) → (x : X) × In x xs × (f x ≡ y)
from_map f [] y h = absurd h
from_map f (x ∷ xs) y (inl e) = (x, inl refl, e)
from_map f (x ∷ xs) y (inr h) = let rest = from_map f xs y h in (rest.0, inr rest.1, rest.2)

pub in_filter : {X : Type 0} (t : X → Bool) (xs : List X) (x : X) → In x xs → t x ≡ true → In x (filter t xs)
in_filter t [] x h passes = absurd h
in_filter t (y ∷ ys) x (inl e) passes = let here : t y ≡ true = rw e passes in rw here (inl e)
in_filter t (y ∷ ys) x (inr h) passes =
    elim (cases_Bool (t y)) [
      | inl here ↦ rw here (inr (in_filter t ys x h passes))
      | inr away ↦ rw away (in_filter t ys x h passes)
    ]

kept : {X : Type 0} (t : X → Bool) (y : X) (ys : List X) (x : X) → (In x (filter t ys) → In x ys × (t x ≡ true)) → t y ≡ true → In x (y ∷ filter t ys) → In x (y ∷ ys) × (t x ≡ true)
kept t y ys x rest here (inl e) = (inl e, rw (← e) here)
kept t y ys x rest here (inr h) = (inr (rest h).0, (rest h).1)

pub from_filter : {X : Type 0} (t : X → Bool) (xs : List X) (x : X) → In x (filter t xs) → In x xs × (t x ≡ true)
from_filter t [] x h = absurd h
from_filter t (y ∷ ys) x h =
    elim (cases_Bool (t y)) [
      | inl here ↦ kept t y ys x (from_filter t ys x) here (rw here at h)
      | inr away ↦ let rest = from_filter t ys x (rw away at h) in (inr rest.0, rest.1)
    ]

pub find_some : {X : Type 0} (t : X → Bool) (xs : List X) (x : X) → find t xs ≡ Some x → In x xs × (t x ≡ true)
find_some t [] x e = absurd (no_none x e)
  where
    no_none : {X : Type 0} (x : X) → None ≡ Some x → ⊥
    no_none x e = cc
find_some t (y ∷ ys) x e =
    elim (cases_Bool (t y)) [
      | inl here ↦ let same : y ≡ x = some_same y x (rw here at e) in (inl same, rw (← same) here)
      | inr away ↦ let rest = find_some t ys x (rw away at e) in (inr rest.0, rest.1)
    ]
  where
    some_same : {X : Type 0} (y x : X) → Some y ≡ Some x → y ≡ x
    some_same y x e = cc

no_some : {X : Type 0} (x : X) → Some x ≡ None → ⊥
no_some x e = cc

pub find_none : {X : Type 0} (t : X → Bool) (xs : List X) (x : X) → find t xs ≡ None → In x xs → t x ≡ false
find_none t [] x e h = absurd h
find_none t (y ∷ ys) x e h =
    elim (cases_Bool (t y)) [
      | inl here ↦ absurd (no_some y (rw here at e))
      | inr away ↦ missed t y ys x away (find_none t ys x (rw away at e)) h
    ]
  where
    missed : {X : Type 0} (t : X → Bool) (y : X) (ys : List X) (x : X) → t y ≡ false → (In x ys → t x ≡ false) → In x (y ∷ ys) → t x ≡ false
    missed t y ys x away rest (inl e) = rw (← e) away
    missed t y ys x away rest (inr h) = rest h

pub any_true : {X : Type 0} (t : X → Bool) (xs : List X) → list_any t xs ≡ true → (x : X) × In x xs × (t x ≡ true)
any_true t [] e = absurd (false≢true e)
any_true t (y ∷ ys) e =
    elim (cases_Bool (t y)) [
      | inl here ↦ (y, inl refl, here)
      | inr away ↦ let rest = any_true t ys (rw away at e) in (rest.0, inr rest.1, rest.2)
    ]

pub any_from_in : {X : Type 0} (t : X → Bool) (xs : List X) (x : X) → In x xs → t x ≡ true → list_any t xs ≡ true
any_from_in t [] x h passes = absurd h
any_from_in t (y ∷ ys) x (inl e) passes = let here : t y ≡ true = rw e passes in rw here refl
any_from_in t (y ∷ ys) x (inr h) passes =
    elim (cases_Bool (t y)) [
      | inl here ↦ rw here refl
      | inr away ↦ rw away (any_from_in t ys x h passes)
    ]

-- ---- lists that are put together

pub in_left : {X : Type 0} (xs ys : List X) (x : X) → In x xs → In x (xs ++ ys)
in_left [] ys x h = absurd h
in_left (y ∷ xs) ys x (inl e) = inl e
in_left (y ∷ xs) ys x (inr h) = inr (in_left xs ys x h)

pub in_right : {X : Type 0} (xs ys : List X) (x : X) → In x ys → In x (xs ++ ys)
in_right [] ys x h = h
in_right (y ∷ xs) ys x h = inr (in_right xs ys x h)

pub in_either : {X : Type 0} (xs ys : List X) (x : X) → In x (xs ++ ys) → In x xs ⊎ In x ys
in_either [] ys x h = inr h
in_either (y ∷ xs) ys x (inl e) = inl (inl e)
in_either (y ∷ xs) ys x (inr h) = elim (in_either xs ys x h) [
  | inl first ↦ inl (inr first)
  | inr second ↦ inr second
]

pub in_last : {X : Type 0} (xs : List X) (x : X) → In x (xs ++ x ∷ [])
in_last xs x = in_right xs (x ∷ []) x (inl refl)

pub from_last : {X : Type 0} (xs : List X) (y x : X) → In x (xs ++ y ∷ []) → In x xs ⊎ (y ≡ x)
from_last [] y x (inl e) = inr e
from_last [] y x (inr h) = absurd h
from_last (z ∷ xs) y x (inl e) = inl (inl e)
from_last (z ∷ xs) y x (inr h) = elim (from_last xs y x h) [
  | inl there ↦ inl (inr there)
  | inr e ↦ inr e
]

pub in_flat : {X Y : Type 0} (f : X → List Y) (xs : List X) (x : X) (y : Y) → In x xs → In y (f x) → In y (flat_map f xs)
in_flat f [] x y h there = absurd h
in_flat f (z ∷ xs) x y (inl e) there = in_left (f z) (flat_map f xs) y (subst (λ q. In y (f q)) (sym e) there)
in_flat f (z ∷ xs) x y (inr h) there = in_right (f z) (flat_map f xs) y (in_flat f xs x y h there)

pub from_flat : {X Y : Type 0} (f : X → List Y) (xs : List X) (y : Y) → In y (flat_map f xs) → (x : X) × In x xs × In y (f x)
from_flat f [] y h = absurd h
from_flat f (z ∷ xs) y h = elim (in_either (f z) (flat_map f xs) y h) [
  | inl here ↦ (z, inl refl, here)
  | inr later ↦ let rest = from_flat f xs y later in (rest.0, inr rest.1, rest.2)
]

pub in_filter_map : {X Y : Type 0} (f : X → Option Y) (xs : List X) (x : X) (y : Y) → In x xs → f x ≡ Some y → In y (filter_map f xs)
in_filter_map f [] x y h is = absurd h
in_filter_map f (z ∷ xs) x y (inl e) is = let here : f z ≡ Some y = ap f e ∙ is in rw here (inl refl)
in_filter_map {Y = Y} f (z ∷ xs) x y (inr h) is = by (f z) refl (in_filter_map f xs x y h is)
  where
    by : (o : Option Y) → f z ≡ o → In y (filter_map f xs) → In y (filter_map f (z ∷ xs))
    by None e rest = rw e rest
    by (Some w) e rest = rw e (inr rest)

pub from_filter_map : {X Y : Type 0} (f : X → Option Y) (xs : List X) (y : Y) → In y (filter_map f xs) → (x : X) × In x xs × (f x ≡ Some y)
from_filter_map f [] y h = absurd h
from_filter_map {X = X} {Y = Y} f (x ∷ xs) y h = by (f x) refl (from_filter_map f xs y)
  where
    by : (o : Option Y) → f x ≡ o → (In y (filter_map f xs) → (z : X) × In z xs × (f z ≡ Some y)) → (z : X) × In z (x ∷ xs) × (f z ≡ Some y)
    by None e rest = let later = rest (rw e at h) in (later.0, inr later.1, later.2)
    by (Some w) e rest = elim (rw e at h) [
      | inl same ↦ (x, inl refl, e ∙ ap Some same)
      | inr there ↦ let later = rest there in (later.0, inr later.1, later.2)
    ]
