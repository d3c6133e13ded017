-- Tables by the numbers of names, with one element more.
use Rattle.std.proofs.Common.{◌≡◌, ℕ, suc, ◌<◌, ◌≤◌, Bool, nat_lt, true, false, List, [], ◌∷◌, ◌++◌, length, get_or, slice_set, position, Some, None, refl, sym, ap, subst, ◌∙◌, arith}
use Rattle.std.specs.List.{AllByRecursion, IsDistinct, position_or_len}
use Rattle.std.specs.Str.{bytes_eq}
use Rattle.std.proofs.lemmas.Bool.{ltb-true, ltb-false}
use Rattle.std.proofs.lemmas.List.Elements.{filter-append}
use Rattle.std.proofs.lemmas.Slice.Eq.{bytes_eq-Decides}
use Rattle.symbol_winners.specs.inner.Tables.{named, table_of}

not_true : (b : Bool) → (b ≡ true → ⊥) → b ≡ false
not_true true never = absurd (never refl)
not_true false never = refl

pub other_way : (a b : List ℕ) → bytes_eq a b ≡ false → bytes_eq b a ≡ false
other_way a b apart = not_true (bytes_eq b a) (λ is. let same : b ≡ a = (bytes_eq-Decides b a).0 is in let e : true ≡ false = sym ((bytes_eq-Decides a b).1 (sym same)) ∙ apart in cc)

pub same_way : (a b : List ℕ) → bytes_eq a b ≡ true → bytes_eq b a ≡ true
same_way a b is = (bytes_eq-Decides b a).1 (sym ((bytes_eq-Decides a b).0 is))

-- ---- the elements of a name, with one element more

pub named_more : {X : Type 0} (name_of : X → List ℕ) (name : List ℕ) (xs : List X) (x : X) → bytes_eq name (name_of x) ≡ true → named name_of name (xs ++ x ∷ []) ≡ named name_of name xs ++ x ∷ []
named_more {X = X} name_of name xs x is = filter-append (λ (y : X). bytes_eq name (name_of y)) xs (x ∷ []) ∙ ap (λ (ys : List X). named name_of name xs ++ ys) (rw is refl)

pub named_other : {X : Type 0} (name_of : X → List ℕ) (name : List ℕ) (xs : List X) (x : X) → bytes_eq name (name_of x) ≡ false → named name_of name (xs ++ x ∷ []) ≡ named name_of name xs
named_other {X = X} name_of name xs x is = filter-append (λ (y : X). bytes_eq name (name_of y)) xs (x ∷ []) ∙ ap (λ (ys : List X). named name_of name xs ++ ys) (rw is refl) ∙ append_none (named name_of name xs)
  where
    append_none : (ys : List X) → ys ++ [] ≡ ys
    append_none [] = refl
    append_none (y ∷ ys) = ap (λ (zs : List X). y ∷ zs) (append_none ys)

-- ---- tables

-- no name is the element's
pub table_other : {X S : Type 0} (f : List X → S) (name_of : X → List ℕ) (names : List (List ℕ)) (xs : List X) (x : X) → AllByRecursion (λ n. bytes_eq (name_of x) n ≡ false) names → table_of f name_of names (xs ++ x ∷ []) ≡ table_of f name_of names xs
unfolding table_of
table_other f name_of [] xs x none = refl
table_other f name_of (n ∷ names) xs x none =
    rw (named_other name_of n xs x (other_way (name_of x) n none.0), table_other f name_of names xs x none.1) refl

all_apart : (k m : List ℕ) (names : List (List ℕ)) → k ≡ m → AllByRecursion (λ n. bytes_eq m n ≡ false) names → AllByRecursion (λ n. bytes_eq k n ≡ false) names
all_apart k m names e all = subst (λ (x : List ℕ). AllByRecursion (λ n. bytes_eq x n ≡ false) names) (sym e) all

pub table_set : {X S : Type 0} (f : List X → S) (name_of : X → List ℕ) (names : List (List ℕ)) (xs : List X) (x : X) (value : S) → IsDistinct bytes_eq names → position_or_len (bytes_eq (name_of x)) names < length names → value ≡ f (named name_of (name_of x) xs ++ x ∷ []) → slice_set (table_of f name_of names xs) (position_or_len (bytes_eq (name_of x)) names) value ≡ table_of f name_of names (xs ++ x ∷ [])
unfolding table_of IsDistinct
table_set f name_of [] xs x value distinct within is = absurd (omega arith)
table_set {X = X} {S = S} f name_of (n ∷ names) xs x value distinct within is = by (λ low. table_set f name_of names xs x value distinct.1 low is) (bytes_eq (name_of x) n) refl
  where
    by : (position_or_len (bytes_eq (name_of x)) names < length names → slice_set (table_of f name_of names xs) (position_or_len (bytes_eq (name_of x)) names) value ≡ table_of f name_of names (xs ++ x ∷ [])) → (b : Bool) → bytes_eq (name_of x) n ≡ b → slice_set (table_of f name_of (n ∷ names) xs) (position_or_len (bytes_eq (name_of x)) (n ∷ names)) value ≡ table_of f name_of (n ∷ names) (xs ++ x ∷ [])
    by later true here =
        let same : name_of x ≡ n = (bytes_eq-Decides (name_of x) n).0 here in
        let rest : table_of f name_of names (xs ++ x ∷ []) ≡ table_of f name_of names xs = table_other f name_of names xs x (all_apart (name_of x) n names same distinct.0) in
        let first : value ≡ f (named name_of n (xs ++ x ∷ [])) = is ∙ ap f (ap (λ (k : List ℕ). named name_of k xs ++ x ∷ []) same ∙ sym (named_more name_of n xs x (same_way (name_of x) n here))) in
        rw (here, rest, first) refl
    by later false away =
        let low : position_or_len (bytes_eq (name_of x)) names < length names = (let w : position_or_len (bytes_eq (name_of x)) (n ∷ names) < length (n ∷ names) = within in let w' = rw away at w in omega (arith, w')) in
        let at : position_or_len (bytes_eq (name_of x)) (n ∷ names) ≡ suc (position_or_len (bytes_eq (name_of x)) names) = rw away (omega arith) in
        rw (at, named_other name_of n xs x (other_way (name_of x) n away)) (ap (λ (ys : List S). f (named name_of n xs) ∷ ys) (later low))

pub table_at : {X S : Type 0} (f : List X → S) (name_of : X → List ℕ) (names : List (List ℕ)) (xs : List X) (name : List ℕ) (d : S) → position_or_len (bytes_eq name) names < length names → get_or (table_of f name_of names xs) (position_or_len (bytes_eq name) names) d ≡ f (named name_of name xs)
unfolding table_of
table_at f name_of [] xs name d within = absurd (omega arith)
table_at {X = X} {S = S} f name_of (n ∷ names) xs name d within = by (λ low. table_at f name_of names xs name d low) (bytes_eq name n) refl
  where
    by : (position_or_len (bytes_eq name) names < length names → get_or (table_of f name_of names xs) (position_or_len (bytes_eq name) names) d ≡ f (named name_of name xs)) → (b : Bool) → bytes_eq name n ≡ b → get_or (table_of f name_of (n ∷ names) xs) (position_or_len (bytes_eq name) (n ∷ names)) d ≡ f (named name_of name xs)
    by later true here = let same : n ≡ name = sym ((bytes_eq-Decides name n).0 here) in rw here (ap (λ (k : List ℕ). f (named name_of k xs)) same)
    by later false away =
        let low : position_or_len (bytes_eq name) names < length names = (let w : position_or_len (bytes_eq name) (n ∷ names) < length (n ∷ names) = within in let w' = rw away at w in omega (arith, w')) in
        let at : position_or_len (bytes_eq name) (n ∷ names) ≡ suc (position_or_len (bytes_eq name) names) = rw away (omega arith) in
        rw at (later low)

-- ---- the number of a name

pub some_position : (test : List ℕ → Bool) (names : List (List ℕ)) (id : ℕ) → position test names ≡ Some id → (position_or_len test names ≡ id) × (position_or_len test names < length names)
some_position test names id is = by (nat_lt (position_or_len test names) (length names)) refl
  where
    by : (b : Bool) → nat_lt (position_or_len test names) (length names) ≡ b → (position_or_len test names ≡ id) × (position_or_len test names < length names)
    by true low = let e : Some (position_or_len test names) ≡ Some id = rw low at is in (cc, ltb-true _ _ low)
    by false low = absurd (let e : None ≡ Some id = rw low at is in cc)

all_false : (test : List ℕ → Bool) (names : List (List ℕ)) → length names ≤ position_or_len test names → AllByRecursion (λ n. test n ≡ false) names
all_false test [] past = tt
all_false test (n ∷ names) past = by (all_false test names) (test n) refl
  where
    by : (length names ≤ position_or_len test names → AllByRecursion (λ m. test m ≡ false) names) → (b : Bool) → test n ≡ b → AllByRecursion (λ m. test m ≡ false) (n ∷ names)
    by later true here = absurd (let p : length (n ∷ names) ≤ position_or_len test (n ∷ names) = past in let q = rw here at p in omega (arith, q))
    by later false away = (away, later (let p : length (n ∷ names) ≤ position_or_len test (n ∷ names) = past in let q = rw away at p in omega (arith, q)))

pub no_position : (test : List ℕ → Bool) (names : List (List ℕ)) → position test names ≡ None → AllByRecursion (λ n. test n ≡ false) names
no_position test names is = by (nat_lt (position_or_len test names) (length names)) refl
  where
    by : (b : Bool) → nat_lt (position_or_len test names) (length names) ≡ b → AllByRecursion (λ n. test n ≡ false) names
    by true low = absurd (let e : Some (position_or_len test names) ≡ None = rw low at is in cc)
    by false low = all_false test names (ltb-false (position_or_len test names) (length names) low)

-- ---- the table after an element of a name that has a number, and after one that has none

pub noted : {X S : Type 0} (f : List X → S) (name_of : X → List ℕ) (names : List (List ℕ)) (xs : List X) (x : X) (table : List S) (id : ℕ) (value : S) → IsDistinct bytes_eq names → position (bytes_eq (name_of x)) names ≡ Some id → table ≡ table_of f name_of names xs → value ≡ f (named name_of (name_of x) xs ++ x ∷ []) → slice_set table id value ≡ table_of f name_of names (xs ++ x ∷ [])
noted f name_of names xs x table id value distinct at is same =
    let p = some_position (bytes_eq (name_of x)) names id at in
    rw (is, sym p.0) (table_set f name_of names xs x value distinct p.1 same)

pub passed : {X S : Type 0} (f : List X → S) (name_of : X → List ℕ) (names : List (List ℕ)) (xs : List X) (x : X) (table : List S) → position (bytes_eq (name_of x)) names ≡ None → table ≡ table_of f name_of names xs → table ≡ table_of f name_of names (xs ++ x ∷ [])
passed f name_of names xs x table at is = is ∙ sym (table_other f name_of names xs x (no_position (bytes_eq (name_of x)) names at))

pub stands : {X S : Type 0} (f : List X → S) (name_of : X → List ℕ) (names : List (List ℕ)) (xs : List X) (name : List ℕ) (table : List S) (id : ℕ) (d : S) → position (bytes_eq name) names ≡ Some id → table ≡ table_of f name_of names xs → get_or table id d ≡ f (named name_of name xs)
stands f name_of names xs name table id d at is =
    let p = some_position (bytes_eq name) names id at in
    rw (is, sym p.0) (table_at f name_of names xs name d p.1)

pub table_length : {X S : Type 0} (f : List X → S) (name_of : X → List ℕ) (names : List (List ℕ)) (xs : List X) → length (table_of f name_of names xs) ≡ length names
unfolding table_of
table_length f name_of [] xs = refl
table_length f name_of (n ∷ names) xs = ap suc (table_length f name_of names xs)
