-- Names that are numbered one by one are there once each.
use Rattle.std.proofs.Common.{◌≡◌, ◌≢◌, ℕ, zero, suc, ◌<◌, ◌⊎◌, Bool, nat_lt, true, false, ◌||◌, List, [], ◌∷◌, ◌++◌, length, slice_get, position, Contains, Some, refl, sym, subst, ◌∙◌, inl, inr, arith}
use Rattle.std.specs.List.{AllByRecursion, AllPairs, IsDistinct, list_any, position_or_len}
use Rattle.std.specs.Str.{bytes_eq}
use Rattle.std.proofs.lemmas.Bool.{lt-ltb}
use Rattle.std.proofs.lemmas.Map.Made.{AllPairs-from_IsDistinct}
use Rattle.std.proofs.lemmas.Slice.Eq.{bytes_eq-Decides}
use Rattle.indexmap.specs.IndexSet.{insert_all, insert_key}
use Rattle.list_lemmas.proofs.Inserted.{from_inserted, in_inserted}
use Rattle.list_lemmas.proofs.Members.{In, in_from_Contains, Contains_from_in}
use Rattle.name_ids.specs.Names.{numbered}

not_true : (b : Bool) → (b ≡ true → ⊥) → b ≡ false
not_true true never = absurd (never refl)
not_true false never = refl

other_way : (a b : List ℕ) → bytes_eq a b ≡ false → bytes_eq b a ≡ false
other_way a b apart = not_true (bytes_eq b a) (λ is. let same : b ≡ a = (bytes_eq-Decides b a).0 is in let e : true ≡ false = sym ((bytes_eq-Decides a b).1 (sym same)) ∙ apart in cc)

neither : (a b : Bool) → (a || b) ≡ false → (a ≡ false) × (b ≡ false)
neither true b is = cc
neither false b is = (refl, is)

all_and_last : (x : List ℕ) (ks : List (List ℕ)) (k : List ℕ) → AllByRecursion (λ y. bytes_eq x y ≡ false) ks → bytes_eq x k ≡ false → AllByRecursion (λ y. bytes_eq x y ≡ false) (ks ++ k ∷ [])
all_and_last x [] k all last = (last, tt)
all_and_last x (y ∷ ks) k all last = (all.0, all_and_last x ks k all.1 last)

distinct_with : (ks : List (List ℕ)) (k : List ℕ) → IsDistinct bytes_eq ks → list_any (bytes_eq k) ks ≡ false → IsDistinct bytes_eq (ks ++ k ∷ [])
unfolding IsDistinct
distinct_with [] k distinct new = (tt, tt)
distinct_with (x ∷ ks) k distinct new =
    let n : (bytes_eq k x ≡ false) × (list_any (bytes_eq k) ks ≡ false) = neither (bytes_eq k x) (list_any (bytes_eq k) ks) new in
    (all_and_last x ks k distinct.0 (other_way k x n.0), distinct_with ks k distinct.1 n.1)

distinct_step : (ks : List (List ℕ)) (k : List ℕ) (there : Bool) → list_any (bytes_eq k) ks ≡ there → IsDistinct bytes_eq ks → IsDistinct bytes_eq (insert_key bytes_eq ks k)
distinct_step ks k true is distinct = rw is distinct
distinct_step ks k false is distinct = rw is (distinct_with ks k distinct is)

pub distinct_all : (ks xs : List (List ℕ)) → IsDistinct bytes_eq ks → IsDistinct bytes_eq (insert_all bytes_eq ks xs)
distinct_all ks [] distinct = distinct
distinct_all ks (x ∷ xs) distinct = distinct_all (insert_key bytes_eq ks x) xs (distinct_step ks x (list_any (bytes_eq x) ks) refl distinct)

none_distinct : IsDistinct bytes_eq []
unfolding IsDistinct
none_distinct = tt

pub distinct : (names : List (List ℕ)) → IsDistinct bytes_eq (numbered names)
unfolding numbered
distinct names = distinct_all [] names none_distinct

pub once : (names : List (List ℕ)) → AllPairs (λ a b. a ≢ b) (numbered names)
once names = AllPairs-from_IsDistinct bytes_eq-Decides (numbered names) (distinct names)

-- ---- the number of a number's name

apart_later : (x : List ℕ) (ks : List (List ℕ)) (id : ℕ) (name : List ℕ) → AllByRecursion (λ y. bytes_eq x y ≡ false) ks → slice_get ks id ≡ Some name → bytes_eq name x ≡ false
apart_later x [] id name all is = cc
apart_later x (y ∷ ks) zero name all is = let same : y ≡ name = (let f : Some y ≡ Some name = is in cc) in other_way x name (subst (λ (n : List ℕ). bytes_eq x n ≡ false) same all.0)
apart_later x (y ∷ ks) (suc id) name all is = apart_later x ks id name all.1 is

pub stands : (ks : List (List ℕ)) (id : ℕ) (name : List ℕ) → IsDistinct bytes_eq ks → slice_get ks id ≡ Some name → (position_or_len (bytes_eq name) ks ≡ id) × (id < length ks)
unfolding IsDistinct
stands [] id name distinct is = cc
stands (x ∷ ks) zero name distinct is =
    let same : x ≡ name = (let f : Some x ≡ Some name = is in cc) in
    let here : bytes_eq name x ≡ true = (bytes_eq-Decides name x).1 (sym same) in
    (rw here refl, omega arith)
stands (x ∷ ks) (suc id) name distinct is =
    let rest : (position_or_len (bytes_eq name) ks ≡ id) × (id < length ks) = stands ks id name distinct.1 is in
    let other : bytes_eq name x ≡ false = apart_later x ks id name distinct.0 is in
    (rw other (let e : position_or_len (bytes_eq name) ks ≡ id = rest.0 in omega (arith, e)), let low : id < length ks = rest.1 in omega (arith, low))

pub back : (names : List (List ℕ)) (id : ℕ) (name : List ℕ) → slice_get (numbered names) id ≡ Some name → position (bytes_eq name) (numbered names) ≡ Some id
back names id name is =
    let at : (position_or_len (bytes_eq name) (numbered names) ≡ id) × (id < length (numbered names)) = stands (numbered names) id name (distinct names) is in
    let low : nat_lt id (length (numbered names)) ≡ true = lt-ltb id (length (numbered names)) at.1 in
    rw (at.0, low) refl

-- ---- just the names of the list

pub same_name : (a b : List ℕ) → bytes_eq a b ≡ true → a ≡ b
same_name a b = (bytes_eq-Decides a b).0

pub all : (names : List (List ℕ)) (name : List ℕ) → Contains names name → Contains (numbered names) name
unfolding numbered
all names name h = Contains_from_in (insert_all bytes_eq [] names) name (in_inserted bytes_eq same_name [] names name (in_from_Contains names name h))

only_listed : (names : List (List ℕ)) (name : List ℕ) → In name [] ⊎ In name names → Contains names name
only_listed names name (inl h) = absurd h
only_listed names name (inr h) = Contains_from_in names name h

pub only : (names : List (List ℕ)) (name : List ℕ) → Contains (numbered names) name → Contains names name
unfolding numbered
only names name h = only_listed names name (from_inserted bytes_eq same_name [] names name (in_from_Contains (insert_all bytes_eq [] names) name h))

pub ruleset numbers = (once, back, all, only)
