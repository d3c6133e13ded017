-- Sets, with one element more or less.
use Rattle.std.proofs.Common.{◌≡◌, ℕ, ◌+◌, ◌<◌, ◌≤◌, ◌==◌, ◌&&◌, ◌||◌, Bool, true, false, nat_lt, List, [], ◌∷◌, length, take, get_or, refl, sym, ap, ap₂, ◌∙◌, eqb-true, arith, cond}
use Rattle.std.specs.Prelude.{if◌then◌else◌}
use Rattle.std.specs.List.{list_any}
use Rattle.std.specs.Ordering.{is_eq, nat_cmp, ordering_then}
use Rattle.std.specs.BTreeMap.{is_at}
use Rattle.std.specs.declared.cmp.Ordering.{Ordering}
use Rattle.std.specs.declared.cmp.Ordering.TheVariants.{Equal, Greater, Less}
use Rattle.std.proofs.lemmas.Bool.{ltb-true}
use Rattle.std.proofs.lemmas.List.{take_all}
use Rattle.std.proofs.lemmas.List.Folds.{list_any_more}
use Rattle.mo_types.specs.Keys.{compare_files}
use Rattle.mo_types.specs.declared.key.FileId.{FileId}
use Rattle.member_rounds.specs.Growth.{is_in, same_file}

pub any_same : {X : Type 0} (p q : X → Bool) (xs : List X) → ((x : X) → p x ≡ q x) → list_any p xs ≡ list_any q xs
any_same p q [] same = refl
any_same p q (x ∷ xs) same = ap₂ (λ (a b : Bool). a || b) (same x) (any_same p q xs same)

same_number : (m n : ℕ) → is_eq (nat_cmp m n) ≡ (m == n)
same_number m n = by (nat_lt m n) (m == n) refl refl
  where
    by : (a b : Bool) → nat_lt m n ≡ a → (m == n) ≡ b → is_eq (nat_cmp m n) ≡ (m == n)
    by true true low is = absurd (let h : m < n = ltb-true m n low in let e : m ≡ n = eqb-true m n is in omega (arith, h, e))
    by true false low is = rw (low, is) refl
    by false true low is = rw (low, is) refl
    by false false low is = rw (low, is) refl

both_equal : (a b : Ordering) → is_eq (ordering_then a b) ≡ (is_eq a && is_eq b)
both_equal Less b = refl
both_equal Equal b = refl
both_equal Greater b = refl

pub same_order : (a b : FileId) → is_eq (compare_files a b) ≡ same_file a b
same_order a b = both_equal (nat_cmp a.position b.position) (nat_cmp a.member b.member) ∙ ap₂ (λ (x y : Bool). x && y) (same_number a.position b.position) (same_number a.member b.member)

pub order_has : (ids : List FileId) (id : FileId) → list_any (is_at (compare_files id)) ids ≡ is_in ids id
order_has ids id = any_same (is_at (compare_files id)) (same_file id) ids (λ x. same_order id x)

pub order_with : (old new : List FileId) (id : FileId) → ((other : FileId) → list_any (is_at (compare_files other)) new ≡ cond (is_at (compare_files id) other) true (list_any (is_at (compare_files other)) old)) → (other : FileId) → is_in new other ≡ (if same_file id other then true else is_in old other)
order_with old new id is other = sym (order_has new other) ∙ is other ∙ ap₂ (λ (a b : Bool). cond a true b) (same_order id other) (order_has old other)

-- ---- what loops note

-- what was noted of the elements before a place
pub record IsNoting {Q X : Type 0} (before now : Q → Bool) (test : Q → X → Bool) (xs : List X) (i : ℕ) : Type 0 where
  pub each : (q : Q) → now q ≡ (before q || list_any (test q) (take i xs))

or_false : (a : Bool) → a ≡ (a || false)
or_false true = refl
or_false false = refl

or_grouped : (a b c : Bool) → ((a || b) || c) ≡ (a || (b || c))
or_grouped true b c = refl
or_grouped false b c = refl

pub note_start : {Q X : Type 0} (before : Q → Bool) (test : Q → X → Bool) (xs : List X) → IsNoting before before test xs 0
note_start before test xs = record { each = λ q. or_false (before q) }

pub note_step : {Q X : Type 0} (before now next : Q → Bool) (test : Q → X → Bool) (xs : List X) (i : ℕ) (x : X) → IsNoting before now test xs i → i < length xs → x ≡ get_or xs i x → ((q : Q) → next q ≡ (now q || test q x)) → IsNoting before next test xs (i + 1)
note_step before now next test xs i x so low is more = record {
  each = λ q. more q ∙ ap (λ b. b || test q x) (so.each q) ∙ or_grouped (before q) (list_any (test q) (take i xs)) (test q x) ∙ ap (λ b. before q || b) (ap (λ y. list_any (test q) (take i xs) || test q y) is ∙ sym (list_any_more (test q) xs i x low));
}

pub note_end : {Q X : Type 0} (before now : Q → Bool) (test : Q → X → Bool) (xs : List X) (i : ℕ) → IsNoting before now test xs i → length xs ≤ i → (q : Q) → now q ≡ (before q || list_any (test q) xs)
note_end before now test xs i so past q = so.each q ∙ ap (λ l. before q || list_any (test q) l) (take_all i xs past)
