-- Each step keeps the rule of the claims.
use Rattle.std.proofs.Common.{◌≡◌, ℕ, zero, suc, ◌+◌, ◌%◌, ◌^◌, ◌<◌, ◌≤◌, List, [], ◌∷◌, ◌++◌, length, get_or, set, cond, refl, sym, ◌∙◌, ap, subst, arith, length-append}
use mathlib.Core.Option.{none, some, some-injective, some-ne-none}
use lib.ListN.{get_elem?}
use Rattle.std.specs.Prelude.{sum_by, ◌==◌}
use Rattle.std.proofs.lemmas.Bool.Decides.{nat_tests}
use Rattle.std.proofs.lemmas.List.Sums.{sum_by-cons, sum_by-append, count_by-le-length}
use Rattle.atomic_table.specs.Table.{State, Me, keeps, Allows, Splits, Joins, step, opening}
use Rattle.par_work.specs.declared.rule.Terms.{Terms}
use Rattle.par_work.specs.declared.rule.View.{View}
use Rattle.par_work.specs.Drawn.{times, once_below, AreBelow}
use Rattle.par_work.specs.Rule.{first_view, spent_view, giver, newcomer, union_of, with_draw, held, IsDrawing, Drawn}

-- a sum over the views after a change of one
sum_set : (f : View → ℕ) (views : List View) (id : ℕ) (v w : View) → get_elem? views id ≡ some v → sum_by f (set views id w) + f v ≡ sum_by f views + f w
sum_set f [] id v w at = absurd (some-ne-none v (sym at))
sum_set f (x ∷ xs) zero v w at = let e : f x ≡ f v = ap f (some-injective x v at) in omega (arith, sum_by-cons f x xs, sum_by-cons f w xs)
sum_set f (x ∷ xs) (suc id) v w at = omega (arith, sum_set f xs id v w at, sum_by-cons f x xs, sum_by-cons f x (set xs id w))

-- with one more
sum_push : (f : View → ℕ) (views : List View) (w : View) → sum_by f (views ++ w ∷ []) ≡ sum_by f views + f w
sum_push f views w = omega (arith, sum_by-append f views (w ∷ []), sum_by-cons f w [])

-- a view's part is among all
part_le : (f : View → ℕ) (views : List View) (id : ℕ) (v : View) → get_elem? views id ≡ some v → f v ≤ sum_by f views
part_le f [] id v at = absurd (some-ne-none v (sym at))
part_le f (x ∷ xs) zero v at = let e : f x ≡ f v = ap f (some-injective x v at) in omega (arith, sum_by-cons f x xs)
part_le f (x ∷ xs) (suc id) v at = omega (arith, part_le f xs id v at, sum_by-cons f x xs)

-- a sum is at most that of what bounds its parts
sum_le : (f g : View → ℕ) → ((v : View) → f v ≤ g v) → (views : List View) → sum_by f views ≤ sum_by g views
sum_le f g le [] = omega arith
sum_le f g le (x ∷ xs) = omega (arith, le x, sum_le f g le xs, sum_by-cons f x xs, sum_by-cons g x xs)

-- where one view has all of the bound, it has all of the sum
alone : (f g : View → ℕ) → ((v : View) → f v ≤ g v) → (views : List View) (id : ℕ) (v : View) → get_elem? views id ≡ some v → sum_by g views ≡ g v → sum_by f views ≡ f v
alone f g le [] id v at all = absurd (some-ne-none v (sym at))
alone f g le (x ∷ xs) zero v at all =
    let e : f x ≡ f v = ap f (some-injective x v at) in
    let e' : g x ≡ g v = ap g (some-injective x v at) in omega (arith, sum_le f g le xs, sum_by-cons f x xs, sum_by-cons g x xs)
alone f g le (x ∷ xs) (suc id) v at all =
    let few : g v ≤ sum_by g xs = part_le g xs id v at in
    let rest : sum_by f xs ≡ f v = alone f g le xs id v at (omega (arith, sum_by-cons g x xs)) in omega (arith, le x, sum_by-cons f x xs, sum_by-cons g x xs)

pub times-append : (x : ℕ) (xs ys : List ℕ) → times x (xs ++ ys) ≡ times x xs + times x ys
times-append x xs ys = sum_by-append (λ (y : ℕ). cond (y == x) 1 0) xs ys

pub times_push : (x : ℕ) (xs : List ℕ) (y : ℕ) → times x (xs ++ y ∷ []) ≡ times x xs + cond (y == x) 1 0
times_push x xs y = omega (arith, times-append x xs (y ∷ []), sum_by-cons (λ (y : ℕ). cond (y == x) 1 0) y [])

times_le : (x : ℕ) (v : View) → times x v.draws ≤ held v
times_le x v = omega (arith, count_by-le-length (λ y. y == x) v.draws)

-- a number more below the bound
once_more : (x n : ℕ) → once_below x (n + 1) ≡ once_below x n + cond (n == x) 1 0
once_more x n = grind (arith, nat_tests)

once_at : (n : ℕ) → once_below n n ≡ 0
once_at n = grind (arith, nat_tests)

once_none : (x : ℕ) → once_below x 0 ≡ 0
once_none x = grind (arith, nat_tests)

-- the first drawer
pub begins : (terms : Terms) → IsDrawing terms (opening (0 ∷ []) [] (first_view terms))
begins terms = record {
  counter = 0;
  word = refl;
  each = λ x. omega (arith, once_none x, sum_by-cons (λ (v : View). times x v.draws) (first_view terms) []);
  count = omega (arith, sum_by-cons (λ (v : View). length v.draws) (first_view terms) []);
  passes = omega (arith, sum_by-cons held (first_view terms) []);
}

-- the counter is below what passes and draws add up to, while a drawer has a pass
room : (terms : Terms) (s : State (Unit {0}) View) (h : IsDrawing terms s) (id : ℕ) (v : View) → get_elem? s.views id ≡ some v → 0 < v.passes → h.counter + 1 ≤ terms.passes
room terms s h id v at some_passes =
    let rest : sum_by (λ (v : View). length v.draws) s.views + v.passes ≤ sum_by held s.views = spare s.views id at in omega (arith, h.count, h.passes)
  where
    spare : (views : List View) (id : ℕ) → get_elem? views id ≡ some v → sum_by (λ (v : View). length v.draws) views + v.passes ≤ sum_by held views
    spare [] id at = absurd (some-ne-none v (sym at))
    spare (x ∷ xs) zero at =
        let e : x.passes ≡ v.passes = ap (λ (u : View). u.passes) (some-injective x v at) in
        omega (arith, sum_le (λ (v : View). length v.draws) held (λ u. omega arith) xs, sum_by-cons (λ (v : View). length v.draws) x xs, sum_by-cons held x xs)
    spare (x ∷ xs) (suc id) at = omega (arith, spare xs id at, sum_by-cons (λ (v : View). length v.draws) x xs, sum_by-cons held x xs)

pub draws : (terms : Terms) (slots id : ℕ) (v : View) → terms.passes < 2 ^ 64 → 0 < v.passes → Allows (IsDrawing terms) slots id (v, []) 0 (λ n. (n + 1) % 2 ^ 64) (Drawn (step slots 0 1 0 none) (v, []))
draws terms slots id v small some_passes s h _ at _ =
    let found : ℕ = get_or s.words 0 0 in
    let is : found ≡ h.counter = ap (λ ws. get_or ws 0 0) h.word in
    let near : h.counter + 1 ≤ terms.passes = room terms s h id v at some_passes in
    let next : (found + 1) % 2 ^ 64 ≡ h.counter + 1 = omega arith in
    let w : View = with_draw v found in (
      w,
      keeps,
      tt,
      record {
        counter = h.counter + 1;
        word = ap (λ ws. set ws 0 ((found + 1) % 2 ^ 64)) h.word ∙ ap (λ n. n ∷ []) next;
        each = λ x. omega (arith, h.each x, sum_set (λ (v : View). times x v.draws) s.views id v w at, times_push x v.draws found, once_more x h.counter, ap {B = ℕ} (λ n. cond (n == x) 1 0) is);
        count = omega (arith, h.count, sum_set (λ (v : View). length v.draws) s.views id v w at, length-append v.draws (found ∷ []));
        passes = omega (arith, h.passes, sum_set held s.views id v w at, length-append v.draws (found ∷ []));
      },
      (omega (arith, part_le (λ (v : View). times found v.draws) s.views id v at, h.each found, once_at h.counter, ap {B = ℕ} (λ n. once_below n h.counter) is), refl),
    )

pub splits : (terms : Terms) (id count : ℕ) (v : View) → count < v.passes → Splits (IsDrawing terms) id v (giver v count) (newcomer count)
splits terms id count v fewer s h at =
    let left : View = giver v count in
    let right : View = newcomer count in record {
      counter = h.counter;
      word = h.word;
      each = λ x. omega (arith, h.each x, sum_set (λ (v : View). times x v.draws) s.views id v left at, sum_push (λ (v : View). times x v.draws) (set s.views id left) right);
      count = omega (arith, h.count, sum_set (λ (v : View). length v.draws) s.views id v left at, sum_push (λ (v : View). length v.draws) (set s.views id left) right);
      passes = omega (arith, h.passes, sum_set held s.views id v left at, sum_push held (set s.views id left) right);
    }

pub joins : (terms : Terms) (id other : ℕ) (v w : View) → Joins (IsDrawing terms) id v other w (union_of v w) spent_view
joins terms id other v w s h at apart there =
    let both : View = union_of v w in
    let views : List View = set s.views id both in record {
      counter = h.counter;
      word = h.word;
      each = λ x. omega (arith, h.each x, sum_set (λ (v : View). times x v.draws) s.views id v both at, sum_set (λ (v : View). times x v.draws) views other w spent_view there, times-append x v.draws w.draws);
      count = omega (arith, h.count, sum_set (λ (v : View). length v.draws) s.views id v both at, sum_set (λ (v : View). length v.draws) views other w spent_view there, length-append v.draws w.draws);
      passes = omega (arith, h.passes, sum_set held s.views id v both at, sum_set held views other w spent_view there, length-append v.draws w.draws);
    }

-- the draw at a drawer that holds no slot
pub draws_at : (terms : Terms) (slots id : ℕ) (me : Me (Unit {0}) View) → me.1 ≡ [] → terms.passes < 2 ^ 64 → 0 < me.0.passes → Allows (IsDrawing terms) slots id me 0 (λ n. (n + 1) % 2 ^ 64) (Drawn (step slots 0 1 0 none) me)
draws_at terms slots id me empty small some_passes = subst (λ c. Allows (IsDrawing terms) slots id (me.0, c) 0 (λ n. (n + 1) % 2 ^ 64) (Drawn (step slots 0 1 0 none) (me.0, c))) (sym empty) (draws terms slots id me.0 small some_passes)

-- where a drawer has all passes and draws, the counter says how many it drew, and it drew the numbers below
pub closes_count : (terms : Terms) (id : ℕ) (v : View) (s : State (Unit {0}) View) → (h : IsDrawing terms s) → get_elem? s.views id ≡ some v → held v ≡ terms.passes → h.counter ≡ length v.draws
closes_count terms id v s h at all = let e = alone (λ (v : View). length v.draws) held (λ u. omega arith) s.views id v at (h.passes ∙ sym all) in omega (arith, h.count)

pub closes : (terms : Terms) (id : ℕ) (v : View) (s : State (Unit {0}) View) → (h : IsDrawing terms s) → get_elem? s.views id ≡ some v → held v ≡ terms.passes → AreBelow h.counter v.draws
closes terms id v s h at all = record { each = λ x. let e = alone (λ (v : View). times x v.draws) held (times_le x) s.views id v at (h.passes ∙ sym all) in omega (arith, h.each x) }
