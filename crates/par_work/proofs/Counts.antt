-- Numbers that are counted: those of a range, of blocks, and of a list that rises.
use Rattle.std.proofs.Common.{◌≡◌, ◌≢◌, ℕ, zero, suc, ◌+◌, ◌-◌, ◌*◌, ◌/◌, ◌%◌, ◌<◌, ◌≤◌, min, List, [], ◌∷◌, length, map, get_or, cond, ⊎_elim, refl, sym, ◌∙◌, ap, ap₂, subst, arith, add-mul, one-mul, mul-le-mul_right, div-add-mod', mod-lt, lt_of_mul-lt-mul_right}
use Rattle.std.specs.Prelude.{◌==◌, nat_lt}
use Rattle.std.specs.List.{flat_map, range_with_len}
use Rattle.std.specs.List.Sorted.{IsNonDecreasingBy}
use Rattle.std.proofs.lemmas.Bool.{cases_eq, cases_lt}
use Rattle.std.proofs.lemmas.Bool.Decides.{nat_tests}
use Rattle.std.proofs.lemmas.List.Sums.{sum_by-cons}
use Rattle.par_work.specs.Drawn.{times, once_below, AreBelow}
use Rattle.par_work.specs.declared.blocks.Blocks.{Blocks}
use Rattle.par_work.specs.inner.Blocks.{AreBlocks, block_jobs}
use Rattle.par_work.specs.inner.Worked.{IsThrough}
use Rattle.par_work.proofs.Steps.{times-append}

-- once where the number is one of the m from a on
abbrev pub once_from : ℕ → ℕ → ℕ → ℕ
once_from x a m = cond (nat_lt x a) 0 (once_below x (a + m))

pub in_window : (x a m : ℕ) → a ≤ x → x < a + m → once_from x a m ≡ 1
in_window x a m low high = grind (arith, nat_tests)

pub below_window : (x a m : ℕ) → x < a → once_from x a m ≡ 0
below_window x a m low = grind (arith, nat_tests)

pub past_window : (x a m : ℕ) → a + m ≤ x → once_from x a m ≡ 0
past_window x a m high = grind (arith, nat_tests)

window_step : (x a m : ℕ) → once_from x a (suc m) ≡ cond (a == x) 1 0 + once_from x (a + 1) m
window_step x a m = grind (arith, nat_tests)

hit : (x : ℕ) → ◌≡◌ {A = ℕ} (cond (x == x) 1 0) 1
hit x = grind (arith, nat_tests)

miss : (y x : ℕ) → y ≢ x → ◌≡◌ {A = ℕ} (cond (y == x) 1 0) 0
miss y x apart = grind (arith, nat_tests)

times_cons : (x y : ℕ) (ys : List ℕ) → times x (y ∷ ys) ≡ cond (y == x) 1 0 + times x ys
times_cons x y ys = sum_by-cons (λ (y : ℕ). cond (y == x) 1 0) y ys

pub times_range : (x a m : ℕ) → times x (range_with_len a m) ≡ once_from x a m
times_range x a zero = sym (none x a)
  where
    none : (x a : ℕ) → once_from x a 0 ≡ 0
    none x a = grind (arith, nat_tests)
times_range x a (suc m) = omega (arith, times_cons x a (range_with_len (a + 1) m), times_range x (a + 1) m, window_step x a m)

-- a block has a job where it is the one of the job's quotient
block_hits : (b : Blocks) (block x : ℕ) → 0 < b.size → x < b.jobs → times x (block_jobs b block) ≡ cond (block == x / b.size) 1 0
block_hits b block x some near =
    let q : ℕ = x / b.size in
    let from : q * b.size ≤ x = omega (arith, div-add-mod' x b.size) in
    let to : x < q * b.size + b.size = let m : x % b.size < b.size = mod-lt x some in omega (arith, div-add-mod' x b.size) in
    times_range x (block * b.size) (min b.size (b.jobs - block * b.size))
    ∙ ⊎_elim
    (λ (same : block ≡ q). let start : block * b.size ≡ q * b.size = ap (λ n. n * b.size) same in
    in_window x (block * b.size) (min b.size (b.jobs - block * b.size)) (omega arith) (omega arith) ∙ sym (subst (λ n. ◌≡◌ {A = ℕ} (cond (n == q) 1 0) 1) (sym same) (hit q)))
    (λ (apart : block ≢ q).
    ⊎_elim
    (λ (less : block < q). let up : (block + 1) * b.size ≤ q * b.size = mul-le-mul_right {m = block + 1} {n = q} b.size (omega arith) in
    past_window x (block * b.size) (min b.size (b.jobs - block * b.size)) (omega (arith, add-mul block 1 b.size, one-mul b.size)) ∙ sym (miss block q apart))
    (λ (more : q ≤ block). let up : (q + 1) * b.size ≤ block * b.size = mul-le-mul_right {m = q + 1} {n = block} b.size (omega arith) in
    below_window x (block * b.size) (min b.size (b.jobs - block * b.size)) (omega (arith, add-mul q 1 b.size, one-mul b.size)) ∙ sym (miss block q apart))
    (cases_lt block q))
    (cases_eq block q)

block_misses : (b : Blocks) (block x : ℕ) → b.jobs ≤ x → times x (block_jobs b block) ≡ 0
block_misses b block x far =
    times_range x (block * b.size) (min b.size (b.jobs - block * b.size))
    ∙ ⊎_elim
    (λ (less : x < block * b.size). below_window x (block * b.size) (min b.size (b.jobs - block * b.size)) less)
    (λ (more : block * b.size ≤ x). past_window x (block * b.size) (min b.size (b.jobs - block * b.size)) (omega arith))
    (cases_lt x (block * b.size))

-- a job stands in the blocks' jobs as often as its block was drawn
times_blocks : (b : Blocks) (draws : List ℕ) (x : ℕ) → 0 < b.size → x < b.jobs → times x (flat_map (block_jobs b) draws) ≡ times (x / b.size) draws
times_blocks b [] x some near = refl
times_blocks b (block ∷ draws) x some near = omega (arith, times-append x (block_jobs b block) (flat_map (block_jobs b) draws), block_hits b block x some near, times_blocks b draws x some near, times_cons (x / b.size) block draws)

times_none : (b : Blocks) (draws : List ℕ) (x : ℕ) → b.jobs ≤ x → times x (flat_map (block_jobs b) draws) ≡ 0
times_none b [] x far = refl
times_none b (block ∷ draws) x far = omega (arith, times-append x (block_jobs b block) (flat_map (block_jobs b) draws), block_misses b block x far, times_none b draws x far)

once_yes : (x n : ℕ) → x < n → once_below x n ≡ 1
once_yes x n near = grind (arith, nat_tests)

once_no : (x n : ℕ) → n ≤ x → once_below x n ≡ 0
once_no x n far = grind (arith, nat_tests)

-- where each block was drawn once, so was each job
pub each_job : (b : Blocks) (draws : List ℕ) (n : ℕ) → AreBlocks b → AreBelow n draws → b.count ≤ n → AreBelow b.jobs (flat_map (block_jobs b) draws)
each_job b draws n cut below enough = record {
  each = λ x. ⊎_elim
      (λ (near : x < b.jobs).
      let from : x / b.size * b.size ≤ x = omega (arith, div-add-mod' x b.size) in
      let all : b.count * b.size ≤ n * b.size = mul-le-mul_right {m = b.count} {n = n} b.size enough in
      let q : x / b.size < n = lt_of_mul-lt-mul_right b.size (omega (arith, cut.covered)) in
      times_blocks b draws x cut.sized near ∙ (below.each (x / b.size) ∙ (once_yes (x / b.size) n q ∙ sym (once_yes x b.jobs near))))
      (λ (far : b.jobs ≤ x). times_none b draws x far ∙ sym (once_no x b.jobs far))
      (cases_lt x b.jobs);
}

-- where none is left to draw, all blocks were drawn
pub through_all : (count n : ℕ) (draws : List ℕ) → IsThrough count draws → AreBelow n draws → n ≡ length draws → count ≤ n
through_all count n draws h below long =
    ⊎_elim
    (λ (all : count < length draws). omega arith)
    (λ (one : (block : ℕ) × (count ≤ block) × (0 < times block draws)).
    ⊎_elim
    (λ (near : one.0 < n). omega (arith, one.1))
    (λ (far : n ≤ one.0). absurd (omega (arith, one.2, below.each one.0, once_no one.0 n far)))
    (cases_lt one.0 n))
    h

-- an element with a key that is counted
has_key : {X : Type 0} (key : X → ℕ) (xs : List X) (x : ℕ) → 0 < times x (map key xs) → (i : ℕ) × (i < length xs) × ((d : X) → key (get_or xs i d) ≡ x)
has_key key [] x some = absurd (omega arith)
has_key key (y ∷ ys) x some =
    ⊎_elim
    (λ (same : key y ≡ x). (0, omega arith, λ d. same))
    (λ (apart : key y ≢ x). let rest = has_key key ys x (omega (arith, some, times_cons x (key y) (map key ys), miss (key y) x apart)) in (suc rest.0, omega (arith, rest.1), λ d. rest.2 d))
    (cases_eq (key y) x)

rises_tail : {X : Type 0} (key : X → ℕ) (y : X) (ys : List X) → IsNonDecreasingBy key (y ∷ ys) → IsNonDecreasingBy key ys
rises_tail key y ys up i j d le near = up (suc i) (suc j) d (omega arith) (omega arith)

-- keys that rise, and are those of a range, each once, are that range
pub keys_are : {X : Type 0} (key : X → ℕ) (m a : ℕ) (xs : List X) → IsNonDecreasingBy key xs → ((x : ℕ) → times x (map key xs) ≡ once_from x a m) → map key xs ≡ range_with_len a m
keys_are key zero a [] up each = refl
keys_are key zero a (y ∷ ys) up each = absurd (omega (arith, each (key y), times_cons (key y) (key y) (map key ys), hit (key y), empty (key y) a))
  where
    empty : (x a : ℕ) → once_from x a 0 ≡ 0
    empty x a = grind (arith, nat_tests)
keys_are key (suc m) a [] up each = absurd (omega (arith, each a, full a m))
  where
    full : (a m : ℕ) → once_from a a (suc m) ≡ 1
    full a m = in_window a a (suc m) (omega arith) (omega arith)
keys_are key (suc m) a (y ∷ ys) up each =
    let low : a ≤ key y =
    ⊎_elim
    (λ (less : key y < a). absurd (omega (arith, each (key y), times_cons (key y) (key y) (map key ys), hit (key y), below_window (key y) a (suc m) less)))
    (λ (more : a ≤ key y). more)
    (cases_lt (key y) a) in
    let full : once_from a a (suc m) ≡ 1 = in_window a a (suc m) (omega arith) (omega arith) in
    let there = has_key key (y ∷ ys) a (omega (arith, each a, full)) in
    let high : key y ≤ a = subst (λ n. key y ≤ n) (there.2 y) (up 0 there.0 y (omega arith) there.1) in
    let is : key y ≡ a = omega arith in
    let rest = keys_are key m (a + 1) ys (rises_tail key y ys up) (λ x. omega (arith, each x, times_cons x (key y) (map key ys), window_step x a m, ap {B = ℕ} (λ n. cond (n == x) 1 0) is)) in ap₂ (λ x xs. x ∷ xs) is rest
