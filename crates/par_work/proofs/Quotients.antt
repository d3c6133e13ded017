-- The laws of even shares.
use Rattle.std.proofs.Common.{◌≡◌, ℕ, ◌+◌, ◌-◌, ◌*◌, ◌/◌, ◌%◌, ◌<◌, ◌≤◌, ◌∙◌, ap, arith, mul-le-mul_left, lt_of_mul-lt-mul_right, div-add-mod', mod-lt, mul-add, mul-zero, add-mul, mul-one, one-mul, mul_comm}
use Rattle.std.proofs.Math.Nat.{mul-div_right}
use Rattle.par_work.specs.Share.{share_len}

-- a quotient, between its multiples
below_next : (a w : ℕ) → 0 < w → a < (a / w + 1) * w
below_next a w some = let m : a % w < w = mod-lt a some in omega (arith, div-add-mod' a w, add-mul (a / w) 1 w, one-mul w)

above : (a w : ℕ) → a / w * w ≤ a
above a w = omega (arith, div-add-mod' a w)

-- a greater number has no smaller quotient
div_rises : (a b w : ℕ) → 0 < w → a ≤ b → a / w ≤ b / w
div_rises a b w some le =
    let h : a / w < b / w + 1 = lt_of_mul-lt-mul_right w (omega (arith, above a w, below_next b w some)) in omega arith

-- the quotients of two sums differ by that of the second part, or by one more
div_sum_low : (a b w : ℕ) → 0 < w → a / w + b / w ≤ (a + b) / w
div_sum_low a b w some =
    let h : a / w + b / w < (a + b) / w + 1 = lt_of_mul-lt-mul_right w (omega (arith, above a w, above b w, below_next (a + b) w some, add-mul (a / w) (b / w) w)) in omega arith

div_sum_high : (a b w : ℕ) → 0 < w → (a + b) / w ≤ a / w + b / w + 1
div_sum_high a b w some =
    let h : (a + b) / w < a / w + b / w + 2 = lt_of_mul-lt-mul_right w (omega (arith, below_next a w some, below_next b w some, above (a + b) w, add-mul (a / w + 1) (b / w + 1) w, ap (λ n. n * w) (sum_two (a / w) (b / w)))) in omega arith
  where
    sum_two : (x y : ℕ) → x + y + 2 ≡ (x + 1) + (y + 1)
    sum_two x y = omega arith

len_low : (jobs w i : ℕ) → 0 < w → jobs / w ≤ share_len jobs w i
len_low jobs w i some = omega (arith, div_sum_low (jobs * i) jobs w some, ap (λ n. n / w) (more jobs i))
  where
    more : (jobs i : ℕ) → jobs * i + jobs ≡ jobs * (i + 1)
    more jobs i = omega (arith, mul-add jobs i 1, mul-one jobs)

len_high : (jobs w i : ℕ) → 0 < w → share_len jobs w i ≤ jobs / w + 1
len_high jobs w i some = omega (arith, div_sum_high (jobs * i) jobs w some, ap (λ n. n / w) (more jobs i))
  where
    more : (jobs i : ℕ) → jobs * i + jobs ≡ jobs * (i + 1)
    more jobs i = omega (arith, mul-add jobs i 1, mul-one jobs)

pub even : (jobs w i other : ℕ) → 0 < w → share_len jobs w i ≤ share_len jobs w other + 1
even jobs w i other some = omega (arith, len_high jobs w i some, len_low jobs w other some)

-- the end of the last share
pub last_is : (jobs w : ℕ) → 0 < w → jobs * ((w - 1) + 1) / w ≡ jobs
last_is jobs w some = ap (λ n. jobs * n / w) (back w some) ∙ (ap (λ n. n / w) (mul_comm jobs w) ∙ mul-div_right jobs some)
  where
    back : (w : ℕ) → 0 < w → (w - 1) + 1 ≡ w
    back w some = omega arith

pub first_is : (jobs w : ℕ) → 0 < w → jobs * 0 / w ≡ 0
first_is jobs w some = let h : jobs * 0 / w < 1 = lt_of_mul-lt-mul_right w (omega (arith, above (jobs * 0) w, mul-zero jobs, one-mul w)) in omega arith

pub rises_is : (jobs w i : ℕ) → 0 < w → jobs * i / w ≤ jobs * (i + 1) / w
rises_is jobs w i some = div_rises (jobs * i) (jobs * (i + 1)) w some (omega (arith, mul-add jobs i 1))

pub ruleset follow = (last_is, first_is, rises_is)

-- a share ends among the jobs
pub end_fits : (jobs w i : ℕ) → i < w → jobs * (i + 1) / w ≤ jobs
end_fits jobs w i near =
    let h : jobs * (i + 1) / w < jobs + 1 = lt_of_mul-lt-mul_right w (omega (arith, above (jobs * (i + 1)) w, mul-le-mul_left {m = i + 1} {n = w} jobs (omega arith), add-mul jobs 1 w, one-mul w)) in omega arith

pub begin_fits : (jobs w i : ℕ) → i < w → jobs * i / w ≤ jobs
begin_fits jobs w i near = omega (arith, rises_is jobs w i (omega arith), end_fits jobs w i near)

pub ruleset share_fits = (end_fits, begin_fits)
