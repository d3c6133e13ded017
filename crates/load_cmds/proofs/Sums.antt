-- A loop that adds up numbers below 2^63 + 2^33.
use Rattle.std.proofs.Common.{◌≡◌, ℕ, ◌+◌, ◌*◌, ◌%◌, ◌<◌, ◌≤◌, ◌^◌, List, [], ◌∷◌, length, drop, get_or, refl, sym, ap, ◌∙◌, subst, arith}
use Rattle.std.proofs.lemmas.List.{at_drop_more, at_drop_all}
use Rattle.load_cmds.specs.Sizes.{total_by}

pub record IsSumming {X : Type 0} (f : X → ℕ) (xs : List X) (at total : ℕ) : Type 0 where
  pub rest : total + total_by f (drop at xs) ≡ total_by f xs
  pub small : total ≤ at * (2 ^ 63 + 2 ^ 33)

pub summing_starts : {X : Type 0} (f : X → ℕ) (xs : List X) → IsSumming f xs 0 0
summing_starts f xs = record { rest = omega arith; small = omega arith }

pub summing_goes_on : {X : Type 0} (f : X → ℕ) (xs : List X) (at total new y : ℕ) (x : X) → IsSumming f xs at total → at < length xs → x ≡ get_or xs at x → y ≡ f x → y < 2 ^ 63 + 2 ^ 33 → new ≡ total + y → IsSumming f xs (at + 1) new
summing_goes_on f xs at total new y x summing within is same low e =
    let here : total_by f (drop at xs) ≡ f (get_or xs at x) + total_by f (drop (at + 1) xs) = at_drop_more (total_by f) xs at x within in
    let value : y ≡ f (get_or xs at x) = same ∙ ap f is in
    record {
      rest = (let r = summing.rest in omega arith);
      small = (let s = summing.small in omega arith);
    }

pub summing_ends : {X : Type 0} (f : X → ℕ) (xs : List X) (at total : ℕ) → IsSumming f xs at total → length xs ≤ at → total ≡ total_by f xs
summing_ends f xs at total summing past =
    let none : total_by f (drop at xs) ≡ 0 = at_drop_all (total_by f) xs at past in
    let r = summing.rest in omega arith

pub ruleset summing = (summing_starts, summing_goes_on, summing_ends)

-- a sum modulo 2^32 is that of what is left of both
pub sum_modulo : (a b : ℕ) → (a % 2 ^ 32 + b % 2 ^ 32) % 2 ^ 32 ≡ (a + b) % 2 ^ 32
sum_modulo a b = omega arith
