-- Numbers that each come from the one before it: a linear congruential generator modulo 2^64 with the multiplier and
-- the increment of Knuth's MMIX.
use Rattle.std.specs.Prelude.{ℕ, zero, suc, ◌+◌, ◌*◌, ◌/◌, ◌%◌, ◌^◌, ◌<◌, ◌≡◌}
use Rattle.link_gen.specs.declared.draws.TheConstants.{INCREMENT, MULTIPLIER}
use Rattle.link_gen.specs.declared.draws.Steps.{Steps}

-- the number that follows
unfoldable pub next : ℕ → ℕ
next x = (x * MULTIPLIER + INCREMENT) % 2 ^ 64

-- the number that n steps lead to
abbrev pub after : ℕ → ℕ → ℕ
after zero x = x
after (suc n) x = next (after n x)

-- one product and one sum lead from each number to the one that n steps lead to
pub record IsSteps (n : ℕ) (steps : Steps) : Type 0 where
  pub leads : (x : ℕ) → x < 2 ^ 64 → after n x ≡ (x * steps.multiplier + steps.increment) % 2 ^ 64

-- The draw of a number from 0 among so many functions. The numbers begin at their count, each draw takes a step, and
-- the low 33 bits don't count.
unfoldable pub drawn : ℕ → ℕ → ℕ
drawn count draw = after (draw + 1) count / 2 ^ 33 % count
