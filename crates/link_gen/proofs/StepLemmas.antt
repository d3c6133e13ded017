-- Steps that follow each other.
use Rattle.std.proofs.Common.{◌≡◌, ℕ, zero, suc, ◌+◌, ◌*◌, ◌%◌, ◌/◌, ◌<◌, ◌^◌, refl, sym, ap, ◌∙◌, arith, subst}
use Rattle.std.proofs.lemmas.Nat.{mul-mod_first, mul-mod_second}
use Rattle.std.proofs.Math.Nat.{add-mul, mul_assoc}
use Rattle.link_gen.specs.Draws.{IsSteps, after, next}
use Rattle.link_gen.specs.declared.draws.Steps.{Steps}

pub after_below : (n x : ℕ) → x < 2 ^ 64 → after n x < 2 ^ 64
unfolding next
after_below zero x low = low
after_below (suc n) x low = omega arith

after_add : (n m x : ℕ) → after (n + m) x ≡ after m (after n x)
after_add n zero x = let e : n + 0 ≡ n = omega arith in rw e refl
after_add n (suc m) x = let e : n + suc m ≡ suc (n + m) = omega arith in rw e (ap next (after_add n m x))

pub leads_to : (steps : Steps) (x r n : ℕ) → x < 2 ^ 64 → r ≡ (x * steps.multiplier + steps.increment) % 2 ^ 64 → IsSteps n steps → r ≡ after n x
leads_to steps x r n low is s = is ∙ sym (s.leads x low)

pub ruleset leading = (leads_to)

-- a product and a sum modulo 2^64, of remainders or of the numbers
sum_modulo : (a b : ℕ) → (a % 2 ^ 64 + b % 2 ^ 64) % 2 ^ 64 ≡ (a + b) % 2 ^ 64
sum_modulo a b = omega arith

sum_first : (a b : ℕ) → (a % 2 ^ 64 + b) % 2 ^ 64 ≡ (a + b) % 2 ^ 64
sum_first a b = omega arith

products : (x a b c : ℕ) → (x * a + c) * b ≡ x * (a * b) + c * b
products x a b c = add-mul (x * a) c b ∙ ap (λ (y : ℕ). y + c * b) (mul_assoc x a b)

twice : (x a c b d : ℕ) → ((x * a + c) % 2 ^ 64 * b + d) % 2 ^ 64 ≡ (x * (a * b % 2 ^ 64) + (c * b + d) % 2 ^ 64) % 2 ^ 64
twice x a c b d =
    sym (sum_first ((x * a + c) % 2 ^ 64 * b) d)
    ∙ ap (λ (y : ℕ). (y + d) % 2 ^ 64) (mul-mod_first (x * a + c) b (2 ^ 64))
    ∙ sum_first ((x * a + c) * b) d
    ∙ ap (λ (y : ℕ). (y + d) % 2 ^ 64) (products x a b c)
    ∙ regroup (x * (a * b)) (c * b) d
    ∙ sym (sum_modulo (x * (a * b)) (c * b + d))
    ∙ ap (λ (y : ℕ). (y + (c * b + d) % 2 ^ 64) % 2 ^ 64) (sym (mul-mod_second x (a * b) (2 ^ 64)))
    ∙ last (x * (a * b % 2 ^ 64)) (c * b + d)
  where
    regroup : (p q r : ℕ) → (p + q + r) % 2 ^ 64 ≡ (p + (q + r)) % 2 ^ 64
    regroup p q r = omega arith

    last : (p q : ℕ) → (p % 2 ^ 64 + q % 2 ^ 64) % 2 ^ 64 ≡ (p + q % 2 ^ 64) % 2 ^ 64
    last p q = omega arith

pub composes : (first later both : Steps) (n m : ℕ) → both.multiplier ≡ (first.multiplier * later.multiplier) % 2 ^ 64 → both.increment ≡ (first.increment * later.multiplier + later.increment) % 2 ^ 64 → IsSteps n first → IsSteps m later → IsSteps (n + m) both
composes first later both n m product sum one two = record {
  leads = λ x low.
      after_add n m x
      ∙ two.leads (after n x) (after_below n x low)
      ∙ ap (λ (y : ℕ). (y * later.multiplier + later.increment) % 2 ^ 64) (one.leads x low)
      ∙ twice x first.multiplier first.increment later.multiplier later.increment
      ∙ ap (λ (y : ℕ). (x * y + (first.increment * later.multiplier + later.increment) % 2 ^ 64) % 2 ^ 64) (sym product)
      ∙ ap (λ (y : ℕ). (x * both.multiplier + y) % 2 ^ 64) (sym sum);
}

pub ruleset composed = (composes)

pub no_step : (steps : Steps) (n : ℕ) → steps.multiplier ≡ 1 → steps.increment ≡ 0 → n ≡ 0 → IsSteps n steps
no_step steps n one none is = record { leads = λ x low. rw (is, one, none) (omega arith) }

pub one_step : (steps : Steps) → steps ≡ record { multiplier = 6364136223846793005; increment = 1442695040888963407 } → IsSteps 1 steps
unfolding next
one_step steps is = record { leads = λ x low. rw is refl }

pub even_steps : (steps : Steps) (n half : ℕ) → IsSteps (half + half) steps → half ≡ n / 2 → n % 2 ≡ 0 → IsSteps n steps
even_steps steps n half s is even = let e : half + half ≡ n = omega arith in subst (λ (k : ℕ). IsSteps k steps) e s

pub odd_steps : (steps : Steps) (n half : ℕ) → IsSteps (half + half + 1) steps → half ≡ n / 2 → n % 2 ≡ 1 → IsSteps n steps
odd_steps steps n half s is odd = let e : half + half + 1 ≡ n = omega arith in subst (λ (k : ℕ). IsSteps k steps) e s

pub ruleset stepping = (no_step, one_step, even_steps, odd_steps)
