-- The place of a name by halving.
use Rattle.std.proofs.Common.{◌≡◌, ℕ, zero, suc, ◌+◌, ◌-◌, ◌/◌, ◌<◌, ◌≤◌, Bool, true, false, nat_lt, List, [], ◌∷◌, length, get_or, refl, sym, ap, ◌∙◌, arith, tests, inl, inr}
use Rattle.std.proofs.lemmas.Bool.{cases_lt}
use Rattle.mo_ar.specs.Text.{part}
use Rattle.mo_ar.specs.inner.Order.{halved, is_before, is_before_at, rank}
use Rattle.mo_ar.specs.declared.offers.Entry.{Entry}

below : (a b : ℕ) → a < b → nat_lt a b ≡ true
below a b less = grind (arith, tests)

not_below : (a b : ℕ) → b ≤ a → nat_lt a b ≡ false
not_below a b more = grind (arith, tests)

ends : (n : ℕ) (passes : ℕ → Bool) (low high : ℕ) → high ≤ low → halved n passes low high ≡ low
unfolding halved
ends zero passes low high past = refl
ends (suc n) passes low high past = rw (not_below low high past) refl

up : (n : ℕ) (passes : ℕ → Bool) (low high : ℕ) → low < high → passes (low + (high - low) / 2) ≡ true → halved (suc n) passes low high ≡ halved n passes (low + (high - low) / 2 + 1) high
unfolding halved
up n passes low high less is = rw (below low high less, is) refl

down : (n : ℕ) (passes : ℕ → Bool) (low high : ℕ) → low < high → passes (low + (high - low) / 2) ≡ false → halved (suc n) passes low high ≡ halved n passes low (low + (high - low) / 2)
unfolding halved
down n passes low high less is = rw (below low high less, is) refl

both : (n m : ℕ) (passes : ℕ → Bool) (low high : ℕ) → low < high → halved n passes (low + (high - low) / 2 + 1) high ≡ halved m passes (low + (high - low) / 2 + 1) high → halved n passes low (low + (high - low) / 2) ≡ halved m passes low (low + (high - low) / 2) → (test : Bool) → passes (low + (high - low) / 2) ≡ test → halved (suc n) passes low high ≡ halved (suc m) passes low high
both n m passes low high less above under true is = up n passes low high less is ∙ above ∙ sym (up m passes low high less is)
both n m passes low high less above under false is = down n passes low high less is ∙ under ∙ sym (down m passes low high less is)

start_same : (passes : ℕ → Bool) (low high : ℕ) → halved zero passes low high ≡ low
unfolding halved
start_same passes low high = refl

-- halving more often than needed changes nothing
enough : (n m : ℕ) (passes : ℕ → Bool) (low high : ℕ) → high ≤ low + n → high ≤ low + m → halved n passes low high ≡ halved m passes low high
enough zero zero passes low high a b = refl
enough zero (suc m) passes low high a b = start_same passes low high ∙ sym (ends (suc m) passes low high (omega arith))
enough (suc n) zero passes low high a b = ends (suc n) passes low high (omega arith) ∙ sym (start_same passes low high)
enough (suc n) (suc m) passes low high a b = elim (cases_lt low high) [
  | inl less ↦
      both n m passes low high less (enough n m passes (low + (high - low) / 2 + 1) high (omega arith) (omega arith)) (enough n m passes low (low + (high - low) / 2) (omega arith) (omega arith))
      (passes (low + (high - low) / 2)) refl
  | inr past ↦ ends (suc n) passes low high past ∙ sym (ends (suc m) passes low high past)
]

-- what is left of the halving leads to the place
pub record IsHalving (strings : List ℕ) (entries : List Entry) (name : List ℕ) (low high : ℕ) : Type 0 where
  pub same : rank strings entries name ≡ halved (length entries) (is_before_at strings entries name) low high
  pub within : high ≤ length entries

pub halving_starts : (strings : List ℕ) (entries : List Entry) (name : List ℕ) → IsHalving strings entries name 0 (length entries)
halving_starts strings entries name = record { same = refl; within = omega arith }

at_entry : (strings : List ℕ) (entries : List Entry) (name : List ℕ) (k : ℕ) (d : Entry) → k < length entries → is_before_at strings entries name k ≡ is_before (part strings (get_or entries k d).at (get_or entries k d).size) name
unfolding is_before_at
at_entry strings [] name k d low = absurd (omega arith)
at_entry strings (e ∷ entries) name zero d low = refl
at_entry strings (e ∷ entries) name (suc k) d low = at_entry strings entries name k d (omega arith)

some_step : (n low high : ℕ) (passes : ℕ → Bool) → low < high → high ≤ low + n → passes (low + (high - low) / 2) ≡ true → halved n passes low high ≡ halved n passes (low + (high - low) / 2 + 1) high
some_step zero low high passes less fits is = absurd (omega arith)
some_step (suc n) low high passes less fits is = up n passes low high less is ∙ enough n (suc n) passes (low + (high - low) / 2 + 1) high (omega arith) (omega arith)

other_step : (n low high : ℕ) (passes : ℕ → Bool) → low < high → high ≤ low + n → passes (low + (high - low) / 2) ≡ false → halved n passes low high ≡ halved n passes low (low + (high - low) / 2)
other_step zero low high passes less fits is = absurd (omega arith)
other_step (suc n) low high passes less fits is = down n passes low high less is ∙ enough n (suc n) passes low (low + (high - low) / 2) (omega arith) (omega arith)

pub halving_goes_up : (strings : List ℕ) (entries : List Entry) (name : List ℕ) (low high middle : ℕ) (d : Entry) (own : List ℕ) → IsHalving strings entries name low high → low < high → middle ≡ low + (high - low) / 2 → own ≡ part strings (get_or entries middle d).at (get_or entries middle d).size → is_before own name ≡ true → IsHalving strings entries name (middle + 1) high
halving_goes_up strings entries name low high middle d own halving less place read is =
    let w : high ≤ length entries = halving.within in
    let there : is_before_at strings entries name (low + (high - low) / 2) ≡ true =
    ap (is_before_at strings entries name) (sym place) ∙ at_entry strings entries name middle d (omega arith) ∙ ap (λ (n : List ℕ). is_before n name) (sym read) ∙ is in
    record {
      same = halving.same ∙ some_step (length entries) low high (is_before_at strings entries name) less (omega arith) there
          ∙ ap (λ (k : ℕ). halved (length entries) (is_before_at strings entries name) (k + 1) high) (sym place);
      within = w;
    }

pub halving_goes_down : (strings : List ℕ) (entries : List Entry) (name : List ℕ) (low high middle : ℕ) (d : Entry) (own : List ℕ) → IsHalving strings entries name low high → low < high → middle ≡ low + (high - low) / 2 → own ≡ part strings (get_or entries middle d).at (get_or entries middle d).size → is_before own name ≡ false → IsHalving strings entries name low middle
halving_goes_down strings entries name low high middle d own halving less place read is =
    let w : high ≤ length entries = halving.within in
    let there : is_before_at strings entries name (low + (high - low) / 2) ≡ false =
    ap (is_before_at strings entries name) (sym place) ∙ at_entry strings entries name middle d (omega arith) ∙ ap (λ (n : List ℕ). is_before n name) (sym read) ∙ is in
    record {
      same = halving.same ∙ other_step (length entries) low high (is_before_at strings entries name) less (omega arith) there
          ∙ ap (halved (length entries) (is_before_at strings entries name) low) (sym place);
      within = omega arith;
    }

pub halving_ends : (strings : List ℕ) (entries : List Entry) (name : List ℕ) (low high : ℕ) → IsHalving strings entries name low high → high ≤ low → low ≡ rank strings entries name
halving_ends strings entries name low high halving past = sym (halving.same ∙ ends (length entries) (is_before_at strings entries name) low high past)

pub ruleset halvings = (halving_starts, halving_goes_up, halving_goes_down, halving_ends)
