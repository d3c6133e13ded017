-- The computed multiple is the least one, and how `round_up` finds it.
use Rattle.std.proofs.Common.{◌≡◌, ℕ, ◌+◌, ◌-◌, ◌*◌, ◌/◌, ◌%◌, ◌^◌, ◌<◌, ◌≤◌, ◌≢◌, inl, inr, refl, sym, ap, subst, arith, Option, Some, None, SomeIff, IfSome, IsSome}
use Rattle.std.proofs.Math.Nat.{mul-le-mul_right, mod-lt, le_antisymm}
use Rattle.std.proofs.lemmas.Bool.{cases_lt, lt-ltb, le-ltb}
use Rattle.std.proofs.lemmas.Nat.{div-add-mod', pow_pos}
use Rattle.mo_bytes.specs.Rounding.{least_multiple, least_multiple_below, IsLeastMultiple}

-- two multiples less than one unit apart are in order
pub below_next : (unit count other : ℕ) → count * unit < other * unit + unit → count * unit ≤ other * unit
below_next unit count other near =
    elim (cases_lt other count) [
      | inl less ↦ let reach : (other + 1) * unit ≤ count * unit = mul-le-mul_right unit (omega arith) in omega arith
      | inr enough ↦ mul-le-mul_right unit enough
    ]

-- a multiple that is less than one unit past the value is the least one
pub is_least : (unit value count : ℕ) → value ≤ count * unit → count * unit < value + unit → IsLeastMultiple unit value (count * unit)
is_least unit value count enough near = record {
  whole = (count, refl);
  enough = enough;
  least = λ other h. below_next unit count other (omega arith);
}

pub is_least_computed : (unit value : ℕ) → 0 < unit → IsLeastMultiple unit value (least_multiple unit value)
unfolding least_multiple
is_least_computed unit value some =
    let parts : (value + (unit - 1)) / unit * unit + (value + (unit - 1)) % unit ≡ value + (unit - 1) = div-add-mod' _ unit in
    let rest : (value + (unit - 1)) % unit < unit = mod-lt _ some in
    is_least unit value ((value + (unit - 1)) / unit) (omega arith) (omega arith)

-- there is one least multiple
pub same_least : (unit value a b : ℕ) → IsLeastMultiple unit value a → IsLeastMultiple unit value b → a ≡ b
same_least unit value a b p q =
    le_antisymm
    (let below : a ≤ q.whole.0 * unit = p.least q.whole.0 (subst (λ (n : ℕ). value ≤ n) q.whole.1 q.enough) in omega (arith, q.whole.1))
    (let below : b ≤ p.whole.0 * unit = q.least p.whole.0 (subst (λ (n : ℕ). value ≤ n) p.whole.1 p.enough) in omega (arith, p.whole.1))

-- a value that is a multiple
pub is_least_whole : (unit value : ℕ) → 0 < unit → value % unit ≡ 0 → IsLeastMultiple unit value value
is_least_whole unit value some whole =
    let parts : value / unit * unit + value % unit ≡ value = div-add-mod' value unit in
    let e : value / unit * unit ≡ value = omega arith in
    subst (λ (n : ℕ). IsLeastMultiple unit value n) e (is_least unit value (value / unit) (omega arith) (omega arith))

-- a value past a multiple
pub is_least_past : (unit value past : ℕ) → 0 < unit → past ≡ value % unit → past ≢ 0 → IsLeastMultiple unit value (value + (unit - past))
is_least_past unit value past some e past_some =
    let parts : value / unit * unit + value % unit ≡ value = div-add-mod' value unit in
    let rest : value % unit < unit = mod-lt value some in
    let next : (value / unit + 1) * unit ≡ value + (unit - past) = omega arith in
    subst (λ (n : ℕ). IsLeastMultiple unit value n) next (is_least unit value (value / unit + 1) (omega arith) (omega arith))

pub least_multiple_whole : (unit value : ℕ) → 0 < unit → value % unit ≡ 0 → least_multiple unit value ≡ value
least_multiple_whole unit value some whole =
    same_least unit value _ _ (is_least_computed unit value some) (is_least_whole unit value some whole)

pub least_multiple_past : (unit value past : ℕ) → 0 < unit → past ≡ value % unit → past ≢ 0 → least_multiple unit value ≡ value + (unit - past)
least_multiple_past unit value past some e past_some =
    same_least unit value _ _ (is_least_computed unit value some) (is_least_past unit value past some e past_some)

-- What `round_up` answers, for a multiple and for another value, with the unit as it was computed.
pub whole_below : (limit unit exponent value : ℕ) → unit ≡ 2 ^ exponent → value % unit ≡ 0 → value < limit → Some value ≡ least_multiple_below limit (2 ^ exponent) value
whole_below limit unit exponent value e whole within =
    let some : 0 < 2 ^ exponent = pow_pos exponent in
    let same : least_multiple (2 ^ exponent) value ≡ value = least_multiple_whole (2 ^ exponent) value some (rw e at whole) in
    rw same (rw (lt-ltb value limit within) refl)

pub whole_is_least : (unit exponent value : ℕ) → unit ≡ 2 ^ exponent → value % unit ≡ 0 → IsLeastMultiple (2 ^ exponent) value value
whole_is_least unit exponent value e whole = is_least_whole (2 ^ exponent) value (pow_pos exponent) (rw e at whole)

pub past_below : (limit unit exponent value : ℕ) (sum : Option ℕ) → unit ≡ 2 ^ exponent → (value % unit ≡ 0 → ⊥) → SomeIff sum (value + (unit - value % unit) < limit) (value + (unit - value % unit)) → sum ≡ least_multiple_below limit (2 ^ exponent) value
past_below limit unit exponent value None e past cause =
    let some : 0 < unit = rw e (pow_pos exponent) in
    let same : least_multiple unit value ≡ value + (unit - value % unit) = least_multiple_past unit value _ some refl past in
    rw (← e) (rw same (rw (le-ltb (value + (unit - value % unit)) limit (omega arith)) refl))
past_below limit unit exponent value (Some sum) e past cause =
    let some : 0 < unit = rw e (pow_pos exponent) in
    let same : least_multiple unit value ≡ value + (unit - value % unit) = least_multiple_past unit value _ some refl past in
    rw (← e) (rw same (rw (lt-ltb _ limit cause.0) (ap Some cause.1)))

pub past_is_least : (limit unit exponent value : ℕ) (sum : Option ℕ) → unit ≡ 2 ^ exponent → (value % unit ≡ 0 → ⊥) → SomeIff sum (value + (unit - value % unit) < limit) (value + (unit - value % unit)) → IfSome sum (IsLeastMultiple (2 ^ exponent) value)
past_is_least limit unit exponent value None e past cause = tt
past_is_least limit unit exponent value (Some sum) e past cause =
    let some : 0 < unit = rw e (pow_pos exponent) in
    rw (← e) (subst (λ (n : ℕ). IsLeastMultiple unit value n) (sym cause.1) (is_least_past unit value _ some refl past))

-- What `round_up` answers is less than one unit past the value.
pub whole_near : (unit exponent value : ℕ) → unit ≡ 2 ^ exponent → value < value + 2 ^ exponent
whole_near unit exponent value e = let some : 0 < 2 ^ exponent = pow_pos exponent in omega arith

pub past_near : (limit unit exponent value : ℕ) (sum : Option ℕ) → unit ≡ 2 ^ exponent → (value % unit ≡ 0 → ⊥) → SomeIff sum (value + (unit - value % unit) < limit) (value + (unit - value % unit)) → IfSome sum (λ multiple. multiple < value + 2 ^ exponent)
past_near limit unit exponent value None e past cause = tt
past_near limit unit exponent value (Some sum) e past cause =
    let some : 0 < unit = rw e (pow_pos exponent) in
    let rest : value % unit < unit = mod-lt value some in
    let same : sum ≡ value + (unit - value % unit) = cause.1 in
    rw (← e) (omega arith)

pub past_fits : (limit unit exponent value : ℕ) (sum : Option ℕ) → unit ≡ 2 ^ exponent → (value % unit ≡ 0 → ⊥) → SomeIff sum (value + (unit - value % unit) < limit) (value + (unit - value % unit)) → value + 2 ^ exponent ≤ limit → IsSome sum
past_fits limit unit exponent value None e past cause room =
    let some : 0 < unit = rw e (pow_pos exponent) in
    let rest : value % unit < unit = mod-lt value some in
    let room_of : value + unit ≤ limit = rw e room in
    absurd (cause (omega arith))
past_fits limit unit exponent value (Some sum) e past cause room = refl
