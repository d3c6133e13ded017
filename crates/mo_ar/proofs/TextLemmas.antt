-- Texts without their padding, and numbers in decimal digits.
use Rattle.std.proofs.Common.{tests, ◌≡◌, ℕ, suc, ◌+◌, ◌-◌, ◌*◌, ◌^◌, ◌<◌, ◌≤◌, ◌==◌, List, [], ◌∷◌, ◌++◌, length, take, drop, get_or, true, false, Some, None, refl, sym, ap, ◌∙◌, arith, add-one, drop-cons}
use Rattle.std.proofs.Math.Nat.{pow-suc, pow-le-pow_right}
use Rattle.std.proofs.Math.Seq.{take-suc}
use Rattle.std.proofs.lemmas.List.{take_all, drop_all, length-take, take-take}
use Rattle.mo_ar.specs.Text.{ended, trimmed, decimal, decimal_from}
use Rattle.std.specs.Char.{is_ascii_digit}

same_is : (x : ℕ) → (x == x) ≡ true
same_is x = grind (arith, tests)

padding_goes : (padding : ℕ) (xs : List ℕ) → trimmed padding (xs ++ padding ∷ []) ≡ trimmed padding xs
unfolding trimmed
padding_goes padding [] = rw (same_is padding) refl
padding_goes padding (x ∷ xs) = ap (ended padding x) (padding_goes padding xs)

before_some : (padding x y : ℕ) (xs : List ℕ) → ended padding x (xs ++ y ∷ []) ≡ x ∷ (xs ++ y ∷ [])
before_some padding x y [] = refl
before_some padding x y (z ∷ zs) = refl

other_stays : (padding y : ℕ) (xs : List ℕ) → (y == padding) ≡ false → trimmed padding (xs ++ y ∷ []) ≡ xs ++ y ∷ []
unfolding trimmed
other_stays padding y [] other = rw other refl
other_stays padding y (x ∷ xs) other = ap (ended padding x) (other_stays padding y xs other) ∙ before_some padding x y xs

-- what stands from a place on is padding
pub record IsTrimming (padding : ℕ) (text : List ℕ) (end : ℕ) : Type 0 where
  pub same : trimmed padding (take end text) ≡ trimmed padding text
  pub within : end ≤ length text

pub trim_starts : (padding : ℕ) (text : List ℕ) → IsTrimming padding text (length text)
trim_starts padding text = record { same = ap (trimmed padding) (take_all (length text) text (omega arith)); within = omega arith }

last_of : (text : List ℕ) (end : ℕ) → 0 < end → end ≤ length text → take end text ≡ take (end - 1) text ++ get_or text (end - 1) 0 ∷ []
last_of text end some within =
    let e : end ≡ suc (end - 1) = omega arith in
    let t : take (suc (end - 1)) text ≡ take (end - 1) text ++ get_or text (end - 1) 0 ∷ [] = take-suc text (end - 1) 0 (omega arith) in
    ap (λ (n : ℕ). take n text) e ∙ t

pub trim_goes_on : (padding : ℕ) (text : List ℕ) (end : ℕ) → IsTrimming padding text end → 0 < end → get_or text (end - 1) 0 ≡ padding → IsTrimming padding text (end - 1)
trim_goes_on padding text end trimming some is = record {
  same =
      let e : take end text ≡ take (end - 1) text ++ padding ∷ [] = rw is at (last_of text end some trimming.within) in
      sym (padding_goes padding (take (end - 1) text)) ∙ ap (trimmed padding) (sym e) ∙ trimming.same;
  within = omega arith;
}

pub trim_ends_empty : (padding : ℕ) (text : List ℕ) (end : ℕ) → IsTrimming padding text end → end ≤ 0 → take end text ≡ trimmed padding text
unfolding trimmed
trim_ends_empty padding text end trimming none =
    let e : end ≡ 0 = omega arith in
    let t : take end text ≡ [] = rw e refl in
    t ∙ sym (ap (trimmed padding) t) ∙ trimming.same

not_equal : (x y : ℕ) → (x ≡ y → ⊥) → (x == y) ≡ false
not_equal x y other = grind (arith, tests)

pub trim_ends : (padding : ℕ) (text : List ℕ) (end : ℕ) → IsTrimming padding text end → 0 < end → (get_or text (end - 1) 0 ≡ padding → ⊥) → take end text ≡ trimmed padding text
trim_ends padding text end trimming some other =
    let e : take end text ≡ take (end - 1) text ++ get_or text (end - 1) 0 ∷ [] = last_of text end some trimming.within in
    let t : trimmed padding (take end text) ≡ take end text =
    ap (trimmed padding) e ∙ other_stays padding (get_or text (end - 1) 0) (take (end - 1) text) (not_equal (get_or text (end - 1) 0) padding other) ∙ sym e in
    sym t ∙ trimming.same

pub ruleset trims = (trim_starts, trim_goes_on, trim_ends_empty, trim_ends)

-- the digits below a place are read
pub record IsSpelling (text : List ℕ) (i number : ℕ) : Type 0 where
  pub same : decimal_from number (drop i text) ≡ decimal_from 0 text
  pub few : number < 10 ^ i

pub spell_starts : (text : List ℕ) → IsSpelling text 0 0
spell_starts text = record { same = refl; few = omega arith }

at_most : (digit : ℕ) → is_ascii_digit digit ≡ true → digit ≤ 57
at_most digit is = grind (arith, tests)

from_digit : (text : List ℕ) (i number : ℕ) → i < length text → decimal_from number (drop i text) ≡ decimal_from number (get_or text i 0 ∷ drop (i + 1) text)
from_digit text i number more = rw (drop-cons text i 0, add-one) refl

pub spell_goes_on : (text : List ℕ) (i number digit : ℕ) → IsSpelling text i number → i < length text → digit ≡ get_or text i 0 → is_ascii_digit digit ≡ true → IsSpelling text (i + 1) (10 * number + (digit - 0x30))
unfolding decimal_from
spell_goes_on text i number digit spelling more at is = record {
  same =
      let here : is_ascii_digit (get_or text i 0) ≡ true = rw (← at) is in
      let e : decimal_from number (get_or text i 0 ∷ drop (i + 1) text) ≡ decimal_from (10 * number + (get_or text i 0 - 0x30)) (drop (i + 1) text) = rw here refl in
      ap (λ (d : ℕ). decimal_from (10 * number + (d - 0x30)) (drop (i + 1) text)) at ∙ sym e ∙ sym (from_digit text i number more) ∙ spelling.same;
  few = let nine : digit ≤ 57 = at_most digit is in let p : 10 ^ suc i ≡ 10 ^ i * 10 = pow-suc 10 i in let f : number < 10 ^ i = spelling.few in rw add-one (omega (arith, p));
}

pub spell_stops : (text : List ℕ) (i number digit : ℕ) → IsSpelling text i number → i < length text → digit ≡ get_or text i 0 → is_ascii_digit digit ≡ false → None ≡ decimal text
unfolding decimal decimal_from
spell_stops [] i number digit spelling more at is = absurd (omega arith)
spell_stops (x ∷ xs) i number digit spelling more at is =
    let here : is_ascii_digit (get_or (x ∷ xs) i 0) ≡ false = rw (← at) is in
    let e : decimal_from number (get_or (x ∷ xs) i 0 ∷ drop (i + 1) (x ∷ xs)) ≡ None = rw here refl in
    sym e ∙ sym (from_digit (x ∷ xs) i number more) ∙ spelling.same

pub spell_ends : (text : List ℕ) (i number : ℕ) → IsSpelling text i number → 0 < length text → length text ≤ i → Some number ≡ decimal text
unfolding decimal decimal_from
spell_ends [] i number spelling some past = absurd (omega arith)
spell_ends (x ∷ xs) i number spelling some past =
    let e : decimal_from number (drop i (x ∷ xs)) ≡ Some number = rw (drop_all i (x ∷ xs) past) refl in
    sym e ∙ spelling.same

pub nothing_spelled : (text : List ℕ) → length text ≡ 0 → None ≡ decimal text
unfolding decimal
nothing_spelled [] none = refl
nothing_spelled (x ∷ xs) none = absurd (omega arith)

pub few_before : (text : List ℕ) (i number : ℕ) → IsSpelling text i number → i < length text → length text ≤ 16 → number < 10 ^ 15
few_before text i number spelling more short =
    let p : 10 ^ i ≤ 10 ^ 15 = pow-le-pow_right {n = 10} (omega arith) {i = i} {j = 15} (omega arith) in
    let f : number < 10 ^ i = spelling.few in
    omega (arith, p, f)

pub few_after : (text : List ℕ) (i number : ℕ) → IsSpelling text i number → i ≤ 16 → number < 10 ^ 16
few_after text i number spelling short =
    let p : 10 ^ i ≤ 10 ^ 16 = pow-le-pow_right {n = 10} (omega arith) {i = i} {j = 16} short in
    let f : number < 10 ^ i = spelling.few in
    omega (arith, p, f)

pub ruleset digits = (spell_starts, spell_goes_on, spell_stops, spell_ends, nothing_spelled, few_before, few_after)

pub shorter : (k size : ℕ) (xs : List ℕ) (text : List ℕ) → take k (take size xs) ≡ text → k ≤ length (take size xs) → take k xs ≡ text
shorter k size xs text is within =
    let bound : k ≤ size = omega (arith, length-take size xs) in
    sym (take-take k size xs bound) ∙ is

pub ruleset parts = (shorter)
