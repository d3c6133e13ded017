-- The digits of a number, read one after the other.
use Rattle.std.proofs.Common.{◌≡◌, ℕ, ◌+◌, ◌*◌, ◌<◌, ◌≤◌, ◌∷◌, [], List, length, drop, get_or, false, Option, Some, None, eqb, refl, sym, ap, ◌∙◌, arith, add-one, drop-cons}
use Rattle.std.proofs.lemmas.List.{drop_all}
use Rattle.std.specs.Option.{option_and_then}
use Rattle.std.specs.Prelude.{nat_le}
use Rattle.std.proofs.lemmas.Grind.{common_steps}
use Rattle.mo_cmd.specs.Numbers.{digit_in, number_after, number_up_to, where_true}

pub record IsCounting (base : ℕ) (text : List ℕ) (at number : ℕ) : Type 0 where
  pub same : number_after base number (drop at text) ≡ number_after base 0 text

pub count_starts : (base : ℕ) (text : List ℕ) → IsCounting base text 0 0
count_starts base text = record { same = refl }

from_digit : (base : ℕ) (text : List ℕ) (at number byte : ℕ) → at < length text → byte ≡ get_or text at byte → number_after base number (drop at text) ≡ option_and_then (λ digit. number_after base (number * base + digit) (drop (at + 1) text)) (digit_in base byte)
from_digit base text at number byte within is =
    let e : drop at text ≡ byte ∷ drop (at + 1) text = rw (drop-cons text at byte, ← is, add-one) refl in
    ap (number_after base number) e

pub count_goes_on : (base : ℕ) (text : List ℕ) (at number byte digit more : ℕ) → IsCounting base text at number → at < length text → byte ≡ get_or text at byte → Some digit ≡ digit_in base byte → more ≡ number * base + digit → IsCounting base text (at + 1) more
count_goes_on base text at number byte digit more counting within is read sum =
    let e : number_after base number (drop at text) ≡ number_after base (number * base + digit) (drop (at + 1) text) =
    from_digit base text at number byte within is ∙ ap (option_and_then (λ next. number_after base (number * base + next) (drop (at + 1) text))) (sym read) in
    record { same = ap (λ (n : ℕ). number_after base n (drop (at + 1) text)) sum ∙ sym e ∙ counting.same }

counted : (base most : ℕ) (text : List ℕ) → 0 < length text → number_up_to base most text ≡ option_and_then (where_true (λ number. nat_le number most)) (number_after base 0 text)
unfolding number_up_to
counted base most text some =
    let filled : eqb (length text) 0 ≡ false = grind (arith, common_steps) in
    rw filled refl

pub count_fails : (base most : ℕ) (text : List ℕ) (at number byte : ℕ) → IsCounting base text at number → at < length text → byte ≡ get_or text at byte → None ≡ digit_in base byte → None ≡ number_up_to base most text
count_fails base most text at number byte counting within is none =
    sym (counted base most text (omega arith) ∙ ap (option_and_then (where_true (λ n. nat_le n most)))
    (sym counting.same ∙ from_digit base text at number byte within is ∙ ap (option_and_then (λ next. number_after base (number * base + next) (drop (at + 1) text))) (sym none)))

grows_step : (base number : ℕ) (bytes : List ℕ) (digit : Option ℕ) (value : ℕ) → 0 < base → ((n v : ℕ) → number_after base n bytes ≡ Some v → n ≤ v) → option_and_then (λ next. number_after base (number * base + next) bytes) digit ≡ Some value → number ≤ value
grows_step base number bytes None value some later is = cc
grows_step base number bytes (Some digit) value some later is = grown number base digit value some (later (number * base + digit) value is)
  where
    grown : (number base digit value : ℕ) → 0 < base → number * base + digit ≤ value → number ≤ value
    grown number base digit value some below = grind arith

grows : (base number value : ℕ) (bytes : List ℕ) → 0 < base → number_after base number bytes ≡ Some value → number ≤ value
grows base number value [] some is = let e : number ≡ value = cc in omega arith
grows base number value (byte ∷ bytes) some is = grows_step base number bytes (digit_in base byte) value some (λ n v. grows base n v bytes some) is

above : (most : ℕ) (read : Option ℕ) → ((value : ℕ) → read ≡ Some value → most < value) → option_and_then (where_true (λ number. nat_le number most)) read ≡ None
above most None large = refl
above most (Some value) large = let past : most < value = large value refl in chosen most value past
  where
    chosen : (most value : ℕ) → most < value → where_true (λ number. nat_le number most) value ≡ None
    chosen most value past = grind (arith, common_steps)

pub count_passes : (base most : ℕ) (text : List ℕ) (at number byte digit more : ℕ) → IsCounting base text at number → 0 < base → at < length text → byte ≡ get_or text at byte → Some digit ≡ digit_in base byte → more ≡ number * base + digit → most < more → None ≡ number_up_to base most text
count_passes base most text at number byte digit more counting some within is read sum past =
    let next : IsCounting base text (at + 1) more = count_goes_on base text at number byte digit more counting within is read sum in
    sym (counted base most text (omega arith) ∙ above most (number_after base 0 text) (λ value is_value.
    let below : more ≤ value = grows base more value (drop (at + 1) text) some (next.same ∙ is_value) in omega arith))

pub count_ends : (base most : ℕ) (text : List ℕ) (at number : ℕ) → IsCounting base text at number → 0 < length text → length text ≤ at → number ≤ most → Some number ≡ number_up_to base most text
count_ends base most text at number counting some past within =
    sym (counted base most text some ∙ ap (option_and_then (where_true (λ n. nat_le n most))) (sym counting.same ∙ ap (number_after base number) (drop_all at text past)) ∙ chosen most number within)
  where
    chosen : (most value : ℕ) → value ≤ most → where_true (λ number. nat_le number most) value ≡ Some value
    chosen most value within = grind (arith, common_steps)

pub none_of_nothing : (base most : ℕ) (text : List ℕ) → length text ≡ 0 → None ≡ number_up_to base most text
unfolding number_up_to
none_of_nothing base most text empty = rw empty refl

pub ruleset counting = (count_starts, count_goes_on, count_fails, count_passes, count_ends, none_of_nothing)
