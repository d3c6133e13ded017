-- A loop that reads the value at each place of a range, or stops at the first fault.
use Rattle.std.proofs.Common.{◌≡◌, ℕ, suc, ◌+◌, ◌-◌, ◌<◌, ◌≤◌, List, [], ◌∷◌, ◌++◌, Result, Ok, Err, refl, sym, ap, ◌∙◌, arith, append_assoc, append-nil}
use Rattle.std.proofs.Math.Nat.{sub-zero}
use Rattle.mo_types.specs.Gives.{◌>>=◌, each_from}

-- an answer with values in front of its own
abbrev pub with_front : {A E : Type 0} → List A → Result (List A) E → Result (List A) E
with_front front read = read >>= λ xs. Ok (front ++ xs)

-- `front` has the values at the places below `at`, of the n places from 0 on
pub record IsReading {A E : Type 0} (value : ℕ → Result A E) (n at : ℕ) (front : List A) : Type 0 where
  pub same : with_front front (each_from value at (n - at)) ≡ each_from value 0 n

with_nothing : {A E : Type 0} (read : Result (List A) E) → with_front [] read ≡ read
with_nothing (Ok xs) = refl
with_nothing (Err e) = refl

pub starts_reading : {A E : Type 0} (value : ℕ → Result A E) (n : ℕ) → IsReading value n 0 []
starts_reading value n = record { same = rw sub-zero (with_nothing (each_from value 0 n)) }

with_more : {A E : Type 0} (front : List A) (x : A) (read : Result (List A) E) → with_front front (read >>= λ xs. Ok (x ∷ xs)) ≡ with_front (front ++ x ∷ []) read
with_more front x (Ok xs) = ap Ok (sym (append_assoc front (x ∷ []) xs))
with_more front x (Err e) = refl

-- what is read from a place on begins with the value there
from_here : {A E : Type 0} (value : ℕ → Result A E) (n at : ℕ) → at < n → each_from value at (n - at) ≡ (value at >>= λ x. each_from value (at + 1) (n - (at + 1)) >>= λ xs. Ok (x ∷ xs))
from_here value n at within =
    let e : n - at ≡ suc (n - (at + 1)) = omega arith in
    rw e refl

pub goes_on : {A E : Type 0} (value : ℕ → Result A E) (n at : ℕ) (front : List A) (x : A) → IsReading value n at front → at < n → value at ≡ Ok x → IsReading value n (at + 1) (front ++ x ∷ [])
goes_on value n at front x reading within here =
    let e : each_from value at (n - at) ≡ (each_from value (at + 1) (n - (at + 1)) >>= λ xs. Ok (x ∷ xs)) =
    from_here value n at within ∙ ap (λ r. r >>= λ y. each_from value (at + 1) (n - (at + 1)) >>= λ xs. Ok (y ∷ xs)) here in
    record { same = sym (with_more front x (each_from value (at + 1) (n - (at + 1)))) ∙ ap (with_front front) (sym e) ∙ reading.same }

pub stops : {A E : Type 0} (value : ℕ → Result A E) (n at : ℕ) (front : List A) (e : E) → IsReading value n at front → at < n → value at ≡ Err e → each_from value 0 n ≡ Err e
stops value n at front e reading within here =
    let all : each_from value at (n - at) ≡ Err e =
    from_here value n at within ∙ ap (λ r. r >>= λ y. each_from value (at + 1) (n - (at + 1)) >>= λ xs. Ok (y ∷ xs)) here in
    sym reading.same ∙ ap (with_front front) all

pub has_read : {A E : Type 0} (value : ℕ → Result A E) (n at : ℕ) (front : List A) → IsReading value n at front → n ≤ at → each_from value 0 n ≡ Ok front
has_read value n at front reading past =
    let e : n - at ≡ 0 = omega arith in
    sym reading.same ∙ (rw e (ap Ok (append-nil front)))

-- what a loop over a table needs
pub ruleset table_loop = (starts_reading, goes_on, stops, has_read)
