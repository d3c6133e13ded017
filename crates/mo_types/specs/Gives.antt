-- Answers that may fail. A definition answers a value or the first fault, in the type that the code
-- answers too; want of memory alone is left to the code.
use Rattle.std.specs.Prelude.{ℕ, ◌+◌, ◌≡◌, zero, suc, List, [], ◌∷◌, Result, Ok, Err, Bool, if◌then◌else◌}

infixl 10 ◌>>=◌
-- the second answer over the value of the first, or the first one's fault
abbrev pub ◌>>=◌ : {A B E : Type 0} → Result A E → (A → Result B E) → Result B E
(Ok x) >>= next = next x
(Err e) >>= next = Err e

-- What a call returned is what the definition gives. A fault binds where it is one that definitions give.
abbrev pub Gives : {A E : Type 0} → (E → Type 0) → Result A E → Result A E → Type 0
Gives is_fault (Ok x) given = given ≡ Ok x
Gives is_fault (Err e) given = is_fault e → given ≡ Err e

-- the value where the test holds, or the fault
abbrev pub guarded : {A E : Type 0} → Bool → E → A → Result A E
guarded test fault x = if test then Ok x else Err fault

-- the values at n places from a place on, or the first fault
abbrev pub each_from : {A E : Type 0} → (ℕ → Result A E) → ℕ → ℕ → Result (List A) E
each_from value at zero = Ok []
each_from value at (suc n) = value at >>= λ x. each_from value (at + 1) n >>= λ xs. Ok (x ∷ xs)
