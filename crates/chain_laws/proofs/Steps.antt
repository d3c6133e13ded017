-- Answers that are taken one after the other.
use Rattle.std.proofs.Common.{◌≡◌, ap, ◌∙◌, Result, Ok, Err}
use Rattle.mo_types.specs.Gives.{◌>>=◌}

pub goes_on : {A B E : Type 0} (r : Result A E) (x : A) (next : A → Result B E) (y : Result B E) → r ≡ Ok x → next x ≡ y → (r >>= next) ≡ y
goes_on r x next y e f = ap (λ z. z >>= next) e ∙ f

pub ends : {A B E : Type 0} (r : Result A E) (e : E) (next : A → Result B E) → r ≡ Err e → (r >>= next) ≡ Err e
ends r e next f = ap (λ z. z >>= next) f
