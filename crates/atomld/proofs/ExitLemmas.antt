-- A result that is known to be a value.
use Rattle.std.proofs.Common.{◌≡◌, Result, Ok, IfOk, sym, subst}

pub if_ok_is : {T E : Type 0} (P : T → Type 0) (r : Result T E) (x : T) → r ≡ Ok x → P x → IfOk r P
if_ok_is P r x is holds = subst (λ s. IfOk s P) (sym is) holds

pub ruleset values = (if_ok_is)
