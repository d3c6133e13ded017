-- What holds of what a line of steps gives.
use Rattle.std.proofs.Common.{Result, Ok, Err, IfOk}
use Rattle.mo_types.specs.Gives.{◌>>=◌}

-- a step of which nothing has to be known
pub passed : {A B E : Type 0} (P : B → Type 0) (step : Result A E) (next : A → Result B E) → ((x : A) → IfOk (next x) P) → IfOk (step >>= next) P
passed P (Ok x) next holds = holds x
passed P (Err e) next holds = tt
