-- What holds of the faults of steps holds of their chain.
use Rattle.std.proofs.Common.{ℕ, zero, suc, ◌+◌, Bool, true, false, Result, Ok, Err, IfErr}
use Rattle.std.specs.Prelude.{if◌then◌else◌}
use Rattle.mo_types.specs.Gives.{◌>>=◌, each_from, guarded}

pub then_real : {A B E : Type 0} (P : E → Type 0) (r : Result A E) (next : A → Result B E) → IfErr r P → ((x : A) → IfErr (next x) P) → IfErr (r >>= next) P
then_real P (Ok x) next first rest = rest x
then_real P (Err e) next first rest = first

pub either : {A E : Type 0} (P : E → Type 0) (test : Bool) (a b : Result A E) → IfErr a P → IfErr b P → IfErr (if test then a else b) P
either P true a b one other = one
either P false a b one other = other

pub guarded_real : {A E : Type 0} (P : E → Type 0) (test : Bool) (e : E) (x : A) → P e → IfErr (guarded test e x) P
guarded_real P true e x real = tt
guarded_real P false e x real = real

pub each_real : {A E : Type 0} (P : E → Type 0) (value : ℕ → Result A E) → ((i : ℕ) → IfErr (value i) P) → (at n : ℕ) → IfErr (each_from value at n) P
each_real P value real at zero = tt
each_real P value real at (suc n) =
    then_real P (value at) _ (real at) (λ x.
    then_real P (each_from value (at + 1) n) _ (each_real P value real (at + 1) n) (λ xs. tt))
