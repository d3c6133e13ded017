-- A step either has a value or a fault.
use Rattle.std.proofs.Common.{◌≡◌, Result, Ok, Err}

pub no_value : {A E : Type 0} {Y : Type 0} (x : E) (y : A) → ◌≡◌ {A = Result A E} (Err x) (Ok y) → Y
no_value x y e = absurd cc

pub no_fault : {A E : Type 0} {Y : Type 0} (x : A) (y : E) → ◌≡◌ {A = Result A E} (Ok x) (Err y) → Y
no_fault x y e = absurd cc

pub same_value : {A E : Type 0} (x y : A) → ◌≡◌ {A = Result A E} (Ok x) (Ok y) → x ≡ y
same_value x y e = cc
