-- Bytes in the first part of an executable, which begins behind `__PAGEZERO` (`loader.h`).
use Rattle.std.specs.Prelude.{ℕ, ◌+◌, ◌≤◌, ◌^◌, IfSome, Option}

abbrev pub IsNear : ℕ → Option ℕ → Type 0
IsNear size start = IfSome start (λ at. (2 ^ 32 ≤ at) × (at + size ≤ 2 ^ 33))
