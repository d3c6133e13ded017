-- Counts of faults. A count stands still at the end of its type.
use Rattle.std.specs.Prelude.{ℕ, ◌+◌, ◌-◌, ◌^◌, ◌≤◌, min}

-- the count rose, unless it stood at the end of 64 bits
abbrev pub Rises : ℕ → ℕ → Type 0
Rises old new = min (old + 1) (2 ^ 64 - 1) ≤ new
