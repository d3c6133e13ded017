-- Even shares of a number of jobs.
use Rattle.std.specs.Prelude.{ℕ, ◌+◌, ◌-◌, ◌*◌, ◌/◌}

-- worker i's jobs, from the first number up to the second
abbrev pub share_of : ℕ → ℕ → ℕ → ℕ × ℕ
share_of jobs workers i = (jobs * i / workers, jobs * (i + 1) / workers)

-- how many they are
abbrev pub share_len : ℕ → ℕ → ℕ → ℕ
share_len jobs workers i = (share_of jobs workers i).1 - (share_of jobs workers i).0
