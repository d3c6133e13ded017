-- Calls that are counted, some of which are to fail.
use Rattle.std.specs.Prelude.{ℕ, ◌+◌, ◌-◌, ◌^◌, ◌==◌, List, Bool, min, if◌then◌else◌}
use Rattle.std.specs.List.{list_any}

-- the calls that are to fail, by their numbers from 1 on, how many were made, and how many failed
pub record Calls : Type 0 where
  pub failing : List ℕ
  pub made : ℕ
  pub faults : ℕ

-- the number of the next call is one of those
abbrev pub is_failing : Calls → Bool
is_failing calls = list_any (λ number. number == calls.made + 1) calls.failing

-- one more, unless the count stands at the end of 64 bits
abbrev pub one_more : ℕ → ℕ
one_more count = min (count + 1) (2 ^ 64 - 1)

-- the counts after a call
abbrev pub counted : Bool → Calls → Calls
counted failed calls =
    record calls { made = one_more calls.made; faults = if failed then one_more calls.faults else calls.faults }
