-- Counts of faults after a call.
use Rattle.std.specs.Prelude.{ℕ, ◌≡◌, ◌+◌, ◌-◌, ◌^◌, min, List, Bool, true, false, IsUtf8}
use Rattle.mo_outside.specs.Answers.{Answer, There, Absent, Unread, Refused}

-- one fault more, unless the count stands at the end of 64 bits
abbrev pub one_more : ℕ → ℕ
one_more faults = min (faults + 1) (2 ^ 64 - 1)

-- the count after a call, of which the first argument says whether it failed
abbrev pub counted : Bool → ℕ → ℕ
counted true faults = one_more faults
counted false faults = faults

-- whether a fetch couldn't read its file
abbrev pub is_unread : Answer → Bool
is_unread (There bytes) = false
is_unread Absent = false
is_unread Unread = true
is_unread Refused = false

-- A fetch counts a file that it couldn't read, as one whose path is no text. Of what a file holds nothing is known.
pub record DiskFetch (path : List ℕ) (answer : Answer) (old new : ℕ) : Type 0 where
  pub counts : new ≡ counted (is_unread answer) old
  pub no_text : ¬ IsUtf8 path → answer ≡ Unread
