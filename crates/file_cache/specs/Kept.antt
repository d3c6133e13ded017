-- What is kept of what files answered, and what files say of themselves.
use Rattle.std.specs.Prelude.{ℕ, List, map, Option, Some, None, bytes_eq}
use Rattle.std.specs.Map.{lookup}
use Rattle.mo_outside.specs.Answers.{Answer, Exchange, There, Absent}
use Rattle.mo_outside.specs.Files.{FileMap}

-- what is kept for a path
abbrev pub kept_at : List ℕ → List (List ℕ × Option (List ℕ)) → Option (Option (List ℕ))
kept_at path kept = lookup (bytes_eq path) kept

-- what was answered
abbrev pub answer_kept : Option (List ℕ) → Answer
answer_kept (Some bytes) = There bytes
answer_kept None = Absent

abbrev pub exchange_kept : List ℕ × Option (List ℕ) → Exchange
exchange_kept pair = (pair.0, answer_kept pair.1)

-- What files and what is kept of them say before or after: what the files are, what they hold and for which paths they were
-- asked, where they tell these, how many faults there were, and what was answered so far.
pub record FilesSeen (S : Type 0) : Type 0 where
  pub self : S
  pub holds : Option FileMap
  pub told : Option (List (List ℕ))
  pub faults : ℕ
  pub kept : List Exchange

abbrev pub seen : {S : Type 0} → (S → Option FileMap) → (S → Option (List (List ℕ))) → (S → ℕ) → S → List (List ℕ × Option (List ℕ)) → FilesSeen S
seen holds told faults self cache =
    record { self = self; holds = holds self; told = told self; faults = faults self; kept = map exchange_kept cache }
