-- The marks at a gate where two workers meet.
use Rattle.std.specs.Prelude.{ℕ, Bool, not, ◌&&◌, ◌==◌, bit_and}

-- the mark is among these
abbrev pub has_mark : ℕ → ℕ → Bool
has_mark marks mark = not (bit_and marks mark == 0)

-- the marks of both workers, 1 and 2, are there, and that of one whose turns ran out, 4, isn't
abbrev pub has_met : ℕ → Bool
has_met marks = (has_mark marks 1 && has_mark marks 2) && not (has_mark marks 4)
