use Rattle.std.proofs.Common.{◌≤◌, ◌<◌, length, ℕ}
use Rattle.std.specs.Prelude.{slice_index}
use Rattle.mo_ar.proofs.index.ahead.Given as goal

abbrev pub invariant-loop-i : goal.invariant-loop-i
invariant-loop-i l = (bound : ℕ) → ((b : ℕ) → b < length l.heads → slice_index l.heads b ≤ bound) → l.greatest ≤ bound
