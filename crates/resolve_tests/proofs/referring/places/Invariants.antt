use Rattle.std.proofs.Common.{All, ℕ, ◌<◌}
use Rattle.resolve_tests.proofs.referring.places.Given as goal

abbrev pub invariant-loop-i : goal.invariant-loop-i
invariant-loop-i l = All (λ (place : ℕ). place < 2) l.list
