use Rattle.std.proofs.Common.{All, List, ℕ, ◌<◌}
use Rattle.resolve_tests.proofs.referring.all_places.Given as goal

abbrev pub invariant-loop-names : goal.invariant-loop-names
invariant-loop-names l = All (λ (file : List ℕ). All (λ (place : ℕ). place < 2) file) l.lists
