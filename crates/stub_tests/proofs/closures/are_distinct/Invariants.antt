use Rattle.std.proofs.Common.{◌≢◌, List, ℕ, take}
use Rattle.std.specs.List.{AllPairs}
use Rattle.stub_tests.proofs.closures.are_distinct.Given as goal

abbrev pub invariant-loop-i : goal.invariant-loop-i
invariant-loop-i l = AllPairs (λ (a : List ℕ × List ℕ) (b : List ℕ × List ℕ). a.0 ≢ b.0) (take l.i l.files)
