use Rattle.std.proofs.Common.{ℕ, ◌-◌, ◌*◌, length}
use Rattle.std.specs.List.{sum_by}
use Rattle.fold_code.specs.inner.Rounds.{IsRound}
use Rattle.fold_code.proofs.folding.fold.Given as goal

abbrev pub invariant-rounds : goal.invariant-rounds
invariant-rounds l = IsRound l.nodes l.firsts.items

abbrev pub decreases-rounds : goal.decreases-rounds
decreases-rounds l = length l.nodes * length l.nodes - sum_by (λ (x : ℕ). x) l.firsts.items
