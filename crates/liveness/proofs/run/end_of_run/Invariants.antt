use Rattle.std.proofs.Common.{ℕ, ◌<◌, ◌≤◌, get_or}
use Rattle.liveness.specs.Order.{place_at}
use Rattle.liveness.proofs.run.end_of_run.Given as goal

abbrev pub invariant-loop-to : goal.invariant-loop-to
invariant-loop-to l = (k d : ℕ) → k < l.to → place_at l.refs (get_or l.order k d) ≤ l.at
