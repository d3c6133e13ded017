use Rattle.std.proofs.Common.{◌≡◌, ℕ, ◌<◌, [], length, get_or}
use Rattle.fold_code.specs.Fold.{partition_of}
use Rattle.fold_code.specs.inner.Rounds.{row_of}
use Rattle.fold_code.proofs.round.rows.Given as goal

abbrev pub invariant-loop-node : goal.invariant-loop-node
invariant-loop-node l = record {
  each : length l.rows.items ≡ l.node;
  row : (node : ℕ) → node < l.node → get_or l.rows.items node [] ≡ row_of (partition_of l.firsts) node (get_or l.fn.ends node []);
}
