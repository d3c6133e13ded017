use Rattle.std.proofs.Common.{◌≡◌, length}
use Rattle.island_core.specs.inner.Rounds.{AreCounts}
use Rattle.island_core.proofs.rounds.count_all.Given as goal

abbrev pub invariant-loop-pair : goal.invariant-loop-pair
invariant-loop-pair l = record {
  counts : AreCounts l.set l.pair-index l.counts;
  long : length l.counts ≡ length l.fn.counts;
}
