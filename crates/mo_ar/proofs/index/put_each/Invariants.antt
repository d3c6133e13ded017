use Rattle.std.proofs.Common.{◌+◌, ◌≤◌, length}
use Rattle.mo_ar.specs.inner.Offered.{AreBucketsFrom, IsIndexFrom}
use Rattle.mo_ar.proofs.index.put_each.Given as goal

abbrev pub invariant-loop-at : goal.invariant-loop-at
invariant-loop-at l = record {
  index : IsIndexFrom l.offered l.at l.heads l.nodes.items;
  buckets : AreBucketsFrom l.offered (length l.heads) l.from l.buckets;
  greatest : l.greatest ≤ length l.nodes.items;
  low : l.from ≤ l.at;
  high : l.at ≤ l.to;
  few : length l.nodes.items + l.at ≤ length l.offered.entries.now;
}

abbrev pub decreases-loop-at : goal.decreases-loop-at
decreases-loop-at l = l.at
