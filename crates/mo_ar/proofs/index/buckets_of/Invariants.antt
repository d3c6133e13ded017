use Rattle.std.proofs.Common.{◌≡◌, ◌+◌, ◌-◌, ◌≤◌, length}
use Rattle.std.specs.Vec.{vec_capacity}
use Rattle.mo_ar.specs.inner.Hash.{AreMarks}
use Rattle.mo_ar.specs.inner.Offered.{AreBucketsFrom}
use Rattle.mo_ar.proofs.index.buckets_of.Given as goal

abbrev pub invariant-loop-i : goal.invariant-loop-i
invariant-loop-i l = record {
  are : AreBucketsFrom l.offered l.count l.from l.buckets.items;
  marks : AreMarks l.offered.strings.now l.marks.items;
  size : l.from + length l.buckets.items ≡ l.i;
  room : l.to - l.from ≤ vec_capacity l.buckets;
}
