use Rattle.std.proofs.Common.{◌+◌, ◌^◌, ◌≤◌, drop, length}
use Rattle.mo_ar.specs.inner.Hash.{AreMarks}
use Rattle.mo_ar.specs.inner.Index.{IsIndex, offers_of}
use Rattle.mo_ar.proofs.index.built.Given as goal

abbrev pub invariant-loop-to : goal.invariant-loop-to
invariant-loop-to l = record {
  index : IsIndex l.strings l.order.items (drop l.to (offers_of l.strings l.entries)) l.heads.items l.nodes.items;
  marks : AreMarks l.strings l.marks.items;
  buckets : length l.heads.items ≤ 2 ^ 32;
  within : l.to ≤ length l.entries;
  few : length l.nodes.items + l.to ≤ length l.entries;
}

abbrev pub decreases-loop-to : goal.decreases-loop-to
decreases-loop-to l = l.to
