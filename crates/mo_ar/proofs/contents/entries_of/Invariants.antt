use Rattle.std.proofs.Common.{◌≤◌}
use Rattle.std.specs.Vec.{vec_capacity}
use Rattle.mo_ar.proofs.ContentsLemmas.{IsTabling}
use Rattle.mo_ar.proofs.contents.entries_of.Given as goal

abbrev pub invariant-loop-i : goal.invariant-loop-i
invariant-loop-i l = record {
  tabling : IsTabling l.table l.places l.i l.entries.items;
  room : l.count ≤ vec_capacity l.entries;
}
