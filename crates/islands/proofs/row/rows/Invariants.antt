use Rattle.std.proofs.Common.{◌≡◌, All, IfSome, length, map, take}
use Rattle.islands.specs.Rows.{rows_of}
use Rattle.islands.specs.inner.Bounds.{IsNear}
use Rattle.islands.specs.inner.Held.{target_of}
use Rattle.islands.specs.inner.Known.{IsStand}
use Rattle.islands.proofs.row.rows.Given as goal

abbrev pub invariant-loop-at : goal.invariant-loop-at
invariant-loop-at l = record {
  exact : l.rows.items ≡ rows_of l.layout l.lasts (map target_of l.known.aims.now) (take l.at l.branches);
  near : All (IsNear (length l.lasts)) l.rows.items;
  stand : IfSome l.last (λ stand. IsStand l.layout l.lasts stand.key stand);
}
