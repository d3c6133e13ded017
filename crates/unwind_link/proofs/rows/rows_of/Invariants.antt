use Rattle.std.proofs.Common.{◌≡◌, map, take}
use Rattle.std.specs.Prelude.{IfSome}
use Rattle.ref_meet.specs.Ready.{scene_of}
use Rattle.unwind_link.specs.Rows.{row_of}
use Rattle.unwind_link.specs.inner.Last.{IsKnown}
use Rattle.unwind_link.proofs.rows.rows_of.Given as goal

abbrev pub invariant-loop-one : goal.invariant-loop-one
invariant-loop-one l = (l.rows.items ≡ map (row_of (scene_of l.scene)) (take l.one-index l.kept)) × IfSome l.last (IsKnown (scene_of l.scene))
