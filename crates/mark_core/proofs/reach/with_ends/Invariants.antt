use Rattle.std.proofs.Common.{◌≡◌, map, take}
use Rattle.indexmap.specs.IndexSet.{insert_all}
use Rattle.mark_core.specs.inner.Arrows.{end_of}
use Rattle.mark_core.specs.Kept.{same_atom}
use Rattle.mark_core.proofs.reach.with_ends.Given as goal

abbrev pub invariant-loop-arrow : goal.invariant-loop-arrow
invariant-loop-arrow l = l.found.keys ≡ insert_all same_atom l.fn.before.keys (map end_of (take l.arrow-index l.arrows))
