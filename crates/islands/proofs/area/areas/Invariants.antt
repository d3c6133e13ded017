use Rattle.std.proofs.Common.{◌≡◌, ◌++◌, drop, map}
use Rattle.islands.specs.Plan.{areas_from}
use Rattle.islands.specs.inner.Held.{target_of}
use Rattle.islands.proofs.area.areas.Given as goal

abbrev pub invariant-loop-group : goal.invariant-loop-group
invariant-loop-group l = l.areas.items ++ areas_from (map target_of l.aims) l.far l.group (drop l.group l.lasts) ≡ areas_from (map target_of l.aims) l.far 0 l.lasts
