use Rattle.std.proofs.Common.{◌<◌, ◌≤◌}
use Rattle.mark_race.specs.inner.Team.{IsAtLevel}
use Rattle.mark_race.proofs.LevelLemmas.{left}
use Rattle.mark_race.proofs.levels.run_levels.Given as goal

abbrev pub invariant-levels : goal.invariant-levels
invariant-levels g l = record { level : IsAtLevel l.course.race.now l.course.ends.now l.marker l.work.items; count : (0 < l.count) × (l.count ≤ l.workers) }

abbrev pub decreases-levels : goal.decreases-levels
decreases-levels g l = left l.course.race.now l.marker l.work.items
