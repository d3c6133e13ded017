use Rattle.std.proofs.Common.{◌*◌, ◌^◌, ◌<◌, ◌≤◌, ◌++◌, length, drop, None}
use Rattle.sect_place.specs.Moved.{areas_bytes}
use Rattle.sect_place.specs.Shifts.{steps_from}
use Rattle.sect_place.proofs.Shifting.{Stepping}
use Rattle.sect_place.proofs.shift.add_steps.Given as goal

abbrev pub invariant-loop-area : goal.invariant-loop-area
invariant-loop-area l = record {
  stepping : Stepping l.unit l.bytes (drop l.area-index l.areas) l.steps.items (l.initial.steps.items ++ steps_from l.unit 0 l.areas) (areas_bytes l.unit None l.areas);
  small : l.bytes ≤ length l.steps.items * (13 * 2 ^ 64);
  low : l.bytes < 2 ^ 126;
}
